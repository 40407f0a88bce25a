use Rattle.std.proofs.Common.{◌≡◌, ℕ, ◌+◌, ◌<◌, ◌≤◌, ◌⊎◌, get_or}
use Rattle.columns.specs.Cells.{cell_at}
use Rattle.columns.proofs.cells.write.Given as goal

-- the numbers so far are there, and all else is as it was
abbrev pub invariant-loop-i : goal.invariant-loop-i
invariant-loop-i l =
    record {
      there : (k : ℕ) → k < l.i → cell_at l.cells (l.at + k) ≡ get_or l.values k 0;
      elsewhere : (j : ℕ) → (j < l.at) ⊎ (l.at + l.i ≤ j) → cell_at l.cells j ≡ cell_at l.initial.cells j;
    }
