use Rattle.std.proofs.Common.{◌≡◌, ◌-◌, ◌^◌, None, min, vec_items, vec_len}
use Rattle.report.proofs.work.Given as goal
use Rattle.report.specs.Reports.{cost}

abbrev pub invariant-loop-taken : goal.invariant-loop-taken
invariant-loop-taken g l = record {
  lines : vec_len l.report.lines ≡ l.taken;
  goes_on : l.report.refusal ≡ None;
  prices : l.report.prices ≡ min (cost (vec_items l.report.lines)) (2 ^ 64 - 1);
}
