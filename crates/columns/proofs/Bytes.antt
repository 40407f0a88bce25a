-- Cells: what copying several leaves, and reading from one on.
use Rattle.std.proofs.Common.{◌≡◌, ℕ, ◌+◌, ◌-◌, ◌<◌, ◌≤◌, ◌⊎◌, List, [], ◌∷◌, length, get_or, take, drop, map, sym, refl, ap, ◌∙◌, arith}
use Rattle.std.proofs.lemmas.List.{get_or-drop, get_or-map, length-map, take_rest, places}
use borrow.Rule.Slice.PartMut.{put_mid}
use Rattle.columns.specs.Cells.{Cell, number_of, cell_at, Wrote}

abbrev zero : Cell
zero = 0 ∷ 0 ∷ []

-- cells copied
pub copied : (b from : List Cell) (at n : ℕ) → at + length from ≤ length b → n ≡ length from → Wrote (cell_at b) (cell_at (put_mid at n b from)) at (map number_of from)
unfolding cell_at
copied b from at n h e =
    record {
      there = λ i l.
          let l' : i < length from = omega (arith, length-map from number_of) in
          let same : get_or (put_mid at n b from) (at + i) zero ≡ get_or from i zero = grind (arith, places) in
          ap number_of same ∙ sym (get_or-map number_of from i zero 0 l');
      elsewhere = λ j l.
          let l' : (j < at) ⊎ (at + length from ≤ j) = rw length-map at l in
          let same : get_or (put_mid at n b from) j zero ≡ get_or b j zero = grind (arith, places) in
          ap number_of same;
    }

-- a cell of the cells from one on
pub from_there : (b : List Cell) (i k : ℕ) → cell_at (take (length b - i) (drop i b)) k ≡ cell_at b (i + k)
unfolding cell_at
from_there b i k = rw (take_rest b i, get_or-drop i b k zero) refl
