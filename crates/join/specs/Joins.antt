-- The two joins.
use Rattle.std.specs.Prelude.{◌≡◌, ℕ, suc, max, List, [], ◌∷◌, length, bit_or, refl}
use Rattle.std.proofs.Common.{sym, ap, ◌∙◌, arith}
use Rattle.order.specs.declared.posts.PostSet.{PostSet}
use Rattle.join.specs.declared.vector.Vector.{Vector}

-- the larger entry at each place
unfoldable pub larger : List ℕ → List ℕ → List ℕ
larger [] ys = ys
larger (x ∷ xs) [] = x ∷ xs
larger (x ∷ xs) (y ∷ ys) = max x y ∷ larger xs ys

pub length_larger : (xs ys : List ℕ) → length xs ≡ length ys → length (larger xs ys) ≡ length xs
unfolding larger
length_larger [] [] e = refl
length_larger [] (y ∷ ys) e = absurd (omega arith)
length_larger (x ∷ xs) [] e = absurd (omega arith)
length_larger (x ∷ xs) (y ∷ ys) e = ap suc (length_larger xs ys (omega arith))

abbrev pub larger_vector : Vector → Vector → Vector
larger_vector v w = record { entries = larger v.entries w.entries; full = length_larger v.entries w.entries (v.full ∙ sym w.full) ∙ v.full }

abbrev pub union_set : PostSet → PostSet → PostSet
union_set a b = record { bits = bit_or a.bits b.bits }
