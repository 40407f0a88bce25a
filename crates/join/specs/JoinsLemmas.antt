-- The two joins show the law. This stands in specs/ since the laws of an impl may cite no file of the crate's proofs/.
use Rattle.std.specs.Prelude.{◌≡◌, ℕ, zero, suc, ◌<◌, max, List, [], ◌∷◌, length, slice_index, refl}
use Rattle.std.proofs.Common.{sym, ap, ap₂, ◌∙◌, subst, arith}
use Rattle.std.proofs.Math.Nat.{ℕ_set}
use Rattle.std.proofs.lemmas.Nat.{or_comm}
use Rattle.std.specs.Int.Bits.{or_self}
use Rattle.order.proofs.PostSets.{union_assoc}
use Rattle.order.specs.declared.posts.PostSet.{PostSet}
use Rattle.join.specs.Joins.{larger, larger_vector, union_set}
use Rattle.join.specs.declared.vector.Vector.{Vector}

-- The larger entry at each place of two lists.

pub larger_assoc : (xs ys zs : List ℕ) → larger (larger xs ys) zs ≡ larger xs (larger ys zs)
unfolding larger
larger_assoc [] ys zs = refl
larger_assoc (x ∷ xs) [] zs = refl
larger_assoc (x ∷ xs) (y ∷ ys) [] = refl
larger_assoc (x ∷ xs) (y ∷ ys) (z ∷ zs) = ap₂ (λ (a : ℕ) (b : List ℕ). a ∷ b) (omega arith) (larger_assoc xs ys zs)

pub larger_comm : (xs ys : List ℕ) → larger xs ys ≡ larger ys xs
unfolding larger
larger_comm [] [] = refl
larger_comm [] (y ∷ ys) = refl
larger_comm (x ∷ xs) [] = refl
larger_comm (x ∷ xs) (y ∷ ys) = ap₂ (λ (a : ℕ) (b : List ℕ). a ∷ b) (omega arith) (larger_comm xs ys)

pub larger_self : (xs : List ℕ) → larger xs xs ≡ xs
unfolding larger
larger_self [] = refl
larger_self (x ∷ xs) = ap₂ (λ (a : ℕ) (b : List ℕ). a ∷ b) (omega arith) (larger_self xs)

pub get_or_larger : (xs ys : List ℕ) (i : ℕ) → length xs ≡ length ys → slice_index (larger xs ys) i ≡ max (slice_index xs i) (slice_index ys i)
unfolding larger
get_or_larger [] [] i e = omega arith
get_or_larger [] (y ∷ ys) i e = absurd (omega arith)
get_or_larger (x ∷ xs) [] i e = absurd (omega arith)
get_or_larger (x ∷ xs) (y ∷ ys) zero e = refl
get_or_larger (x ∷ xs) (y ∷ ys) (suc i) e = get_or_larger xs ys i (omega arith)

-- a list with the larger entry at each place is that list
pub larger_by : (xs ys zs : List ℕ) → length xs ≡ length ys → length ys ≡ length zs
    → ((k : ℕ) → k < length xs → slice_index xs k ≡ max (slice_index ys k) (slice_index zs k)) → xs ≡ larger ys zs
unfolding larger
larger_by [] [] [] a b at = refl
larger_by [] [] (z ∷ zs) a b at = absurd (omega arith)
larger_by [] (y ∷ ys) zs a b at = absurd (omega arith)
larger_by (x ∷ xs) [] zs a b at = absurd (omega arith)
larger_by (x ∷ xs) (y ∷ ys) [] a b at = absurd (omega arith)
larger_by (x ∷ xs) (y ∷ ys) (z ∷ zs) a b at =
    ap₂ (λ (v : ℕ) (vs : List ℕ). v ∷ vs) (at 0 (omega arith)) (larger_by xs ys zs (omega arith) (omega arith) (λ k l. at (suc k) (omega arith)))

-- Vectors.

-- those of the same entries are the same
pub same_entries : (v w : Vector) → v.entries ≡ w.entries → v ≡ w
same_entries v w e =
    subst (λ (xs : List ℕ). (f : length xs ≡ 64) → v ≡ record { entries = xs; full = f }) e
    (λ f. ap (λ (g : length v.entries ≡ 64). record { entries = v.entries; full = g }) (ℕ_set _ _ v.full f)) w.full

-- for each post stands the larger entry
pub entry_joined : (v w : Vector) (q : ℕ) → slice_index (larger_vector v w).entries q ≡ max (slice_index v.entries q) (slice_index w.entries q)
entry_joined v w q = get_or_larger v.entries w.entries q (v.full ∙ sym w.full)

pub vectors_associative : (u v w : Vector) → larger_vector (larger_vector u v) w ≡ larger_vector u (larger_vector v w)
vectors_associative u v w = same_entries _ _ (larger_assoc u.entries v.entries w.entries)

pub vectors_commutative : (v w : Vector) → larger_vector v w ≡ larger_vector w v
vectors_commutative v w = same_entries _ _ (larger_comm v.entries w.entries)

pub vectors_idempotent : (v : Vector) → larger_vector v v ≡ v
vectors_idempotent v = same_entries _ _ (larger_self v.entries)

-- Sets.

abbrev set : ℕ → PostSet
set n = record { bits = n }

pub sets_associative : (a b c : PostSet) → union_set (union_set a b) c ≡ union_set a (union_set b c)
sets_associative a b c = ap set (union_assoc a.bits b.bits c.bits)

pub sets_commutative : (a b : PostSet) → union_set a b ≡ union_set b a
sets_commutative a b = ap set (or_comm a.bits b.bits)

pub sets_idempotent : (a : PostSet) → union_set a a ≡ a
sets_idempotent a = ap set (or_self a.bits)
