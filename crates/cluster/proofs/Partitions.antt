-- What a partition's type invariant gives, and what a merge leaves of it.
use Rattle.std.proofs.Common.{◌≡◌, ℕ, ◌<◌, ◌≤◌, true, false, cond, ltb, ◌⊎◌, List, sym, refl, ap, ◌∙◌, subst, inl, inr, arith}
use mathlib.Core.Bool.{Bool-set}
use mathlib.Core.Logic.{∥∥₁_elim}
use native.Mathlib.Bridge.{le_prop}
use native.Mathlib.Nat.{ℕ_set}
use lib.Bits.{bit_or, or_zero_l, or_zero_r}
use Rattle.std.proofs.lemmas.Bool.{cases_Bool, cases_lt, cond-true, cond-false, cond_both, lt-ltb, le-ltb}
use Rattle.order.specs.Posts.{has}
use Rattle.order.specs.declared.posts.PostSet.{PostSet}
use Rattle.cluster.specs.Laws.{Parted}
use Rattle.cluster.proofs.Parted.{parted_like, Closed, closed_empty, closed_own, Joined, in_both, parted_merged}
use Rattle.cluster.specs.Partitions.{clusters, joined}
use Rattle.cluster.specs.Sets.{bits_at}
use Rattle.cluster.specs.declared.partition.Partition.{Partition}

-- the fact in the type, to work with
pub whole : (n : ℕ) (c : ℕ → ℕ) → ∥ Parted n c ∥₁ → Parted n c
whole n c t =
    record {
      own = λ p l. ∥∥₁_elim t (Bool-set (has (c p) p) true) (λ w. w.own p l);
      inside = λ p q l h. ∥∥₁_elim t le_prop (λ w. w.inside p q l h);
      shared = λ p q l h. ∥∥₁_elim t (ℕ_set (c q) (c p)) (λ w. w.shared p q l h);
    }

pub known : (s : Partition) (p : ℕ) → p < s.posts → clusters s p ≡ bits_at s.sets p
known s p l = cond-true (ltb p s.posts) (bits_at s.sets p) 0 (lt-ltb p s.posts l)

pub unknown : (s : Partition) (p : ℕ) → s.posts ≤ p → clusters s p ≡ 0
unknown s p l = cond-false (ltb p s.posts) (bits_at s.sets p) 0 (le-ltb p s.posts l)

-- a partition parts its posts
pub parts : (s : Partition) → Parted s.posts (clusters s)
parts s = parted_like s.posts (bits_at s.sets) (clusters s) (known s) (whole s.posts (bits_at s.sets) s.parted)

-- ---- a merge

closed_at : (s : Partition) (p : ℕ) → Closed s.posts (clusters s) (clusters s p)
closed_at s p =
    elim (cases_lt p s.posts) [
      | inl l ↦ closed_own s.posts (clusters s) p (parts s) l
      | inr l ↦ subst (λ (x : ℕ). Closed s.posts (clusters s) x) (sym (unknown s p l)) (closed_empty s.posts (clusters s))
    ]

-- The table that a merge leaves: the members of both have both for their own, and the others what they had.
abbrev Rewritten : Partition → ℕ → List PostSet → Type 0
Rewritten s both sets = (q : ℕ) → q < 64 → bits_at sets q ≡ cond (has both q) both (bits_at s.sets q)

rewritten_at : (s : Partition) (both : ℕ) (sets : List PostSet) → Rewritten s both sets → (q : ℕ) → q < s.posts → bits_at sets q ≡ Joined (clusters s) both q
rewritten_at s both sets e q l = e q (omega (arith, s.few)) ∙ ap (λ (x : ℕ). cond (has both q) both x) (sym (known s q l))

pub merged_parted
    : (s : Partition) (a b both : ℕ) (sets : List PostSet) → both ≡ bit_or (clusters s a) (clusters s b) → Rewritten s both sets → Parted s.posts (bits_at sets)
merged_parted s a b both sets j e =
    parted_like s.posts (Joined (clusters s) both) (bits_at sets) (rewritten_at s both sets e)
    (rw j (parted_merged s.posts (clusters s) (clusters s a) (clusters s b) (parts s) (closed_at s a) (closed_at s b)))

-- no member of two clusters is unknown
outside : (s : Partition) (a b q : ℕ) → s.posts ≤ q → has (bit_or (clusters s a) (clusters s b)) q ≡ false
outside s a b q g =
    elim (cases_Bool (has (bit_or (clusters s a) (clusters s b)) q)) [
      | inr f ↦ f
      | inl t ↦ elim (in_both (clusters s a) (clusters s b) q t) [ inl k ↦ absurd (omega (arith, (closed_at s a q k).0)) | inr k ↦ absurd (omega (arith, (closed_at s b q k).0)) ]
    ]

pub merged_clusters
    : (s : Partition) (a b both : ℕ) (sets : List PostSet) → both ≡ bit_or (clusters s a) (clusters s b) → Rewritten s both sets
    → (q : ℕ) → cond (ltb q s.posts) (bits_at sets q) 0 ≡ joined (clusters s) a b q
merged_clusters s a b both sets j e q =
    elim (cases_lt q s.posts) [
      | inl l ↦ cond-true (ltb q s.posts) (bits_at sets q) 0 (lt-ltb q s.posts l) ∙ rewritten_at s both sets e q l ∙ ap (λ (x : ℕ). Joined (clusters s) x q) j
      | inr g ↦
          let x = bit_or (clusters s a) (clusters s b) in
          cond-false (ltb q s.posts) (bits_at sets q) 0 (le-ltb q s.posts g) ∙ sym (unknown s q g) ∙ sym (cond-false (has x q) x (clusters s q) (outside s a b q g))
    ]

-- a cluster, given to its members, is what they had
own_again : (s : Partition) (p q : ℕ) → Joined (clusters s) (clusters s p) q ≡ clusters s q
own_again s p q = cond_both (has (clusters s p) q) (clusters s p) (clusters s q) (λ x. x ≡ clusters s q) (λ t. sym (closed_at s p q t).1) (λ _. refl)

pub merged_unknown : (s : Partition) (a b : ℕ) → (s.posts ≤ a) ⊎ (s.posts ≤ b) → (q : ℕ) → joined (clusters s) a b q ≡ clusters s q
merged_unknown s a b (inl u) q =
    ap (λ (x : ℕ). Joined (clusters s) x q) (ap (λ (x : ℕ). bit_or x (clusters s b)) (unknown s a u) ∙ or_zero_l (clusters s b)) ∙ own_again s b q
merged_unknown s a b (inr u) q =
    ap (λ (x : ℕ). Joined (clusters s) x q) (ap (bit_or (clusters s a)) (unknown s b u) ∙ or_zero_r (clusters s a)) ∙ own_again s a q

-- what a merge leaves of clusters that are the same for the posts below n
pub joined_like
    : (n : ℕ) (c d : ℕ → ℕ) → ((q : ℕ) → q < n → c q ≡ d q) → (a b : ℕ) → a < n → b < n → (q : ℕ) → q < n → joined c a b q ≡ joined d a b q
joined_like n c d e a b l m q k =
    let both : bit_or (c a) (c b) ≡ bit_or (d a) (d b) = ap (λ (x : ℕ). bit_or x (c b)) (e a l) ∙ ap (bit_or (d a)) (e b m) in
    ap (λ (x : ℕ). cond (has x q) x (c q)) both ∙ ap (cond (has (bit_or (d a) (d b)) q) (bit_or (d a) (d b))) (e q k)
