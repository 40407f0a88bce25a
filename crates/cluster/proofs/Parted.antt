-- What parted clusters give: which clusters matter, single posts, and two clusters made one.
use Rattle.std.proofs.Common.{◌≡◌, ℕ, ◌^◌, ◌<◌, true, false, cond, ◌⊎◌, sym, refl, ap, ◌∙◌, subst, inl, inr, ⊎_elim, arith}
use lib.Bits.{bit_or}
use Rattle.std.proofs.lemmas.Bool.{both_ways, cases_Bool, or_cases, or_left, or_right, eqb-true}
use Rattle.std.proofs.lemmas.Bool.Decides.{nat_tests}
use Rattle.order.proofs.PostSets.{has_empty, has_single, has_union}
use Rattle.order.specs.Posts.{has}
use Rattle.cluster.specs.Laws.{Parted}

-- only the clusters of posts below n matter
pub parted_like : (n : ℕ) (c d : ℕ → ℕ) → ((p : ℕ) → p < n → d p ≡ c p) → Parted n c → Parted n d
parted_like n c d e w =
    record {
      own = λ p l. rw (e p l) (w.own p l);
      inside = λ p q l h. w.inside p q l (rw (e p l) at h);
      shared = λ p q l h. let k = rw (e p l) at h in e q (w.inside p q l k) ∙ w.shared p q l k ∙ sym (e p l);
    }

-- ---- single posts

single_own : (p q : ℕ) → has (2 ^ p) q ≡ true → q ≡ p
single_own p q h = eqb-true q p (sym (has_single p q) ∙ h)

pub parted_singles : (n : ℕ) (c : ℕ → ℕ) → ((p : ℕ) → p < n → c p ≡ 2 ^ p) → Parted n c
parted_singles n c e =
    parted_like n (λ p. 2 ^ p) c e
    (record {
      own = λ p l. let t = has_single p p in grind (arith, nat_tests);
      inside = λ p q l h. subst (λ (x : ℕ). x < n) (sym (single_own p q h)) l;
      shared = λ p q l h. ap (λ (x : ℕ). 2 ^ x) (single_own p q h);
    })

-- ---- two clusters made one

-- x is empty, or the cluster of each of its members
abbrev pub Closed : ℕ → (ℕ → ℕ) → ℕ → Type 0
Closed n c x = (q : ℕ) → has x q ≡ true → (q < n) × (c q ≡ x)

pub closed_empty : (n : ℕ) (c : ℕ → ℕ) → Closed n c 0
closed_empty n c q h = absurd (both_ways (has 0 q) (has_empty q) h)

pub closed_own : (n : ℕ) (c : ℕ → ℕ) (p : ℕ) → Parted n c → p < n → Closed n c (c p)
closed_own n c p w l q h = (w.inside p q l h, w.shared p q l h)

abbrev pub Joined : (ℕ → ℕ) → ℕ → ℕ → ℕ
Joined c both q = cond (has both q) both (c q)

pub in_both : (x y q : ℕ) → has (bit_or x y) q ≡ true → (has x q ≡ true) ⊎ (has y q ≡ true)
in_both x y q h = or_cases (has x q) (has y q) (sym (has_union x y q) ∙ h)

pub to_both : (x y q : ℕ) → (has x q ≡ true) ⊎ (has y q ≡ true) → has (bit_or x y) q ≡ true
to_both x y q h = has_union x y q ∙ ⊎_elim (or_left (has x q) (has y q)) (or_right (has x q) (has y q)) h

module _ (n : ℕ) (c : ℕ → ℕ) (x y : ℕ) (w : Parted n c) (cx : Closed n c x) (cy : Closed n c y) where
  -- a member of both has its cluster's members there too
  pub both_whole : (p q : ℕ) → has (bit_or x y) p ≡ true → has (c p) q ≡ true → has (bit_or x y) q ≡ true
  both_whole p q t h = to_both x y q (elim (in_both x y p t) [ inl k ↦ inl (rw (cx p k).1 at h) | inr k ↦ inr (rw (cy p k).1 at h) ])

  -- so a post outside both has none of both in its cluster
  apart : (p q : ℕ) → p < n → has (bit_or x y) p ≡ false → has (c p) q ≡ true → has (bit_or x y) q ≡ false
  apart p q l f h = elim (cases_Bool (has (bit_or x y) q)) [
    | inr g ↦ g
    | inl t ↦ absurd (both_ways (has (bit_or x y) p) f (both_whole q p t (ap (λ (s : ℕ). has s p) (w.shared p q l h) ∙ w.own p l)))
  ]

  below : (q : ℕ) → has (bit_or x y) q ≡ true → q < n
  below q h = elim (in_both x y q h) [ inl k ↦ (cx q k).0 | inr k ↦ (cy q k).0 ]

  inside : (p q : ℕ) → p < n → has (Joined c (bit_or x y) p) q ≡ true → q < n
  inside p q l h = elim (cases_Bool (has (bit_or x y) p)) [ inl t ↦ below q (rw t at h) | inr f ↦ w.inside p q l (rw f at h) ]

  shared : (p q : ℕ) → p < n → has (Joined c (bit_or x y) p) q ≡ true → Joined c (bit_or x y) q ≡ Joined c (bit_or x y) p
  shared p q l h = elim (cases_Bool (has (bit_or x y) p)) [
    | inl t ↦ let k = rw t at h in rw (t, k) refl
    | inr f ↦ let k = rw f at h in rw (f, apart p q l f k) (w.shared p q l k)
  ]

  pub parted_merged : Parted n (Joined c (bit_or x y))
  parted_merged = record {
    own = λ p l. elim (cases_Bool (has (bit_or x y) p)) [ inl t ↦ rw t t | inr f ↦ rw f (w.own p l) ];
    inside = inside;
    shared = shared;
  }
