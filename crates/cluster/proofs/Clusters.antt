-- Clusters: what the rule makes of a record, how a record changes the clusters, and that they stay a partition
-- within the limit.
use Rattle.std.proofs.Common.{◌≡◌, ℕ, ◌+◌, ◌^◌, ◌<◌, ◌≤◌, true, false, ◌⊎◌, [], ◌∷◌, sym, refl, ap, ◌∙◌, inl, inr, arith, pow_mono}
use mathlib.Core.HLevel.{is_prop→PathP, Π_prop}
use native.Mathlib.Bridge.{le_prop}
use lib.Bits.{or_lt}
use lib.Pow.{pow-lt}
use Rattle.std.proofs.lemmas.Bool.Decides.{nat_tests}
use Rattle.std.proofs.lemmas.Bool.{cases_Bool, cases_eq, eq-eqb, ne_eqb, cond-true, cond-false}
use Rattle.order.specs.History.{History, Valid, ground}
use Rattle.order.specs.History.Valid.{start, taken}
use Rattle.order.specs.Posts.{has, size}
use Rattle.order.specs.Records.{Bytes, post, kind, partner_post}
use Rattle.order.proofs.Held.{passed}
use Rattle.order.proofs.PostSets.{size_single, size_union}
use Rattle.order.proofs.Vectors.{when, unless}
use Rattle.cluster.specs.Clusters.{exchanges, decide, merged, cluster, outcome}
use Rattle.cluster.proofs.Parted.{parted_like, parted_singles, Closed, closed_own, Joined, to_both, both_whole, parted_merged}
use Rattle.cluster.specs.Laws.{Parted, ClustersPart, LimitKept, TogetherStays}
use Rattle.cluster.specs.Rules.{Rule, SameRule}
use Rattle.cluster.specs.declared.outcome.Outcome.{Outcome}
use Rattle.cluster.specs.declared.outcome.Outcome.TheVariants.{Plain, Merged, Across}

-- two policies with the same meaning are one
pub same_rule : (P Q : Rule) → SameRule P Q → P ≡ Q
same_rule P Q e = λ i. record {
  limit = e.limit i;
  says = λ a b x. e.says a b x i;
  least = is_prop→PathP (λ i. 1 ≤ e.limit i) (λ i. le_prop) P.least Q.least i;
  most = is_prop→PathP (λ i. e.limit i ≤ 64) (λ i. le_prop) P.most Q.most i;
  keeps = is_prop→PathP (λ i. (a b x : ℕ) → e.says a b x i ≡ true → a + b ≤ e.limit i) (λ i. Π_prop (λ a. Π_prop (λ b. Π_prop (λ x. Π_prop (λ t. le_prop))))) P.keeps Q.keeps i;
}

-- Each outcome, with why it is that one.
pub data Ruled (P : Rule) (c : ℕ → ℕ) (h : History) (r : Bytes) : Outcome → Type 0 where
  alone : (kind r ≡ 2 → ⊥) → Ruled P c h r Plain
  within : kind r ≡ 2 → has (c (post r)) (partner_post r) ≡ true → Ruled P c h r Plain
  merges : kind r ≡ 2 → has (c (post r)) (partner_post r) ≡ false
      → P.says (size (c (post r))) (size (c (partner_post r))) (exchanges h (c (post r)) (c (partner_post r))) ≡ true → Ruled P c h r Merged
  passes : kind r ≡ 2 → has (c (post r)) (partner_post r) ≡ false
      → P.says (size (c (post r))) (size (c (partner_post r))) (exchanges h (c (post r)) (c (partner_post r))) ≡ false → Ruled P c h r Across

pub ruled : (P : Rule) (c : ℕ → ℕ) (h : History) (r : Bytes) → Ruled P c h r (decide P c h r)
ruled P c h r = elim (cases_eq (kind r) 2) [
  | inl two ↦ rw (eq-eqb (kind r) 2 two, decide) (elim (cases_Bool (has (c (post r)) (partner_post r))) [
    | inl t ↦ rw t (within two t)
    | inr f ↦ rw f (elim (cases_Bool (P.says (size (c (post r))) (size (c (partner_post r))) (exchanges h (c (post r)) (c (partner_post r))))) [
      | inl t ↦ rw t (merges two f t)
      | inr g ↦ rw g (passes two f g)
    ])
  ])
  | inr ne ↦ rw (ne_eqb (kind r) 2 ne, decide) (alone ne)
]

-- How a record changes the cluster of post p: not at all, or p is in one of the two that merge.
pub data Moved (P : Rule) (h : History) (r : Bytes) (p : ℕ) : Type 0 where
  stays : cluster P (r ∷ h) p ≡ cluster P h p → Moved P h r p
  joins : kind r ≡ 2
      → P.says (size (cluster P h (post r))) (size (cluster P h (partner_post r))) (exchanges h (cluster P h (post r)) (cluster P h (partner_post r))) ≡ true
      → has (merged (cluster P h) r) p ≡ true → cluster P (r ∷ h) p ≡ merged (cluster P h) r → Moved P h r p

by_outcome : Outcome → (ℕ → ℕ) → Bytes → ℕ → ℕ
by_outcome o c r p =
    elim o [
      | Plain ↦ c p
      | Merged ↦ let both = merged c r in elim (has both p) [ true ↦ both | false ↦ c p ]
      | Across ↦ c p
    ]

pub cluster_same : (P : Rule) (h : History) (r : Bytes) (p : ℕ) → (outcome P h r ≡ Merged → ⊥) → cluster P (r ∷ h) p ≡ cluster P h p
unfolding cluster by_outcome
cluster_same P h r p ne = go (outcome P h r) ne
  where
    go : (o : Outcome) → (o ≡ Merged → ⊥) → by_outcome o (cluster P h) r p ≡ cluster P h p
    go Plain ne = refl
    go Merged ne = absurd (ne refl)
    go Across ne = refl

pub cluster_merged : (P : Rule) (h : History) (r : Bytes) (p : ℕ) → outcome P h r ≡ Merged → has (merged (cluster P h) r) p ≡ true → cluster P (r ∷ h) p ≡ merged (cluster P h) r
unfolding cluster by_outcome
cluster_merged P h r p e t = ap (λ (o : Outcome). by_outcome o (cluster P h) r p) e ∙ when _ _ _ t

pub cluster_apart : (P : Rule) (h : History) (r : Bytes) (p : ℕ) → outcome P h r ≡ Merged → has (merged (cluster P h) r) p ≡ false → cluster P (r ∷ h) p ≡ cluster P h p
unfolding cluster by_outcome
cluster_apart P h r p e f = ap (λ (o : Outcome). by_outcome o (cluster P h) r p) e ∙ unless _ _ _ f

pub cluster_start : (P : Rule) (p : ℕ) → cluster P [] p ≡ 2 ^ p
unfolding cluster
cluster_start P p = refl

pub moved : (P : Rule) (h : History) (r : Bytes) (p : ℕ) → Moved P h r p
moved P h r p = go (outcome P h r) refl (ruled P (cluster P h) h r)
  where
    go : (o : Outcome) → outcome P h r ≡ o → Ruled P (cluster P h) h r o → Moved P h r p
    go _ e (alone ne) = stays (cluster_same P h r p (λ m. cc))
    go _ e (within two t) = stays (cluster_same P h r p (λ m. cc))
    go _ e (passes two f says) = stays (cluster_same P h r p (λ m. cc))
    go _ e (merges two f says) = elim (cases_Bool (has (merged (cluster P h) r) p)) [
      | inl t ↦ joins two says t (cluster_merged P h r p e t)
      | inr g ↦ stays (cluster_apart P h r p e g)
    ]

-- both posts of a receive are among the n
inside_both : (n : ℕ) (h : History) (r : Bytes) → ground n h r ≡ 0 → kind r ≡ 2 → (post r < n) × (partner_post r < n)
inside_both n h r g two = let ok = passed n h r g in (ok.inside, (ok.pair two).inside)

pub to_merged : (c : ℕ → ℕ) (r : Bytes) (q : ℕ) → (has (c (post r)) q ≡ true) ⊎ (has (c (partner_post r)) q ≡ true) → has (merged c r) q ≡ true
to_merged c r q w = to_both (c (post r)) (c (partner_post r)) q w

-- a merge joins the two clusters
cluster_joined : (P : Rule) (h : History) (r : Bytes) (p : ℕ) → outcome P h r ≡ Merged → cluster P (r ∷ h) p ≡ Joined (cluster P h) (merged (cluster P h) r) p
cluster_joined P h r p e = elim (cases_Bool (has (merged (cluster P h) r) p)) [
  | inl t ↦ cluster_merged P h r p e t ∙ sym (cond-true _ _ _ t)
  | inr f ↦ cluster_apart P h r p e f ∙ sym (cond-false _ _ _ f)
]

module _ (P : Rule) (n : ℕ) (h : History) (r : Bytes) (g : ground n h r ≡ 0) (part : Parted n (cluster P h)) where
  closed : (p : ℕ) → p < n → Closed n (cluster P h) (cluster P h p)
  closed p l = closed_own n (cluster P h) p part l

  same_parted : (outcome P h r ≡ Merged → ⊥) → Parted n (cluster P (r ∷ h))
  same_parted other = parted_like n (cluster P h) (cluster P (r ∷ h)) (λ p l. cluster_same P h r p other) part

  pub parted_after : Parted n (cluster P (r ∷ h))
  parted_after = go (outcome P h r) refl (ruled P (cluster P h) h r)
    where
      go : (o : Outcome) → outcome P h r ≡ o → Ruled P (cluster P h) h r o → Parted n (cluster P (r ∷ h))
      go _ e (alone ne) = same_parted (λ m. cc)
      go _ e (within two t) = same_parted (λ m. cc)
      go _ e (passes two f says) = same_parted (λ m. cc)
      go _ e (merges two f says) =
          let both = inside_both n h r g two in
          parted_like n (Joined (cluster P h) (merged (cluster P h) r)) (cluster P (r ∷ h)) (λ p l. cluster_joined P h r p e)
          (parted_merged n (cluster P h) (cluster P h (post r)) (cluster P h (partner_post r)) part (closed (post r) both.0) (closed (partner_post r) both.1))

  grown : (p q : ℕ) → Moved P h r p → has (cluster P h p) q ≡ true → has (cluster P (r ∷ h) p) q ≡ true
  grown p q (stays e) t = ap (λ (m : ℕ). has m q) e ∙ t
  grown p q (joins two says u e) t =
      let both = inside_both n h r g two in
      ap (λ (m : ℕ). has m q) e
      ∙ both_whole n (cluster P h) (cluster P h (post r)) (cluster P h (partner_post r)) part (closed (post r) both.0) (closed (partner_post r) both.1) p q u t

pub parted : (P : Rule) {n : ℕ} {h : History} → Valid n h → Parted n (cluster P h)
parted P {n} start = parted_singles n (cluster P []) (λ p l. cluster_start P p)
parted P {n} (taken {r = r} {h = h} v g) = parted_after P n h r g (parted P v)

pub clusters_part : ClustersPart
clusters_part P n h most v = parted P v

-- a cluster only grows
pub cluster_grows : (P : Rule) {n : ℕ} (h : History) (r : Bytes) → Valid n h → ground n h r ≡ 0 → (p q : ℕ) → has (cluster P h p) q ≡ true → has (cluster P (r ∷ h) p) q ≡ true
cluster_grows P {n} h r v g p q t = grown P n h r g (parted P v) p q (moved P h r p) t

pub together_stays : TogetherStays
together_stays P n h r most (taken v g) p q l t = cluster_grows P h r v g p q t

-- the bits of a cluster are those of posts below n
pub cluster_bits : (P : Rule) {n : ℕ} {h : History} → Valid n h → (p : ℕ) → p < n → cluster P h p < 2 ^ n
cluster_bits P start p l = rw cluster_start (pow-lt l)
cluster_bits P {n} (taken {r = r} {h = h} v g) p l = go (moved P h r p) (λ x i. cluster_bits P v x i)
  where
    go : Moved P h r p → ((x : ℕ) → x < n → cluster P h x < 2 ^ n) → cluster P (r ∷ h) p < 2 ^ n
    go (stays e) ih = rw e (ih p l)
    go (joins two _ _ e) ih = let both = inside_both n h r g two in rw e (or_lt n (cluster P h (post r)) (cluster P h (partner_post r)) (ih (post r) both.0) (ih (partner_post r) both.1))

pub cluster_fits : (P : Rule) {n : ℕ} {h : History} → n ≤ 64 → Valid n h → (p : ℕ) → p < n → cluster P h p < 2 ^ 64
cluster_fits P {n} most v p l = omega (arith, cluster_bits P v p l, pow_mono most)

pub limit_kept : LimitKept
limit_kept P n h most start p l = omega (arith, ap size (cluster_start P p), size_single p (omega arith), P.least)
limit_kept P n _ most (taken {r = r} {h = h} v g) p l = go (moved P h r p) (limit_kept P n h most v)
  where
    go : Moved P h r p → ((x : ℕ) → x < n → size (cluster P h x) ≤ P.limit) → size (cluster P (r ∷ h) p) ≤ P.limit
    go (stays e) ih = rw e (ih p l)
    go (joins two says _ e) ih = rw e (omega (arith, size_union (cluster P h (post r)) (cluster P h (partner_post r)), P.keeps _ _ _ says))

-- between two clusters in either order
pub exchanges_swap : (h : History) (a b : ℕ) → exchanges h a b ≡ exchanges h b a
unfolding exchanges
exchanges_swap [] a b = refl
exchanges_swap (r ∷ h) a b = let ih = exchanges_swap h a b in grind (arith, nat_tests)
