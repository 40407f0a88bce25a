-- What the stamp that a record is to have takes from the history.
use Rattle.std.proofs.Common.{◌≡◌, ℕ, ◌-◌, ◌^◌, ◌<◌, ◌≤◌, min, Bool, true, false, eqb, ◌∷◌, map, length, Ok, Result, sym, ap, ◌∙◌, subst, inl, inr, arith}
use mathlib.Core.Path.{fun_ext}
use lib.Bits.{bit_or}
use Rattle.cluster.proofs.Covers.{latest_full_new, latest_full_part, latest_full_zero}
use Rattle.cluster.proofs.Kept.{kept_full}
use Rattle.cluster.specs.Clusters.{all, cluster, cover, cover_by, exchanges, latest_full, outcome}
use Rattle.cluster.specs.Partitions.{clusters}
use Rattle.cluster.specs.Rules.{Rule}
use Rattle.cluster.specs.declared.outcome.Outcome.{Outcome}
use Rattle.cluster.specs.declared.outcome.Outcome.TheVariants.{Plain, Merged, Across}
use Rattle.cluster.specs.declared.policy.Policy.{Ghosts as OfPolicy}
use Rattle.join.specs.declared.vector.Vector.{Vector}
use Rattle.keeper.specs.Answers.{ask_full}
use Rattle.keeper.specs.declared.fault.KeeperFault.{KeeperFault}
use Rattle.keeper.specs.declared.Keeper.{Ghosts as OfKeeper}
use Rattle.order.proofs.Held.{passed, length_most}
use Rattle.order.proofs.Vectors.{when, unless}
use Rattle.order.specs.History.{History, count, ground}
use Rattle.order.specs.Posts.{has, members, size}
use Rattle.order.specs.Records.{Bytes, kind, number, partner_post, post}
use Rattle.order.specs.declared.event.Event.{Event}
use Rattle.std.proofs.lemmas.Bool.{cases_eq, eq-eqb, ne_eqb}
use Rattle.station.proofs.Reading.{asked}
use Rattle.station.proofs.VectorReading.{unheld}
use Rattle.std.specs.Result.{result_unwrap_or}
use Rattle.station.specs.Drafts.{Ruled, at}
use Rattle.station.specs.Stands.{Stands}
use Rattle.station.specs.declared.state.Station.{Station}
use Rattle.station.specs.declared.drafts.Ruling.{Ruling}

-- the entries of a vector are those that are known of it
pub entries_known : (v : Vector) (f : ℕ → ℕ) → ((q : ℕ) → at v q ≡ f q) → {c d : ℕ} → c ≡ d → map (at v) (members c) ≡ map f (members d)
entries_known v f e same = let known : at v ≡ f = fun_ext e in λ i. map (known i) (members (same i))

-- ---- plain facts

-- the first n posts are all posts
pub first-all : (n m bits : ℕ) → n ≤ 64 → m ≡ n → bits ≡ 2 ^ min m 64 - 1 → bits ≡ all n
first-all n m bits few e b = let k : min m 64 ≡ n = omega arith in b ∙ ap (λ (k : ℕ). 2 ^ k - 1) k

-- an answer to a question whose parts are known
pub answers : (says : ℕ → ℕ → ℕ → Bool) {a x b y c z : ℕ} {r t : Bool} → r ≡ says a b c → a ≡ x → b ≡ y → c ≡ z → r ≡ t → says x y z ≡ t
answers says e p q s f = sym (e ∙ (λ i. says (p i) (q i) (s i))) ∙ f

-- ---- what the cluster rule says of a record

module _ (P : Rule) (n : ℕ) (h : History) (b : Bytes) (r : Ruling) (own : ℕ) (own_is : own ≡ cluster P h (post b)) where
  -- by the outcome, the cover
  by_outcome : (o : Outcome) → r.outcome ≡ o → outcome P h b ≡ o → r.cover.bits ≡ cover_by n o (cluster P h) b → Ruled P n h b r
  by_outcome o is rules covers = record { outcome_is = is ∙ sym rules; cover_is = covers ∙ sym (ap (λ (o : Outcome). cover_by n o (cluster P h) b) rules) }

  pub ruled_alone : (kind b ≡ 2 → ⊥) → r.outcome ≡ Plain → r.cover.bits ≡ own → Ruled P n h b r
  ruled_alone ne is covers = by_outcome Plain is (unless _ _ _ (ne_eqb (kind b) 2 ne)) (covers ∙ own_is)

  pub ruled_within : kind b ≡ 2 → has own (partner_post b) ≡ true → r.outcome ≡ Plain → r.cover.bits ≡ own → Ruled P n h b r
  ruled_within two t is covers =
      by_outcome Plain is (when _ _ _ (eq-eqb (kind b) 2 two) ∙ when _ _ _ (sym (ap (λ (c : ℕ). has c (partner_post b)) own_is) ∙ t)) (covers ∙ own_is)

  module _ (two : kind b ≡ 2) (apart : has own (partner_post b) ≡ false) (other : ℕ) (other_is : other ≡ cluster P h (partner_post b)) where
    passes : {A : Type 0} (x y z : A) → ◌≡◌ {A = A}
        (elim (eqb (kind b) 2) as (λ _. A) [ true ↦ elim (has (cluster P h (post b)) (partner_post b)) as (λ _. A) [ true ↦ x | false ↦ y ] | false ↦ z ]) y
    passes x y z = when _ _ _ (eq-eqb (kind b) 2 two) ∙ unless _ _ _ (sym (ap (λ (c : ℕ). has c (partner_post b)) own_is) ∙ apart)

    said : {t : Bool} → P.says (size own) (size other) (exchanges h own other) ≡ t
        → P.says (size (cluster P h (post b))) (size (cluster P h (partner_post b))) (exchanges h (cluster P h (post b)) (cluster P h (partner_post b))) ≡ t
    said e = sym (λ i. P.says (size (own_is i)) (size (other_is i)) (exchanges h (own_is i) (other_is i))) ∙ e

    pub ruled_merged : P.says (size own) (size other) (exchanges h own other) ≡ true → r.outcome ≡ Merged → r.cover.bits ≡ bit_or own other → Ruled P n h b r
    ruled_merged says is covers = by_outcome Merged is (passes _ _ _ ∙ when _ _ _ (said says)) (covers ∙ (λ i. bit_or (own_is i) (other_is i)))

    pub ruled_across : P.says (size own) (size other) (exchanges h own other) ≡ false → r.outcome ≡ Across → r.cover.bits ≡ all n → Ruled P n h b r
    ruled_across says is covers = by_outcome Across is (passes _ _ _ ∙ unless _ _ _ (said says)) covers

-- ---- what a station that stands at a history reads

module _ {P K : Type 0} (policy : OfPolicy P) (keeper : OfKeeper K) (s : Station P K) (h : History) (st : Stands policy keeper s h) where
  -- there are fewer records than a count of exchanges can tell
  pub short : length h < 2 ^ 32
  short = omega (arith, length_most st.valid 65535 st.small, st.few)

  -- the cluster of a known post
  pub read_cluster : (x p own : ℕ) → own ≡ clusters s.partition x → x ≡ p → p < (keeper.meaning s.keeper).posts → own ≡ cluster (policy.rule s.policy) h p
  read_cluster x p own e same inside = e ∙ ap (clusters s.partition) same ∙ st.grouped p inside

  -- the latest full event up to an event that is held, or before the first
  pub read_full : (e : Event) → e.post < (keeper.meaning s.keeper).posts → e.number ≤ count h e.post
      → result_unwrap_or (ask_full (keeper.meaning s.keeper) e) 0 ≡ latest_full (policy.rule s.policy) (keeper.meaning s.keeper).posts h e.post e.number
  read_full e inside most =
      let R = policy.rule s.policy in
      let n = (keeper.meaning s.keeper).posts in
      let or_zero : Result ℕ KeeperFault → ℕ = λ r. result_unwrap_or r 0 in
      elim (cases_eq e.number 0) [
        | inl z ↦
            ap or_zero (unheld policy keeper s h st e (λ s. Ok s.full) inside z) ∙ sym (ap (latest_full R n h e.post) z ∙ latest_full_zero R n h e.post)
        | inr some ↦
            ap or_zero (asked policy keeper s h st e (λ s. Ok s.full) (record { inside = inside; some = omega arith; most = most })) ∙ kept_full R n h e.post e.number
      ]

-- ---- the latest full event up to the next

module _ {P K : Type 0} (policy : OfPolicy P) (keeper : OfKeeper K) (s : Station P K) (h : History) (st : Stands policy keeper s h)
    (b : Bytes) (ok : ground (keeper.meaning s.keeper).posts h b ≡ 0) where
  -- it is the next itself if that covers all posts
  pub next_full_here : cover (policy.rule s.policy) (keeper.meaning s.keeper).posts h b ≡ all (keeper.meaning s.keeper).posts
      → number b ≡ latest_full (policy.rule s.policy) (keeper.meaning s.keeper).posts (b ∷ h) (post b) (number b)
  next_full_here e =
      let R = policy.rule s.policy in
      let n = (keeper.meaning s.keeper).posts in
      subst (λ (k : ℕ). k ≡ latest_full R n (b ∷ h) (post b) k) (sym (passed n h b ok).next) (sym (latest_full_new R n b h e))

  -- and else that up to the preceding event
  pub next_full_before : (cover (policy.rule s.policy) (keeper.meaning s.keeper).posts h b ≡ all (keeper.meaning s.keeper).posts → ⊥)
      → (p k : ℕ) → p ≡ post b → k ≡ number b - 1
      → latest_full (policy.rule s.policy) (keeper.meaning s.keeper).posts h p k ≡ latest_full (policy.rule s.policy) (keeper.meaning s.keeper).posts (b ∷ h) (post b) (number b)
  next_full_before ne p k same before =
      let R = policy.rule s.policy in
      let n = (keeper.meaning s.keeper).posts in
      let next = (passed n h b ok).next in
      let last : k ≡ count h (post b) = omega arith in
      (λ i. latest_full R n h (same i) (last i)) ∙ sym (ap (latest_full R n (b ∷ h) (post b)) next ∙ latest_full_part R n b h ne)
