-- Covers and full events: what a cover has, which event is the latest full one, and where an entry that is not covered
-- comes from.
use Rattle.std.proofs.Common.{◌≡◌, ℕ, suc, ◌^◌, ◌<◌, ◌≤◌, true, false, ◌⊎◌, [], ◌∷◌, length, sym, refl, ap, ◌∙◌, subst, inl, inr, arith, pow_pos, pow_mono}
use lib.Bits.{or_lt}
use lib.Pow.{ones_lt}
use Rattle.std.proofs.lemmas.Bool.{cases_Bool, cases_eq, cases_lt, eq-eqb, ne_eqb, lt-ltb, both_ways}
use Rattle.std.proofs.lemmas.Bool.Decides.{nat_tests}
use Rattle.order.specs.History.{History, Valid, count, ground}
use Rattle.order.specs.History.Valid.{start, taken}
use Rattle.order.specs.Posts.{has, below, members, size}
use Rattle.order.specs.Records.{Bytes, post, kind, partner_post, partner_number}
use Rattle.order.specs.Vectors.{vec}
use Rattle.order.proofs.Held.{passed, count_none, count_own}
use Rattle.order.proofs.PostSets.{has_empty, has_ones, has_past, below_within, size_first}
use Rattle.order.proofs.Vectors.{At, at, when, unless, newest_is_new, held_not_new, brought, brought_by, brought_none, vec_empty, vec_none, vec_own, vec_other, vec_old, vec_self, vec-count, vec_closed, send_below}
use Rattle.order.proofs.Vectors.At.{new, old}
use Rattle.cluster.specs.Clusters.{all, cluster, outcome, cover_by, cover, cover_at, latest_full}
use Rattle.cluster.specs.Rules.{Rule}
use Rattle.cluster.specs.declared.outcome.Outcome.{Outcome}
use Rattle.cluster.specs.declared.outcome.Outcome.TheVariants.{Plain, Merged, Across}
use Rattle.cluster.proofs.Clusters.{Ruled, ruled, parted, to_merged, cluster_same, cluster_merged, cluster_grows, cluster_bits}
use Rattle.cluster.proofs.Clusters.Ruled.{alone, within, merges, passes}

-- ---- all posts

pub has_each : (n q : ℕ) → q < n → has (all n) q ≡ true
has_each n q l = has_ones n q ∙ lt-ltb q n l

pub size-all : (n : ℕ) → n ≤ 64 → size (all n) ≡ n
size-all n l = size_first n (all n) l (λ q. let e = has_ones n q in grind (arith, nat_tests))

-- a member of a set of n digits is below n
has_below : (b n q : ℕ) → b < 2 ^ n → has b q ≡ true → q < n
has_below b n q l t = let past = has_past b n q l in grind (arith, nat_tests)

-- ---- the cover of a record that no ground refuses

module _ (P : Rule) (n : ℕ) (h : History) (r : Bytes) (v : Valid n h) (g : ground n h r ≡ 0) where
  -- its bits are those of posts below n
  pub cover_bits : cover P n h r < 2 ^ n
  cover_bits = go (outcome P h r) (ruled P (cluster P h) h r)
    where
      own : cluster P h (post r) < 2 ^ n
      own = cluster_bits P v (post r) (passed n h r g).inside

      go : (o : Outcome) → Ruled P (cluster P h) h r o → cover_by n o (cluster P h) r < 2 ^ n
      go _ (alone ne) = own
      go _ (within two t) = own
      go _ (merges two f says) = or_lt n (cluster P h (post r)) (cluster P h (partner_post r)) own (cluster_bits P v (partner_post r) ((passed n h r g).pair two).inside)
      go _ (passes two f says) = ones_lt n

  pub cover_fits : n ≤ 64 → cover P n h r < 2 ^ 64
  cover_fits most = omega (arith, cover_bits, pow_mono most)

  pub cover_posts : (q : ℕ) → has (cover P n h r) q ≡ true → q < n
  cover_posts q t = has_below (cover P n h r) n q cover_bits t

  pub cover_members : n ≤ 64 → below n (cover P n h r) ≡ members (cover P n h r)
  cover_members most = sym (below_within n 64 (cover P n h r) cover_bits most)

  pub cover_size : n ≤ 64 → length (below n (cover P n h r)) ≡ size (cover P n h r)
  cover_size most = ap length (cover_members most)

  -- it has the cluster of the post, and that of a receive's partner, as they were
  pub cover_has : (q : ℕ) → has (cluster P h (post r)) q ≡ true → has (cover P n h r) q ≡ true
  cover_has q t = go (outcome P h r) (ruled P (cluster P h) h r)
    where
      go : (o : Outcome) → Ruled P (cluster P h) h r o → has (cover_by n o (cluster P h) r) q ≡ true
      go _ (alone ne) = t
      go _ (within two _) = t
      go _ (merges two f says) = to_merged (cluster P h) r q (inl t)
      go _ (passes two f says) = has_each n q ((parted P v).inside (post r) q (passed n h r g).inside t)

  pub cover_has_partner : kind r ≡ 2 → (q : ℕ) → has (cluster P h (partner_post r)) q ≡ true → has (cover P n h r) q ≡ true
  cover_has_partner two q t = go (outcome P h r) (ruled P (cluster P h) h r)
    where
      go : (o : Outcome) → Ruled P (cluster P h) h r o → has (cover_by n o (cluster P h) r) q ≡ true
      go _ (alone ne) = absurd (ne two)
      go _ (within _ u) = subst (λ (m : ℕ). has m q ≡ true) ((parted P v).shared (post r) (partner_post r) (passed n h r g).inside u) t
      go _ (merges _ f says) = to_merged (cluster P h) r q (inr t)
      go _ (passes _ f says) = has_each n q ((parted P v).inside (partner_post r) q ((passed n h r g).pair two).inside t)

  pub cover_own : has (cover P n h r) (post r) ≡ true
  cover_own = cover_has (post r) ((parted P v).own (post r) (passed n h r g).inside)

  pub cover_partner : kind r ≡ 2 → has (cover P n h r) (partner_post r) ≡ true
  cover_partner two = cover_has_partner two (partner_post r) ((parted P v).own (partner_post r) ((passed n h r g).pair two).inside)

  -- it is the post's cluster from then on, unless it is all posts for want of a merge
  pub cover_cluster : (cluster P (r ∷ h) (post r) ≡ cover P n h r) ⊎ (outcome P h r ≡ Across)
  cover_cluster = go (outcome P h r) refl
    where
      go : (o : Outcome) → outcome P h r ≡ o → (cluster P (r ∷ h) (post r) ≡ cover_by n o (cluster P h) r) ⊎ (o ≡ Across)
      go Plain e = inl (cluster_same P h r (post r) (λ m. cc))
      go Merged e = inl (cluster_merged P h r (post r) e (to_merged (cluster P h) r (post r) (inl ((parted P v).own (post r) (passed n h r g).inside))))
      go Across e = inr refl

  pub cover_joined : (outcome P h r ≡ Across → ⊥) → cluster P (r ∷ h) (post r) ≡ cover P n h r
  cover_joined ne = elim cover_cluster [ inl e ↦ e | inr a ↦ absurd (ne a) ]

-- a receive from another cluster without a merge covers all posts
pub cover_across : (P : Rule) (n : ℕ) (h : History) (r : Bytes) → outcome P h r ≡ Across → cover P n h r ≡ all n
cover_across P n h r e = ap (λ (o : Outcome). cover_by n o (cluster P h) r) e

-- ---- the cover of an event

pub cover_at_new : (P : Rule) (n : ℕ) (r : Bytes) (h : History) → cover_at P n (r ∷ h) (post r) (suc (count h (post r))) ≡ cover P n h r
unfolding cover_at
cover_at_new P n r h = when _ _ _ (newest_is_new r h)

pub cover_at_old : (P : Rule) (n : ℕ) (r : Bytes) (h : History) (p k : ℕ) → k ≤ count h p → cover_at P n (r ∷ h) p k ≡ cover_at P n h p k
unfolding cover_at
cover_at_old P n r h p k held = unless _ _ _ (held_not_new r h p k held)

pub cover_at_empty : (P : Rule) (n p k : ℕ) → cover_at P n [] p k ≡ 0
unfolding cover_at
cover_at_empty P n p k = refl

pub cover_at_bits : (P : Rule) {n : ℕ} {h : History} → Valid n h → (p k : ℕ) → k ≤ count h p → cover_at P n h p k < 2 ^ n
cover_at_bits P {n} start p k held = omega (arith, cover_at_empty P n p k, pow_pos n)
cover_at_bits P {n} (taken {r = r} {h = h} v g) p k held = go p k (at r h p k held) (λ w. cover_at_bits P v p k w)
  where
    go : (p k : ℕ) → At r h p k → (k ≤ count h p → cover_at P n h p k < 2 ^ n) → cover_at P n (r ∷ h) p k < 2 ^ n
    go _ _ new ih = rw cover_at_new (cover_bits P n h r v g)
    go p k (old w) ih = omega (arith, cover_at_old P n r h p k w, ih w)

pub cover_at_fits : (P : Rule) {n : ℕ} {h : History} → n ≤ 64 → Valid n h → (p k : ℕ) → k ≤ count h p → cover_at P n h p k < 2 ^ 64
cover_at_fits P most v p k held = omega (arith, cover_at_bits P v p k held, pow_mono most)

pub cover_at_posts : (P : Rule) {n : ℕ} {h : History} → Valid n h → (p k q : ℕ) → k ≤ count h p → has (cover_at P n h p k) q ≡ true → q < n
cover_at_posts P {n} {h} v p k q held t = has_below (cover_at P n h p k) n q (cover_at_bits P v p k held) t

-- an event's own post is covered
pub cover_at_own : (P : Rule) {n : ℕ} {h : History} → Valid n h → (p k : ℕ) → 0 < k → k ≤ count h p → has (cover_at P n h p k) p ≡ true
cover_at_own P start p k some held = absurd (omega (arith, count_none p))
cover_at_own P {n} (taken {r = r} {h = h} v g) p k some held = go p k (at r h p k held) (λ w. cover_at_own P v p k some w)
  where
    go : (p k : ℕ) → At r h p k → (k ≤ count h p → has (cover_at P n h p k) p ≡ true) → has (cover_at P n (r ∷ h) p k) p ≡ true
    go _ _ new ih = rw cover_at_new (cover_own P n h r v g)
    go p k (old w) ih = rw (cover_at_old P n r h p k w) (ih w)

-- an event is full, or what it covers is in its post's cluster
pub cover_inside : (P : Rule) {n : ℕ} {h : History} → Valid n h → (p k : ℕ) → k ≤ count h p
    → (cover_at P n h p k ≡ all n) ⊎ ((q : ℕ) → has (cover_at P n h p k) q ≡ true → has (cluster P h p) q ≡ true)
cover_inside P {n} start p k held = inr (λ q t. absurd (both_ways _ (ap (λ (m : ℕ). has m q) (cover_at_empty P n p k) ∙ has_empty q) t))
cover_inside P {n} (taken {r = r} {h = h} v g) p k held = go p k (at r h p k held) (λ w. cover_inside P v p k w)
  where
    Inside : History → ℕ → ℕ → Type 0
    Inside h p k = (cover_at P n h p k ≡ all n) ⊎ ((q : ℕ) → has (cover_at P n h p k) q ≡ true → has (cluster P h p) q ≡ true)

    go : (p k : ℕ) → At r h p k → (k ≤ count h p → Inside h p k) → Inside (r ∷ h) p k
    go _ _ new ih = elim (cover_cluster P n h r v g) [
      | inl e ↦ inr (λ q t. subst (λ (m : ℕ). has m q ≡ true) (cover_at_new P n r h ∙ sym e) t)
      | inr e ↦ inl (cover_at_new P n r h ∙ cover_across P n h r e)
    ]
    go p k (old w) ih = elim (ih w) [
      | inl e ↦ inl (cover_at_old P n r h p k w ∙ e)
      | inr i ↦ inr (λ q t. cluster_grows P h r v g p q (i q (sym (ap (λ (m : ℕ). has m q) (cover_at_old P n r h p k w)) ∙ t)))
    ]

-- ---- the latest full event

pub latest_full_empty : (P : Rule) (n p k : ℕ) → latest_full P n [] p k ≡ 0
unfolding latest_full
latest_full_empty P n p k = refl

pub latest_full_new : (P : Rule) (n : ℕ) (r : Bytes) (h : History) → cover P n h r ≡ all n
    → latest_full P n (r ∷ h) (post r) (suc (count h (post r))) ≡ suc (count h (post r))
unfolding latest_full
latest_full_new P n r h e = when _ _ _ (newest_is_new r h) ∙ when _ _ _ (eq-eqb (cover P n h r) (all n) e)

pub latest_full_part : (P : Rule) (n : ℕ) (r : Bytes) (h : History) → (cover P n h r ≡ all n → ⊥)
    → latest_full P n (r ∷ h) (post r) (suc (count h (post r))) ≡ latest_full P n h (post r) (count h (post r))
unfolding latest_full
latest_full_part P n r h ne = when _ _ _ (newest_is_new r h) ∙ unless _ _ _ (ne_eqb (cover P n h r) (all n) ne)

pub latest_full_old : (P : Rule) (n : ℕ) (r : Bytes) (h : History) (p k : ℕ) → k ≤ count h p → latest_full P n (r ∷ h) p k ≡ latest_full P n h p k
unfolding latest_full
latest_full_old P n r h p k held = unless _ _ _ (held_not_new r h p k held)

pub latest_full_most : (P : Rule) (n : ℕ) (h : History) (p k : ℕ) → k ≤ count h p → latest_full P n h p k ≤ k
latest_full_most P n [] p k held = omega (arith, latest_full_empty P n p k)
latest_full_most P n (r ∷ h) p k held = go p k (at r h p k held) (λ p k w. latest_full_most P n h p k w)
  where
    go : (p k : ℕ) → At r h p k → ((p k : ℕ) → k ≤ count h p → latest_full P n h p k ≤ k) → latest_full P n (r ∷ h) p k ≤ k
    go _ _ new ih =
        let full = latest_full_new P n r h in
        let part = latest_full_part P n r h in
        let before = ih (post r) (count h (post r)) (omega arith) in
        grind arith
    go p k (old w) ih = omega (arith, latest_full_old P n r h p k w, ih p k w)

pub latest_full_zero : (P : Rule) (n : ℕ) (h : History) (p : ℕ) → latest_full P n h p 0 ≡ 0
latest_full_zero P n h p = omega (arith, latest_full_most P n h p 0 (omega arith))

-- it is full where there is one
pub latest_full_covers : (P : Rule) (n : ℕ) (h : History) (p k : ℕ) → k ≤ count h p → 0 < latest_full P n h p k → cover_at P n h p (latest_full P n h p k) ≡ all n
latest_full_covers P n [] p k held some = absurd (omega (arith, latest_full_empty P n p k))
latest_full_covers P n (r ∷ h) p k held some = go p k (at r h p k held) some (λ p k w s. latest_full_covers P n h p k w s)
  where
    Covers : History → ℕ → ℕ → Type 0
    Covers h p k = cover_at P n h p (latest_full P n h p k) ≡ all n

    before : (p k f : ℕ) → k ≤ count h p → f ≡ latest_full P n h p k → 0 < f → ((p k : ℕ) → k ≤ count h p → 0 < latest_full P n h p k → Covers h p k) → cover_at P n (r ∷ h) p f ≡ all n
    before p k f w e some ih =
        let most = latest_full_most P n h p k w in
        cover_at_old P n r h p f (omega arith) ∙ ap (cover_at P n h p) e ∙ ih p k w (omega arith)

    go : (p k : ℕ) → At r h p k → 0 < latest_full P n (r ∷ h) p k → ((p k : ℕ) → k ≤ count h p → 0 < latest_full P n h p k → Covers h p k) → Covers (r ∷ h) p k
    go _ _ new some ih = elim (cases_eq (cover P n h r) (all n)) [
      | inl e ↦ ap (cover_at P n (r ∷ h) (post r)) (latest_full_new P n r h e) ∙ cover_at_new P n r h ∙ e
      | inr ne ↦ before (post r) (count h (post r)) _ (omega arith) (latest_full_part P n r h ne) some ih
    ]
    go p k (old w) some ih = before p k _ w (latest_full_old P n r h p k w) some ih

-- and no full event up to this one is later
pub latest_full_last : (P : Rule) (n : ℕ) (h : History) (p k f : ℕ) → k ≤ count h p → 0 < f → f ≤ k → cover_at P n h p f ≡ all n → f ≤ latest_full P n h p k
latest_full_last P n [] p k f held some less full = absurd (omega (arith, count_none p))
latest_full_last P n (r ∷ h) p k f held some less full = go p k (at r h p k held) less full (λ p k w l e. latest_full_last P n h p k f w some l e)
  where
    Last : History → ℕ → ℕ → Type 0
    Last h p k = f ≤ k → cover_at P n h p f ≡ all n → f ≤ latest_full P n h p k

    go : (p k : ℕ) → At r h p k → f ≤ k → cover_at P n (r ∷ h) p f ≡ all n → ((p k : ℕ) → k ≤ count h p → Last h p k) → f ≤ latest_full P n (r ∷ h) p k
    go _ _ new less full ih = elim (cases_eq (cover P n h r) (all n)) [
      | inl e ↦ omega (arith, latest_full_new P n r h e)
      | inr ne ↦ elim (cases_eq f (suc (count h (post r)))) [
        | inl e ↦ absurd (ne (sym (cover_at_new P n r h) ∙ sym (ap (cover_at P n (r ∷ h) (post r)) e) ∙ full))
        | inr earlier ↦
            let l : f ≤ count h (post r) = omega arith in
            omega (arith, latest_full_part P n r h ne, ih (post r) (count h (post r)) (omega arith) l (sym (cover_at_old P n r h (post r) f l) ∙ full))
      ]
    ]
    go p k (old w) less full ih = omega (arith, latest_full_old P n r h p k w, ih p k w less (sym (cover_at_old P n r h p f (omega arith)) ∙ full))

-- ---- where an entry comes from that is not covered

-- the entry is that of a full event of a covered post, which is known
pub record Source (P : Rule) (n : ℕ) (h : History) (p k q : ℕ) : Type 0 where
  pub teller : ℕ
  pub at_event : ℕ
  pub covered : has (cover_at P n h p k) teller ≡ true
  pub some : 0 < at_event
  pub known : at_event ≤ vec h p k teller
  pub full : cover_at P n h teller at_event ≡ all n
  pub value : vec h teller at_event q ≡ vec h p k q

pub source : (P : Rule) {n : ℕ} {h : History} → Valid n h → (p k q : ℕ) → k ≤ count h p → has (cover_at P n h p k) q ≡ false → (vec h p k q ≡ 0) ⊎ Source P n h p k q
source P start p k q held out = inl (vec_empty p k q)
source P {n} (taken {r = r} {h = h} v g) p k q held out = go p k (at r h p k held) out (λ p k w o. source P v p k q w o)
  where
    Sourced : History → ℕ → ℕ → Type 0
    Sourced h p k = (vec h p k q ≡ 0) ⊎ Source P n h p k q

    last : ℕ
    last = count h (post r)

    whole : Valid n (r ∷ h)
    whole = taken v g

    next : ℕ
    next = suc last

    -- what a known event of a covered post has for q, if it is what the newest has
    handed : (s m : ℕ) → m ≤ count h s → has (cover P n h r) s ≡ true → ((x : ℕ) → has (cluster P h s) x ≡ true → has (cover P n h r) x ≡ true)
        → m ≤ vec (r ∷ h) (post r) next s → vec h s m q ≡ vec (r ∷ h) (post r) next q → has (cover P n h r) q ≡ false
        → (has (cover_at P n h s m) q ≡ false → Sourced h s m) → Sourced (r ∷ h) (post r) next
    handed s m w covered around known value out ih = elim (cases_eq m 0) [
      | inl z ↦ inl (sym value ∙ ap (λ (x : ℕ). vec h s x q) z ∙ vec_none h s q)
      | inr some ↦ elim (cover_inside P v s m w) [
        | inl full ↦ inr (record {
          teller = s;
          at_event = m;
          covered = ap (λ (c : ℕ). has c s) (cover_at_new P n r h) ∙ covered;
          some = omega arith;
          known = known;
          full = cover_at_old P n r h s m w ∙ full;
          value = vec_old r h s m q w ∙ value;
        })
        | inr inside ↦ elim (cases_Bool (has (cover_at P n h s m) q)) [
          | inl t ↦ absurd (both_ways _ out (around q (inside q t)))
          | inr f ↦ elim (ih f) [
            | inl z ↦ inl (sym value ∙ z)
            | inr src ↦
                let x = src.teller in
                let e = src.at_event in
                let below : vec h s m x ≤ vec (r ∷ h) (post r) next x = omega (arith, vec_closed whole (post r) next s m x (omega (arith, count_own r h)) known, vec_old r h s m x w) in
                let e_held : e ≤ count h x = omega (arith, src.known, vec-count v s m x w) in
                inr (record {
                  teller = x;
                  at_event = e;
                  covered = ap (λ (c : ℕ). has c x) (cover_at_new P n r h) ∙ around x (inside x src.covered);
                  some = src.some;
                  known = omega (arith, src.known);
                  full = cover_at_old P n r h x e e_held ∙ src.full;
                  value = vec_old r h x e q e_held ∙ src.value ∙ value;
                })
          ]
        ]
      ]
    ]

    newest : (post r ≡ q → ⊥) → has (cover P n h r) q ≡ false → ((p k : ℕ) → k ≤ count h p → has (cover_at P n h p k) q ≡ false → Sourced h p k) → Sourced (r ∷ h) (post r) next
    newest ne out ih = elim (cases_lt (vec h (post r) last q) (brought r h q)) [
      | inl more ↦ elim (cases_eq (kind r) 2) [
        | inl two ↦
            let pp = partner_post r in
            let pn = partner_number r in
            let most = ((passed n h r g).pair two).most in
            handed pp pn most (cover_partner P n h r v g two) (cover_has_partner P n h r v g two) (omega (arith, send_below r h pp v g two, vec_self h pp pn most))
            (omega (arith, vec_other r h q ne, brought_by r h q two)) out (λ o. ih pp pn most o)
        | inr none ↦ absurd (omega (arith, brought_none r h q none))
      ]
      | inr less ↦ handed (post r) last (omega arith) (cover_own P n h r v g) (cover_has P n h r v g) (omega (arith, vec_own r h)) (omega (arith, vec_other r h q ne)) out
          (λ o. ih (post r) last (omega arith) o)
    ]

    go : (p k : ℕ) → At r h p k → has (cover_at P n (r ∷ h) p k) q ≡ false → ((p k : ℕ) → k ≤ count h p → has (cover_at P n h p k) q ≡ false → Sourced h p k) → Sourced (r ∷ h) p k
    go _ _ new out ih =
        let out' : has (cover P n h r) q ≡ false = sym (ap (λ (c : ℕ). has c q) (cover_at_new P n r h)) ∙ out in
        newest (λ e. both_ways _ out' (subst (λ (x : ℕ). has (cover P n h r) x ≡ true) e (cover_own P n h r v g))) out' ih
    go p k (old w) out ih = elim (ih p k w (sym (ap (λ (c : ℕ). has c q) (cover_at_old P n r h p k w)) ∙ out)) [
      | inl z ↦ inl (vec_old r h p k q w ∙ z)
      | inr src ↦
          let x = src.teller in
          let e = src.at_event in
          let e_held : e ≤ count h x = omega (arith, src.known, vec-count v p k x w) in
          inr (record {
            teller = x;
            at_event = e;
            covered = ap (λ (c : ℕ). has c x) (cover_at_old P n r h p k w) ∙ src.covered;
            some = src.some;
            known = omega (arith, src.known, vec_old r h p k x w);
            full = cover_at_old P n r h x e e_held ∙ src.full;
            value = vec_old r h x e q e_held ∙ src.value ∙ sym (vec_old r h p k q w);
          })
    ]
