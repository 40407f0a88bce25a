-- The policy by traffic on two posts that are each alone.
use Rattle.std.proofs.Common.{◌≡◌, ℕ, ◌^◌, ◌<◌, ◌≤◌, Bool, true, cond, ◌&&◌, leb, [], ◌∷◌, sym, refl, ap, ◌∙◌, arith}
use Rattle.std.proofs.lemmas.Bool.{eqb-true, le-leb, cond-true, cond-false}
use Rattle.order.specs.History.{History, Valid, count, kind_at, received, partner_ground, ground}
use Rattle.order.specs.History.Valid.{start, taken}
use Rattle.order.specs.Posts.{has, size}
use Rattle.order.specs.Records.{Bytes, post, kind, number, spare, partner_post, partner_number, receives, form}
use Rattle.order.proofs.Held.{passed}
use Rattle.order.proofs.PostSets.{has_single, size_single}
use Rattle.cluster.specs.Clusters.{cluster, exchanges, outcome}
use Rattle.cluster.specs.Laws.{ByTraffic, ThirdExchange, nth_send, nth_receive}
use Rattle.cluster.specs.Rules.{Rule}
use Rattle.cluster.specs.declared.outcome.Outcome.{Outcome}
use Rattle.cluster.specs.declared.outcome.Outcome.TheVariants.{Merged, Across}
use Rattle.cluster.proofs.Clusters.{Ruled, ruled, cluster_start, cluster_same}
use Rattle.cluster.proofs.Clusters.Ruled.{alone, within, merges, passes}

-- two single posts merge once there have been two exchanges
two_say : (P : Rule) → ByTraffic 1 P → 2 ≤ P.limit → (x : ℕ) → P.says 1 1 x ≡ leb 2 x
two_say P by fits x = by 1 1 x ∙ ap (λ (b : Bool). b && leb 2 x) (le-leb 2 P.limit fits)

pub alone_outcome : (P : Rule) (n : ℕ) (h : History) (r : Bytes) → ByTraffic 1 P → 2 ≤ P.limit → n ≤ 64 → Valid n (r ∷ h) → receives r ≡ true
    → cluster P h (post r) ≡ 2 ^ post r → cluster P h (partner_post r) ≡ 2 ^ partner_post r
    → outcome P h r ≡ cond (leb 2 (exchanges h (2 ^ post r) (2 ^ partner_post r))) Merged Across
alone_outcome P n h r by fits most (taken v g) receiving a b = go (outcome P h r) (ruled P (cluster P h) h r)
  where
    two : kind r ≡ 2
    two = eqb-true (kind r) 2 receiving

    says_at : {answer : Bool} → P.says (size (cluster P h (post r))) (size (cluster P h (partner_post r))) (exchanges h (cluster P h (post r)) (cluster P h (partner_post r))) ≡ answer
        → leb 2 (exchanges h (2 ^ post r) (2 ^ partner_post r)) ≡ answer
    says_at e =
        let l : post r < 64 = omega (arith, (passed n h r g).inside) in
        let m : partner_post r < 64 = omega (arith, ((passed n h r g).pair two).inside) in
        sym (two_say P by fits (exchanges h (2 ^ post r) (2 ^ partner_post r)))
        ∙ sym (λ i. P.says ((ap size a ∙ size_single (post r) l) i) ((ap size b ∙ size_single (partner_post r) m) i) (exchanges h (a i) (b i))) ∙ e

    go : (o : Outcome) → Ruled P (cluster P h) h r o → o ≡ cond (leb 2 (exchanges h (2 ^ post r) (2 ^ partner_post r))) Merged Across
    go _ (alone ne) = absurd (ne two)
    go _ (within _ t) = absurd (((passed n h r g).pair two).apart (eqb-true (partner_post r) (post r) (sym (has_single (post r) (partner_post r)) ∙ sym (ap (λ (c : ℕ). has c (partner_post r)) a) ∙ t)))
    go _ (merges _ f says) = sym (cond-true _ _ _ (says_at says))
    go _ (passes _ f says) = sym (cond-false _ _ _ (says_at says))

-- the history after each send
abbrev pub one_sent : History
one_sent = nth_send 1 ∷ []

abbrev pub two_sent : History
two_sent = nth_send 2 ∷ nth_receive 1 ∷ one_sent

abbrev pub three_sent : History
three_sent = nth_send 3 ∷ nth_receive 2 ∷ two_sent

first_valid : Valid 2 (nth_receive 1 ∷ one_sent)
unfolding ground form partner_ground count kind_at received post kind number spare partner_post partner_number
first_valid = taken (taken start refl) refl

second_valid : Valid 2 (nth_receive 2 ∷ two_sent)
unfolding ground form partner_ground count kind_at received post kind number spare partner_post partner_number
second_valid = taken (taken first_valid refl) refl

third_valid : Valid 2 (nth_receive 3 ∷ three_sent)
unfolding ground form partner_ground count kind_at received post kind number spare partner_post partner_number
third_valid = taken (taken second_valid refl) refl

module _ (P : Rule) (by : ByTraffic 1 P) (fits : 2 ≤ P.limit) where
  -- a send, and a receive that is not a merge, leave the clusters as they are
  send_keeps : (h : History) (k p : ℕ) → cluster P (nth_send k ∷ h) p ≡ cluster P h p
  unfolding kind
  send_keeps h k p = cluster_same P h (nth_send k) p (λ e. cc)

  across_keeps : (h : History) (k p : ℕ) → outcome P h (nth_receive k) ≡ Across → cluster P (nth_receive k ∷ h) p ≡ cluster P h p
  across_keeps h k p a = cluster_same P h (nth_receive k) p (λ e. cc)

  one_single : (p : ℕ) → cluster P one_sent p ≡ 2 ^ p
  one_single p = send_keeps [] 1 p ∙ cluster_start P p

  pub first_across : outcome P one_sent (nth_receive 1) ≡ Across
  unfolding exchanges post kind partner_post has
  first_across = alone_outcome P 2 one_sent (nth_receive 1) by fits (omega arith) first_valid refl (one_single 1) (one_single 0)

  two_single : (p : ℕ) → cluster P two_sent p ≡ 2 ^ p
  two_single p = send_keeps (nth_receive 1 ∷ one_sent) 2 p ∙ across_keeps one_sent 1 p first_across ∙ one_single p

  pub second_across : outcome P two_sent (nth_receive 2) ≡ Across
  unfolding exchanges post kind partner_post has
  second_across = alone_outcome P 2 two_sent (nth_receive 2) by fits (omega arith) second_valid refl (two_single 1) (two_single 0)

  three_single : (p : ℕ) → cluster P three_sent p ≡ 2 ^ p
  three_single p = send_keeps (nth_receive 2 ∷ two_sent) 3 p ∙ across_keeps two_sent 2 p second_across ∙ two_single p

  pub third_merged : outcome P three_sent (nth_receive 3) ≡ Merged
  unfolding exchanges post kind partner_post has
  third_merged = alone_outcome P 2 three_sent (nth_receive 3) by fits (omega arith) third_valid refl (three_single 1) (three_single 0)

pub third_exchange : ThirdExchange
third_exchange = record { alone = alone_outcome; valid = third_valid; first = first_across; second = second_across; third = third_merged }
