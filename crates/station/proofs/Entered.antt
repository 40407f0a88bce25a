-- The entry of a drafted stamp.
use Rattle.std.proofs.Common.{◌≡◌, ℕ, suc, ◌<◌, ◌≤◌, true, false, cond, List, ◌∷◌, map, length, Ok, Err, Result, sym, refl, ap, ◌∙◌, subst, ap₂, inl, inr, arith}
use lib.Bits.{bit_or}
use Rattle.cluster.proofs.Clusters.{Ruled, ruled, cluster_same, cluster_merged, cluster_apart}
use Rattle.cluster.proofs.Clusters.Ruled.{alone, within, merges, passes}
use Rattle.cluster.proofs.Covers.{cover_size}
use Rattle.cluster.proofs.Kept.{kept_new}
use Rattle.cluster.specs.Clusters.{cluster, cover, merged, outcome, latest_full}
use Rattle.cluster.specs.Kept.{kept}
use Rattle.cluster.specs.Partitions.{clusters, joined}
use Rattle.cluster.specs.Rules.{Rule}
use Rattle.cluster.specs.Counts.{Tells}
use Rattle.cluster.specs.declared.exchanges.Exchanges.{Exchanges}
use Rattle.cluster.specs.declared.outcome.Outcome.{Outcome}
use Rattle.cluster.specs.declared.outcome.Outcome.TheVariants.{Merged}
use Rattle.cluster.specs.declared.partition.Partition.{Partition}
use Rattle.keeper.specs.Answers.{ask_append, ask_mark, fits}
use Rattle.keeper.specs.Moves.{Appended, Appends, Marked, Marks, unmarked}
use Rattle.keeper.specs.Piles.{Pile, held_count, price}
use Rattle.keeper.specs.declared.fault.KeeperFault.{KeeperFault}
use Rattle.order.proofs.Held.{Passed, passed, count_grows}
use Rattle.order.specs.History.{History, Valid, count, ground}
use Rattle.order.specs.Posts.{has, below, members, size}
use Rattle.order.specs.Records.{Bytes, kind, number, partner_number, partner_post, post}
use Rattle.order.specs.Vectors.{vec}
use Rattle.order.specs.declared.«record».Record.{Record}
use Rattle.std.proofs.lemmas.List.{length-map}
use Rattle.std.proofs.lemmas.Result.{MatchResult-at_ok, MatchResult-at_err}
use Rattle.std.proofs.lemmas.Bool.{cases_Bool, cond-true, cond-false, lt-ltb, le-leb, eq-eqb, and_from}
use Rattle.station.proofs.Held.{grown_counts, holds_plain, holds_receive}
use Rattle.station.specs.Drafts.{at, Drafted}
use Rattle.station.specs.Entries.{Groups, Holds, Stamped, room_for}
use Rattle.station.specs.Takes.{Pays}
use Rattle.station.specs.declared.drafts.Draft.{Draft}

-- The partition.

merging : (P : Rule) (h : History) (b : Bytes) → outcome P h b ≡ Merged → kind b ≡ 2
merging P h b e = go (outcome P h b) (ruled P (cluster P h) h b) e
  where
    go : (o : Outcome) → Ruled P (cluster P h) h b o → o ≡ Merged → kind b ≡ 2
    go _ (alone ne) m = cc
    go _ (within two _) m = two
    go _ (merges two f says) m = two
    go _ (passes two f says) m = two

module _ (P : Rule) (n : ℕ) (h : History) (b : Bytes) (g : ground n h b ≡ 0) (was : Partition) (w : Groups P n h was) where
  pub groups_same : (outcome P h b ≡ Merged → ⊥) → Groups P n (b ∷ h) was
  groups_same ne = record { parts = w.parts; grouped = λ p inside. w.grouped p inside ∙ sym (cluster_same P h b p ne) }

  pub groups_merged : outcome P h b ≡ Merged → (is : Partition) → is.posts ≡ was.posts → ((q : ℕ) → clusters is q ≡ joined (clusters was) (post b) (partner_post b) q) → Groups P n (b ∷ h) is
  groups_merged m is posts so = record { parts = posts ∙ w.parts; grouped = go }
    where
      ok : Passed n h b
      ok = passed n h b g

      both : bit_or (clusters was (post b)) (clusters was (partner_post b)) ≡ merged (cluster P h) b
      both = ap₂ bit_or (w.grouped (post b) ok.inside) (w.grouped (partner_post b) (ok.pair (merging P h b m)).inside)

      go : (p : ℕ) → p < n → clusters is p ≡ cluster P (b ∷ h) p
      go p inside =
          so p ∙ ap₂ (λ (u c : ℕ). cond (has u p) u c) both (w.grouped p inside)
          ∙ elim (cases_Bool (has (merged (cluster P h) b) p)) [
            | inl t ↦ cond-true _ _ _ t ∙ sym (cluster_merged P h b p m t)
            | inr f ↦ cond-false _ _ _ f ∙ sym (cluster_apart P h b p m f)
          ]

-- The pile.

module _ {P : Rule} {n : ℕ} {h : History} {b : Bytes} {m : Pile} {d : Draft} (v : Valid n h) (few : n ≤ 64) (small : number b ≤ 65535) (posts : m.posts ≡ n) (held : Holds P n m h)
    (dr : Drafted P n h b d) (entries : List ℕ) (are : entries ≡ map (at d.vector) (members d.header.cover.bits)) where
  g : ground n h b ≡ 0
  g = dr.due.fine

  next : number b ≡ suc (count h (post b))
  next = (passed n h b g).next

  entries_are : entries ≡ map (vec (b ∷ h) (post b) (suc (count h (post b)))) (members (cover P n h b))
  entries_are = are ∙ dr.entries_are ∙ ap (λ (k : ℕ). map (vec (b ∷ h) (post b) k) (members (cover P n h b))) next

  entries_count : length entries ≡ size (cover P n h b)
  entries_count = ap length entries_are ∙ length-map (members (cover P n h b)) _

  stamp_is : unmarked d.header entries ≡ kept P n (b ∷ h) (post b) (suc (count h (post b)))
  stamp_is =
      let full : d.header.full ≡ latest_full P n (b ∷ h) (post b) (suc (count h (post b))) = dr.full_is ∙ ap (latest_full P n (b ∷ h) (post b)) next in
      (λ i. record { kind = dr.kind_is i; marked = false; cover = dr.cover_is i; full = full i; entries = entries_are i }) ∙ sym (kept_new P n b h v g)

  same_post : d.«record».event.post ≡ post b
  same_post = ap (λ (x : Record). x.event.post) dr.due.is

  pub admitted : ask_append m d.«record».event.post d.header.cover.bits (length entries) ≡ room_for P n h b (m.space (post b))
  unfolding room_for
  admitted =
      let inside : post b < m.posts = omega (arith, posts, (passed n h b g).inside) in
      let fit : fits m.posts (cover P n h b) (size (cover P n h b)) ≡ true
      = and_from _ _ (eq-eqb _ _ (ap (λ (x : ℕ). length (below x (cover P n h b))) posts ∙ cover_size P n h b v g few)) (eq-eqb _ _ refl) in
      let room : held_count m (post b) < 65535 = omega (arith, held.counts (post b) (passed n h b g).inside, next) in
      (λ i. ask_append m (same_post i) (dr.cover_is i) (entries_count i))
      ∙ cond-true _ _ _ (lt-ltb (post b) m.posts inside) ∙ cond-true _ _ _ fit ∙ cond-true _ _ _ (lt-ltb (held_count m (post b)) 65535 room)

  module _ {is : Pile} {r : Result (Unit {0}) KeeperFault} (a : Appends m is d.«record».event.post d.header entries r) where
    pub answered : r ≡ room_for P n h b (m.space (post b))
    answered = a.answer ∙ admitted

    pub left_alone : (f : KeeperFault) → r ≡ Err f → is ≡ m
    left_alone f e = MatchResult-at_err _ _ f e a.leaves

    module _ (e : r ≡ Ok tt) where
      pub appended : Appended m is (post b) (unmarked d.header entries)
      appended = subst (λ (p : ℕ). Appended m is p (unmarked d.header entries)) same_post (MatchResult-at_ok _ _ tt e a.leaves)

      paid : Pays (post b) (price (size (cover P n h b))) m.space is.space
      paid = subst (λ (x : ℕ). Pays (post b) (price x) m.space is.space) entries_count
          (record { own = appended.paid; falls = appended.falls; at_most = appended.at_most })

      pub stamped_plain : (kind b ≡ 2 → ⊥) → (table : Exchanges) → Tells table (b ∷ h) → Stamped P n h b m is table
      stamped_plain ne table tells = record {
        same_posts = appended.same_posts;
        holds = holds_plain P n h b v g m is held (unmarked d.header entries) stamp_is appended ne;
        tells = tells;
        pays = paid;
      }

      module _ (two : kind b ≡ 2) (last : Pile) (q : Result (Unit {0}) KeeperFault) (k : Marks is last d.«record».partner q) where
        marks_it : ask_mark is d.«record».partner ≡ Ok tt
        marks_it =
            let pair = (passed n h b g).pair two in
            let inside : partner_post b < is.posts = omega (arith, appended.same_posts, posts, pair.inside) in
            let count_is = grown_counts P n h b v g m is held (unmarked d.header entries) stamp_is appended (partner_post b) pair.inside in
            let most : partner_number b ≤ held_count is (partner_post b) = omega (arith, count_is, pair.most, count_grows b h (partner_post b)) in
            ap (λ (x : Record). ask_mark is x.partner) dr.due.is
            ∙ cond-true _ _ _ (lt-ltb (partner_post b) is.posts inside)
            ∙ cond-true _ _ _ (and_from _ _ (lt-ltb 0 (partner_number b) pair.some) (le-leb (partner_number b) (held_count is (partner_post b)) most))

        marked_so : Marked is last (partner_post b) (partner_number b)
        marked_so = subst (λ (x : Record). Marked is last x.partner.post x.partner.number) dr.due.is (MatchResult-at_ok _ _ tt (k.answer ∙ marks_it) k.leaves)

        pub stamped_receive : (table : Exchanges) → Tells table (b ∷ h) → Stamped P n h b m last table
        stamped_receive table tells = record {
          same_posts = marked_so.same_posts ∙ appended.same_posts;
          holds = holds_receive P n h b v g m is held (unmarked d.header entries) stamp_is appended two last marked_so;
          tells = tells;
          pays = record {
            own = omega (arith, paid.own, marked_so.same_space (post b));
            falls = λ p. omega (arith, paid.falls p, marked_so.same_space p);
            at_most = λ p. omega (arith, paid.at_most p, marked_so.same_space p);
          };
        }
