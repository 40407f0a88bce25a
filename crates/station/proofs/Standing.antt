-- How a station stands after an entry.
use Rattle.std.proofs.Common.{◌≡◌, ℕ, ◌<◌, ◌≤◌, true, false, eqb, leb, ◌∷◌, get_or, Ok, Err, Result, sym, refl, ap, ◌∙◌, subst, subst₂, inl, inr, arith}
use Rattle.cluster.specs.Clusters.{cover, outcome}
use Rattle.cluster.specs.Rules.{Rule}
use Rattle.cluster.specs.Counts.{Tells}
use Rattle.cluster.specs.declared.policy.Policy.{Ghosts as OfPolicy}
use Rattle.keeper.specs.Piles.{Pile, price}
use Rattle.keeper.specs.declared.fault.KeeperFault.{KeeperFault}
use Rattle.keeper.specs.declared.fault.KeeperFault.TheVariants.{NoSpace}
use Rattle.keeper.specs.declared.Keeper.{Ghosts as OfKeeper}
use Rattle.order.proofs.Held.{passed, count_own, count_other}
use Rattle.order.proofs.Vectors.{when, unless}
use Rattle.order.specs.History.{History, Valid, count, ground}
use Rattle.order.specs.History.Valid.{taken}
use Rattle.order.specs.Posts.{size}
use Rattle.order.specs.Reads.{record_of}
use Rattle.order.specs.Records.{Bytes, number, post}
use Rattle.order.specs.declared.«record».Record.{Record}
use Rattle.std.proofs.lemmas.Bool.{cases_Bool, cases_eq, cond-true, cond-false, eq-eqb}
use Rattle.station.proofs.Reading.{stands_holds}
use Rattle.station.specs.Entries.{Groups, Holds, Stamped, room_for}
use Rattle.station.specs.Stands.{Stands, Took}
use Rattle.station.specs.Takes.{takes, judged, refusal, verdict, Moves}
use Rattle.station.specs.declared.state.Station.{Station}
use Rattle.station.specs.declared.faults.TakeFault.{TakeFault}
use Rattle.station.specs.declared.faults.TakeFault.TheVariants.{Keeper}
use Rattle.station.specs.declared.faults.Taken.{Taken}

-- What is refused of a record before its stamp is drafted is refused of the take.
pub takes_judged : (P : Rule) (n : ℕ) (h : History) (b : Bytes) (space : ℕ) (f : TakeFault) → Err f ≡ judged n h b → Err f ≡ takes P n h space b
unfolding verdict
takes_judged P n h b space f e = elim (cases_Bool (eqb (ground n h b) 0)) [
  | inl t ↦ let passes = e ∙ when _ _ _ t in cc
  | inr u ↦ let refused : Err f ≡ Err (refusal (ground n h b)) = e ∙ unless _ _ _ u in let same : f ≡ refusal (ground n h b) = cc in ap Err same ∙ sym (unless _ _ _ u)
]

pub judged_record : (n : ℕ) (h : History) (b : Bytes) (r : Record) → Ok r ≡ judged n h b → r ≡ record_of b
unfolding verdict
judged_record n h b r e = elim (cases_Bool (eqb (ground n h b) 0)) [
  | inl t ↦ let passes = e ∙ when _ _ _ t in cc
  | inr u ↦ let refused = e ∙ unless _ _ _ u in cc
]

-- a two-byte number
pub number_small : (b : Bytes) → get_or b 2 0 < 256 → get_or b 3 0 < 256 → number b ≤ 65535
unfolding number
number_small b x y = omega arith

-- What a take answers once no ground on form, number or partner refuses.

module _ (P : Rule) (n : ℕ) (h : History) (b : Bytes) (space : ℕ) (g : ground n h b ≡ 0) where
  taken_as : Taken
  taken_as = record { outcome = outcome P h b; entries = size (cover P n h b) }

  open_ground : takes P n h space b
      ≡ (elim (leb (price (size (cover P n h b))) space) as (λ _. Result Taken TakeFault) [
        | true ↦ Ok taken_as
        | false ↦ Err (Keeper (NoSpace (price (size (cover P n h b))) space))
      ])
  unfolding taken_as
  open_ground = when (eqb (ground n h b) 0) _ _ (eq-eqb (ground n h b) 0 g)

  pub takes_taken : Ok tt ≡ room_for P n h b space → takes P n h space b ≡ Ok (record { outcome = outcome P h b; entries = size (cover P n h b) })
  unfolding taken_as room_for
  takes_taken e = elim (cases_Bool (leb (price (size (cover P n h b))) space)) [
    | inl t ↦ open_ground ∙ when _ _ _ t
    | inr f ↦ let no_room = e ∙ cond-false _ _ _ f in cc
  ]

  pub takes_refused : (f : KeeperFault) → Err f ≡ room_for P n h b space → Err (Keeper f) ≡ takes P n h space b
  unfolding taken_as room_for
  takes_refused f e = elim (cases_Bool (leb (price (size (cover P n h b))) space)) [
    | inl t ↦ let room = e ∙ cond-true _ _ _ t in cc
    | inr u ↦ let lack = e ∙ cond-false _ _ _ u in let same : f ≡ NoSpace (price (size (cover P n h b))) space = cc in
        ap (λ (x : KeeperFault). Err (Keeper x)) same ∙ sym (open_ground ∙ unless _ _ _ u)
  ]

-- Standing, by facts over a rule and a number of posts.

module _ {P K : Type 0} (policy : OfPolicy P) (keeper : OfKeeper K) where
  pub stands_by : (s : Station P K) (h : History) (R : Rule) (n : ℕ) → policy.rule s.policy ≡ R → (keeper.meaning s.keeper).posts ≡ n
      → s.barred ≡ false → keeper.sound s.keeper → Tells s.exchanges h
      → n ≤ 64 → Valid n h → Holds R n (keeper.meaning s.keeper) h → ((p : ℕ) → p < n → count h p ≤ 65535) → Groups R n h s.partition
      → Stands policy keeper s h
  stands_by s h R n same_rule same_posts bar keeps tells =
      subst₂ (λ (R : Rule) (n : ℕ). n ≤ 64 → Valid n h → Holds R n (keeper.meaning s.keeper) h → ((p : ℕ) → p < n → count h p ≤ 65535) → Groups R n h s.partition → Stands policy keeper s h)
      same_rule same_posts
      (λ few valid holds small groups. record {
        open_to_all = bar;
        keeps = keeps;
        few = few;
        valid = valid;
        counts = holds.counts;
        small = small;
        stamps = holds.stamps;
        parts = groups.parts;
        exchanged = tells;
        grouped = groups.grouped;
      })

  module _ (s is : Station P K) (h : History) (b : Bytes) (st : Stands policy keeper s h) (g : ground (keeper.meaning s.keeper).posts h b ≡ 0)
      (same_policy : is.policy ≡ s.policy) (same_bar : is.barred ≡ s.barred) (keeps : keeper.sound is.keeper) where
    groups_now : Groups (policy.rule s.policy) (keeper.meaning s.keeper).posts h s.partition
    groups_now = record { parts = st.parts; grouped = st.grouped }

    pub took_refused : (f : KeeperFault) → Err f ≡ room_for (policy.rule s.policy) (keeper.meaning s.keeper).posts h b ((keeper.meaning s.keeper).space (post b))
        → keeper.meaning is.keeper ≡ keeper.meaning s.keeper → is.partition ≡ s.partition → is.exchanges ≡ s.exchanges
        → Took policy keeper s is h b (Err (Keeper f))
    took_refused f e pile partition exchanges = record {
      answer = takes_refused (policy.rule s.policy) (keeper.meaning s.keeper).posts h b ((keeper.meaning s.keeper).space (post b)) g f e;
      stands = stands_by is h (policy.rule s.policy) (keeper.meaning s.keeper).posts (ap policy.rule same_policy) (ap (λ (m : Pile). m.posts) pile)
          (same_bar ∙ st.open_to_all) keeps (subst (λ x. Tells x h) (sym exchanges) st.exchanged)
          st.few st.valid (subst (λ (m : Pile). Holds (policy.rule s.policy) (keeper.meaning s.keeper).posts m h) (sym pile) (stands_holds policy keeper s h st)) st.small
          (subst (λ x. Groups (policy.rule s.policy) (keeper.meaning s.keeper).posts h x) (sym partition) groups_now);
      moves = ap (λ (m : Pile). m.space) pile;
      same_policy = same_policy;
      same_posts = ap (λ (m : Pile). m.posts) pile;
      refused = record { same_pile = pile; same_partition = partition; same_exchanges = exchanges };
    }

    small_now : number b ≤ 65535 → (p : ℕ) → p < (keeper.meaning s.keeper).posts → count (b ∷ h) p ≤ 65535
    small_now small p inside = elim (cases_eq (post b) p) [
      | inl same ↦ subst (λ (x : ℕ). count (b ∷ h) x ≤ 65535) same (omega (arith, count_own b h, (passed (keeper.meaning s.keeper).posts h b g).next))
      | inr ne ↦ omega (arith, count_other b h p ne, st.small p inside)
    ]

    pub took_entered : number b ≤ 65535 → Ok tt ≡ room_for (policy.rule s.policy) (keeper.meaning s.keeper).posts h b ((keeper.meaning s.keeper).space (post b))
        → Stamped (policy.rule s.policy) (keeper.meaning s.keeper).posts h b (keeper.meaning s.keeper) (keeper.meaning is.keeper) is.exchanges
        → Groups (policy.rule s.policy) (keeper.meaning s.keeper).posts (b ∷ h) is.partition
        → (t : Taken) → t ≡ record { outcome = outcome (policy.rule s.policy) h b; entries = size (cover (policy.rule s.policy) (keeper.meaning s.keeper).posts h b) }
        → Took policy keeper s is h b (Ok t)
    took_entered small e stamped groups t is_so = record {
      answer = ap Ok is_so ∙ sym (takes_taken (policy.rule s.policy) (keeper.meaning s.keeper).posts h b ((keeper.meaning s.keeper).space (post b)) g e);
      stands = stands_by is (b ∷ h) (policy.rule s.policy) (keeper.meaning s.keeper).posts (ap policy.rule same_policy) stamped.same_posts
          (same_bar ∙ st.open_to_all) keeps stamped.tells st.few (taken st.valid g) stamped.holds (small_now small) groups;
      moves = subst (λ (x : Taken). Moves (post b) (keeper.meaning s.keeper).space (Ok x) (keeper.meaning is.keeper).space) (sym is_so) stamped.pays;
      same_policy = same_policy;
      same_posts = stamped.same_posts;
      refused = tt;
    }

  pub took_judged : (s : Station P K) (h : History) (b : Bytes) → Stands policy keeper s h → (f : TakeFault) → Err f ≡ judged (keeper.meaning s.keeper).posts h b → Took policy keeper s s h b (Err f)
  took_judged s h b st f e = record {
    answer = takes_judged (policy.rule s.policy) (keeper.meaning s.keeper).posts h b ((keeper.meaning s.keeper).space (post b)) f e;
    stands = st;
    moves = refl;
    same_policy = refl;
    same_posts = refl;
    refused = record { same_pile = refl; same_partition = refl; same_exchanges = refl };
  }
