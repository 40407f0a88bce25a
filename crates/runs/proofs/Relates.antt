-- Relate answers what the chains say, so any two stations relate alike the events that both hold.
use Rattle.std.proofs.Common.{◌≡◌, ℕ, ◌<◌, ◌≤◌, Bool, true, false, cond, leb, ◌↔◌, List, [], map, Some, None, Ok, Err, Decides, Option, Result, refl, ap, ◌∙◌, subst, ap₂, inl, inr, arith}
use Rattle.std.proofs.lemmas.Bool.{cond-true, false≢true}
use Rattle.std.proofs.lemmas.Bool.Decides.{nat_tests, same_from_decides, Decides-eqb, Decides-and, Decides-not, Decides-like}
use Rattle.cluster.specs.Rules.{Rule}
use Rattle.order.specs.History.{History, Taken, Held, Chain, Valid, Agree}
use Rattle.order.specs.History.Taken.{newest, earlier}
use Rattle.order.specs.History.Valid.{start, taken}
use Rattle.order.specs.Records.{Bytes, post}
use Rattle.order.specs.declared.event.Event.{Event}
use Rattle.order.proofs.Chains.{number_decides, no_cycle, chain_join, histories_agree}
use Rattle.order.proofs.Held.{passed, held_number}
use Rattle.station.specs.Asks.{knows, entry, precedes, relation, relates}
use Rattle.station.specs.declared.asks.AskFault.{AskFault}
use Rattle.station.specs.declared.asks.AskFault.TheVariants.{NotHeld}
use Rattle.station.specs.declared.asks.Relation.{Relation}
use Rattle.station.specs.declared.asks.Relation.TheVariants.{Before, After, Concurrent}
use Rattle.runs.specs.Calls.{Call, Reply, after, barred}
use Rattle.runs.specs.Calls.Call.{take, feed, relate, reach, horizon, heard, cluster}
use Rattle.runs.specs.Calls.Reply.{related}
use Rattle.runs.specs.Comparison.{ByChains, RelateAlike}
use Rattle.runs.specs.Runs.{Says, Run, Asked}
use Rattle.runs.specs.Runs.Asked.{here, later}
use Rattle.runs.specs.Runs.Says.{relates_them}
use Rattle.runs.proofs.Histories.{asked_turn}

-- a held event's post is one of the station's
taken_inside : {n : ℕ} {h : History} {r : Bytes} → Valid n h → Taken r h → post r < n
taken_inside start t = elim t [ ]
taken_inside {n} (taken {r = r} {h = h} v g) newest = (passed n h r g).inside
taken_inside (taken v g) (earlier t) = taken_inside v t

held_inside : {n : ℕ} {h : History} (e : Event) → Valid n h → Held h e → e.post < n
held_inside e v t = rw (← t.1.names) (taken_inside v t.1.taken)

pub held_known : {n : ℕ} {h : History} (e : Event) → Valid n h → Held h e → knows n h e ≡ true
held_known e v t =
    let inside = held_inside e v t in
    let w = held_number e v t in
    grind (arith, nat_tests)

-- What relate answers of two held events.
pub relates_held : {n : ℕ} {h : History} (e f : Event) → Valid n h → Held h e → Held h f → relates n h e f ≡ Ok (relation h e f)
relates_held {n} {h} e f v s t =
    ap (λ (m : Option ℕ). elim m as (λ _. Result Relation AskFault) [ None ↦ Ok (relation h e f) | Some place ↦ Err (NotHeld place) ])
    (cond-true _ _ _ (held_known e v s) ∙ cond-true _ _ _ (held_known f v t))

event_same : (e f : Event) → (e.post ≡ f.post) × (e.number ≡ f.number) → e ≡ f
event_same e f s = λ i. record { post = s.0 i; number = s.1 i }

-- The test by one entry tells whether a chain leads from e to f.
pub precedes_decides : {n : ℕ} {h : History} (e f : Event) → Valid n h → Held h e → Held h f → Decides (precedes h e f) (Chain h e f)
precedes_decides {n} {h} e f v s t = Decides-like _ to from (Decides-and _ _ (Decides-not _ (Decides-and _ _ (Decides-eqb _ _) (Decides-eqb _ _))) within)
  where
    within : Decides (leb e.number (entry h f e.post)) (e.number ≤ entry h f e.post)
    within = grind (arith, nat_tests)

    to : ((e.post ≡ f.post) × (e.number ≡ f.number) → ⊥) × (e.number ≤ entry h f e.post) → Chain h e f
    to w = elim ((number_decides n h v e f s t).1 w.1) [
      | inl same ↦ absurd (w.0 (ap (λ (x : Event). x.post) same, ap (λ (x : Event). x.number) same))
      | inr c ↦ c
    ]

    from : Chain h e f → ((e.post ≡ f.post) × (e.number ≡ f.number) → ⊥) × (e.number ≤ entry h f e.post)
    from c = (λ w. no_cycle n h v f (rw (event_same e f w) at c), (number_decides n h v e f s t).0 (inr c))

-- The answer by two tests.
abbrev named : Bool → Bool → Relation
named b d = cond b Before (cond d After Concurrent)

-- Tests that tell of C and of D, which are not both so, name C before, D after, and neither concurrent.
record Names (C D : Type 0) (a : Result Relation AskFault) : Type 0 where
  before : (a ≡ Ok Before) ↔ C
  after : (a ≡ Ok After) ↔ D
  concurrent : (a ≡ Ok Concurrent) ↔ ((C → ⊥) × (D → ⊥))

names : {C D : Type 0} (b d : Bool) → Decides b C → Decides d D → (C → D → ⊥) → Names C D (Ok (named b d))
names true true p q apart = absurd (apart (p.0 refl) (q.0 refl))
names true false p q apart = record {
  before = (λ _. p.0 refl, λ _. refl);
  after = (λ e. cc, λ y. absurd (apart (p.0 refl) y));
  concurrent = (λ e. cc, λ w. absurd (w.0 (p.0 refl)));
}
names false true p q apart = record {
  before = (λ e. cc, λ x. absurd (apart x (q.0 refl)));
  after = (λ _. q.0 refl, λ _. refl);
  concurrent = (λ e. cc, λ w. absurd (w.1 (q.0 refl)));
}
names false false p q apart = record {
  before = (λ e. cc, λ x. absurd (false≢true (p.1 x)));
  after = (λ e. cc, λ y. absurd (false≢true (q.1 y)));
  concurrent = (λ _. (λ x. false≢true (p.1 x), λ y. false≢true (q.1 y)), λ _. refl);
}

pub by_chains : {n : ℕ} {h : History} (e f : Event) → Valid n h → Held h e → Held h f → ByChains h e f (Ok (relation h e f))
by_chains {n} {h} e f v s t =
    let w = names _ _ (precedes_decides e f v s t) (precedes_decides f e v t s) (λ c d. no_cycle n h v e (chain_join h e f e c d)) in
    record { before = w.before; after = w.after; concurrent = w.concurrent }

-- Two histories that agree relate alike what both hold.
precedes_agree : {m n : ℕ} {g h : History} (e f : Event) → Valid m g → Valid n h → Agree g h → Held g e → Held h e → Held g f → Held h f → precedes g e f ≡ precedes h e f
precedes_agree {m} {n} {g} {h} e f v w same ge he gf hf =
    let chains = histories_agree m n g h v w same e f ge he gf hf in
    same_from_decides _ _ (Decides-like _ chains.0 chains.1 (precedes_decides e f v ge gf)) (precedes_decides e f w he hf)

pub relation_agree : {m n : ℕ} {g h : History} (e f : Event) → Valid m g → Valid n h → Agree g h → Held g e → Held h e → Held g f → Held h f → relation g e f ≡ relation h e f
relation_agree e f v w same ge he gf hf =
    ap₂ {C = Relation} named (precedes_agree e f v w same ge he gf hf) (precedes_agree f e v w same gf hf ge he)

related_is : {P : Rule} {n : ℕ} {g : History} {was is : ℕ → ℕ} {e f : Event} {a : Result Relation AskFault} → Says P n g was (relate e f) (related a) is → a ≡ relates n g e f
related_is relates_them = refl

-- Any two stations relate alike the events that both hold, as the chains say.
pub relate_alike : {P Q : Rule} {m n : ℕ} {s t : ℕ → ℕ} {cs ds : List Call} {xs ys : List Reply} → Run P m [] s cs xs → Run Q n [] t ds ys → RelateAlike cs xs ds ys
relate_alike x y e f a b g h at_g at_h same ge he gf hf =
    let u = asked_turn start x at_g in
    let w = asked_turn start y at_h in
    let a_is = related_is u.says ∙ relates_held e f u.valid ge gf in
    let b_is = related_is w.says ∙ relates_held e f w.valid he hf in
    (rw (a_is, b_is, relation_agree e f u.valid w.valid same ge he gf hf), rw a_is (by_chains e f u.valid ge gf))

-- Over used stations.

barred_after : (c : Call) (h : History) → after c (barred c) h ≡ h
barred_after (take r) h = refl
barred_after (feed bytes) h = refl
barred_after (relate e f) h = refl
barred_after (reach e p) h = refl
barred_after (horizon es slice) h = refl
barred_after (heard es) h = refl
barred_after (cluster p) h = refl

-- a used station's history stays as it was
pub barred_history : {c : Call} {a : Reply} {g : History} {h : History} {cs : List Call} {xs : List Reply} → Asked c a g h cs xs → xs ≡ map barred cs → g ≡ h
barred_history here e = refl
barred_history (later {h = h} {d = d} {cs = cs} {b = b} {xs = xs} at) e =
    let first : b ≡ barred d = cc in
    rw (first, barred_after d h) at (barred_history at (cc))

none_held : {g : History} {e : Event} → g ≡ [] → Held g e → ⊥
none_held {e = e} same t = go (subst (λ (x : History). Held x e) same t)
  where
    nothing : {r : Bytes} → Taken r [] → ⊥
    nothing t = elim t [ ]

    go : Held [] e → ⊥
    go t = nothing t.1.taken

-- A used station holds no event, so there is nothing to relate.
pub barred_left : (cs ds : List Call) (ys : List Reply) → RelateAlike cs (map barred cs) ds ys
barred_left cs ds ys e f a b g h at_g at_h same ge he gf hf = absurd (none_held (barred_history at_g refl) ge)

pub barred_right : (cs ds : List Call) (xs : List Reply) → RelateAlike cs xs ds (map barred ds)
barred_right cs ds xs e f a b g h at_g at_h same ge he gf hf = absurd (none_held (barred_history at_h refl) he)
