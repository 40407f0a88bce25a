-- One turn: what playing owes of it, for each call.
use Rattle.std.proofs.Common.{◌≡◌, ℕ, ◌%◌, true, List, [], length, Err, Result, refl, ap, inl, inr}
use Rattle.std.proofs.lemmas.Bool.{cases_eq}
use Rattle.cluster.specs.declared.policy.Policy.{Ghosts as OfPolicy}
use Rattle.keeper.specs.declared.Keeper.{Ghosts as OfKeeper}
use Rattle.order.specs.History.{History}
use Rattle.order.specs.Records.{Bytes}
use Rattle.station.specs.Stands.{Stands, Took, Fed}
use Rattle.station.specs.declared.state.Station.{Station}
use Rattle.station.specs.declared.faults.FeedFault.{FeedFault}
use Rattle.station.specs.declared.faults.FeedFault.TheVariants.{Ragged, Take}
use Rattle.station.specs.declared.faults.TakeFault.{TakeFault}
use Rattle.station.specs.declared.faults.TakeFault.TheVariants.{Barred}
use Rattle.station.specs.declared.faults.Taken.{Taken}
use Rattle.runs.specs.Calls.{Call, Reply, after, barred as refusal}
use Rattle.runs.specs.Calls.Call.{take, feed}
use Rattle.runs.specs.Calls.Reply.{took, fed}
use Rattle.runs.specs.Played.{Played}
use Rattle.runs.specs.Runs.{Says}
use Rattle.runs.specs.Runs.Says.{takes_it, ragged, feeds_it}
use Rattle.runs.specs.Views.{with_slice}

-- what is owed of a turn
abbrev pub Plays : {P K : Type 0} (policy : OfPolicy P) (keeper : OfKeeper K) (was is : Station P K) (c : Call) (a : Reply) (later : Call) (slice : List ℕ) → Type 0
Plays policy keeper was is c a later slice = record {
  barred : was.barred ≡ true → (a ≡ refusal c) × (is ≡ was);
  played : (h : History) → Stands policy keeper was h → Played policy keeper was is h c a;
  arguments : later ≡ with_slice c slice;
}

pub plays_take : {P K : Type 0} {policy : OfPolicy P} {keeper : OfKeeper K} {was is : Station P K} {bytes : Bytes} {r : Result Taken TakeFault}
    → (was.barred ≡ true → (r ≡ Err Barred) × (is ≡ was))
    → ((h : History) → Stands policy keeper was h → Took policy keeper was is h bytes r)
    → Plays policy keeper was is (take bytes) (took r) (take bytes) []
plays_take bar go = record {
  barred = λ e. (ap took (bar e).0, (bar e).1);
  played = λ h s.
      let t = go h s in
      record { says = rw t.answer (takes_it (rw t.answer at t.moves)); stands = t.stands; same_policy = t.same_policy; same_posts = t.same_posts };
  arguments = refl;
}

pub plays_feed : {P K : Type 0} {policy : OfPolicy P} {keeper : OfKeeper K} {was is : Station P K} {bytes : Bytes} {r : Result ℕ FeedFault}
    → (was.barred ≡ true → (r ≡ Err (Take 0 Barred)) × (is ≡ was))
    → ((h : History) → Stands policy keeper was h → (length bytes % 8 ≡ 0 → ⊥) → (r ≡ Err Ragged) × (is ≡ was))
    → ((h : History) → Stands policy keeper was h → length bytes % 8 ≡ 0 → Fed policy keeper was is h bytes r)
    → Plays policy keeper was is (feed bytes) (fed r) (feed bytes) []
plays_feed {bytes = bytes} bar rough go = record {
  barred = λ e. (ap fed (bar e).0, (bar e).1);
  played = λ h s. elim (cases_eq (length bytes % 8) 0) [
    | inl e ↦
        let t = go h s e in
        record { says = feeds_it e t.feeds; stands = t.stands; same_policy = t.same_policy; same_posts = t.same_posts }
    | inr ne ↦
        let q = rough h s ne in
        rw (q.0, q.1) (record { says = ragged ne; stands = s; same_policy = refl; same_posts = refl })
  ];
  arguments = refl;
}

-- a call that leaves the station and its history
pub plays_question : {P K : Type 0} (policy : OfPolicy P) (keeper : OfKeeper K) (s : Station P K) (c : Call) (a : Reply) (later : Call) (slice : List ℕ)
    → (s.barred ≡ true → a ≡ refusal c)
    → ((h : History) → Stands policy keeper s h → Says (policy.rule s.policy) (keeper.meaning s.keeper).posts h (keeper.meaning s.keeper).space c a (keeper.meaning s.keeper).space)
    → ((h : History) → after c a h ≡ h)
    → later ≡ with_slice c slice
    → Plays policy keeper s s c a later slice
plays_question policy keeper s c a later slice bar says stays same = record {
  barred = λ e. (bar e, refl);
  played = λ h st. record { says = says h st; stands = rw (stays h) st; same_policy = refl; same_posts = refl };
  arguments = same;
}
