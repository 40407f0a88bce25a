-- What the keeper of a station that stands at a history answers.
use Rattle.std.proofs.Common.{◌≡◌, ℕ, ◌-◌, ◌^◌, ◌<◌, ◌≤◌, Bool, true, false, cond, ◌&&◌, eqb, ltb, length, Ok, Err, Result, sym, refl, ap, ◌∙◌, inl, inr, arith}
use Rattle.cluster.proofs.Kept.{kept-cover, kept_entry}
use Rattle.cluster.specs.Kept.{kept}
use Rattle.cluster.specs.declared.policy.Policy.{Ghosts as OfPolicy}
use Rattle.keeper.specs.Answers.{ask_stamp, ask_entry}
use Rattle.keeper.specs.Piles.{Stamp, entry_of, held_count}
use Rattle.keeper.specs.declared.fault.KeeperFault.{KeeperFault}
use Rattle.keeper.specs.declared.fault.KeeperFault.TheVariants.{NotCovered}
use Rattle.keeper.specs.declared.Keeper.{Ghosts as OfKeeper}
use Rattle.order.proofs.Held.{length_most}
use Rattle.order.specs.History.{History, count, held}
use Rattle.order.specs.Posts.{has}
use Rattle.order.specs.Records.{kind_named}
use Rattle.order.specs.Vectors.{vec}
use Rattle.order.specs.declared.event.Event.{Event}
use Rattle.order.specs.declared.event.Kind.{Kind}
use Rattle.order.specs.declared.event.Kind.TheVariants.{Local, Send, Receive}
use Rattle.std.proofs.lemmas.Nat.{mul-le}
use Rattle.std.specs.Result.{MatchResult}
use Rattle.std.proofs.lemmas.Bool.{and_parts, cases_Bool, cases_eq, lt-ltb, le-leb, ne_eqb}
use Rattle.std.proofs.lemmas.Bool.Decides.{nat_tests}
use Rattle.station.specs.Asks.{knows}
use Rattle.station.specs.Entries.{Holds}
use Rattle.station.specs.Stands.{Stands}
use Rattle.station.specs.declared.state.Station.{Station}

-- what it is to hold an event
pub record Known (n : ℕ) (h : History) (e : Event) : Type 0 where
  pub inside : e.post < n
  pub some : 0 < e.number
  pub most : e.number ≤ count h e.post

pub known : (n : ℕ) (h : History) (e : Event) → knows n h e ≡ true → Known n h e
known n h e t = record { inside = grind (arith, nat_tests); some = grind (arith, nat_tests); most = grind (arith, nat_tests) }

pub knows_from : (n : ℕ) (h : History) (e : Event) → Known n h e → knows n h e ≡ true
knows_from n h e k = grind (arith, nat_tests)

pub held_known : (n : ℕ) (h : History) (e : Event) → knows n h e ≡ true → held h e.post e.number ≡ true
held_known n h e t = (and_parts (ltb e.post n) _ t).1

pub not_held : (n : ℕ) (h : History) (e : Event) → e.post < n → knows n h e ≡ false → held h e.post e.number ≡ false
not_held n h e inside f = sym (ap (λ (b : Bool). b && held h e.post e.number) (lt-ltb e.post n inside)) ∙ f

-- a test that only a send passes, at the kind of a code
pub named_send : (test : Kind → Bool) → test Local ≡ false → test Send ≡ true → test Receive ≡ false → (code : ℕ) → test (kind_named code) ≡ eqb code 1
named_send test local send receive code = elim (cases_eq code 0) [
  | inl e ↦ rw e local
  | inr ne ↦ elim (cases_eq code 1) [
    | inl e ↦ rw e send
    | inr no_send ↦ rw (ne_eqb code 0 ne, ne_eqb code 1 no_send) receive
  ]
]

-- a value with another in its place where it is refused
pub unwrapped : {T E : Type 0} {Q : E → Type 0} (r : Result T E) (x y : T) → MatchResult r (λ v. x ≡ v) Q → ((v : T) → r ≡ Ok v → v ≡ y) → ((e : E) → Q e → x ≡ y) → x ≡ y
unwrapped (Ok v) x y is ok err = is ∙ ok v refl
unwrapped (Err e) x y is ok err = err e is

module _ {P K : Type 0} (policy : OfPolicy P) (keeper : OfKeeper K) (s : Station P K) (h : History) (st : Stands policy keeper s h) where
  -- a question about a held event is answered from its kept stamp
  pub asked : {A : Type 0} (e : Event) (field : Stamp → Result A KeeperFault) → Known (keeper.meaning s.keeper).posts h e
      → ask_stamp (keeper.meaning s.keeper) e field ≡ field (kept (policy.rule s.policy) (keeper.meaning s.keeper).posts h e.post e.number)
  asked e field k =
      let m = keeper.meaning s.keeper in
      rw (lt-ltb e.post m.posts k.inside, lt-ltb 0 e.number k.some, le-leb e.number (held_count m e.post) (omega (arith, k.most, st.counts e.post k.inside)), st.stamps e.post e.number k.inside k.some k.most) refl

  pub stands_holds : Holds (policy.rule s.policy) (keeper.meaning s.keeper).posts (keeper.meaning s.keeper) h
  stands_holds = record { counts = st.counts; stamps = st.stamps }

  pub history_short : length h < 2 ^ 32 - 1
  history_short =
      let n = (keeper.meaning s.keeper).posts in
      omega (arith, length_most st.valid 65535 st.small, mul-le n 65535 64 65535 st.few (omega arith))

  -- an entry that is read is the event's own
  pub read_kept_entry : (e : Event) → Known (keeper.meaning s.keeper).posts h e → (q : ℕ) → q < (keeper.meaning s.keeper).posts → (x : ℕ)
      → Ok x ≡ ask_entry (keeper.meaning s.keeper) e q → x ≡ vec h e.post e.number q
  read_kept_entry e k q inside x read =
      let R = policy.rule s.policy in
      let n = (keeper.meaning s.keeper).posts in
      let stamp = kept R n h e.post e.number in
      let here : Ok x ≡ cond (has stamp.cover q) (Ok (entry_of stamp q)) (Err NotCovered) = read ∙ asked e (λ t. cond (has t.cover q) (Ok (entry_of t q)) (Err NotCovered)) k in
      elim (cases_Bool (has stamp.cover q)) [
        | inl t ↦
            let is : Ok x ≡ Ok (entry_of stamp q) = rw t at here in
            let same : x ≡ entry_of stamp q = cc in
            same ∙ kept_entry R n h e.post e.number q (omega (arith, st.few)) (rw (kept-cover R n h e.post e.number) at t)
        | inr f ↦ let refused : Ok x ≡ Err NotCovered = rw f at here in absurd (cc)
      ]
