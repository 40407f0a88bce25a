-- What is found of a record, ground by ground.
use Rattle.std.proofs.Common.{inl, inr, ◌≡◌, ℕ, suc, ◌+◌, ◌-◌, ◌<◌, ◌≤◌, true, false, cond, not, eqb, Some, None, Ok, Err, Option, Result, sym, refl, ap, ◌∙◌, arith}
use Rattle.order.proofs.Forms.{Formed, code_named, formed}
use Rattle.order.specs.History.{History, count, held, kind_at, received, ground, partner_ground}
use Rattle.order.specs.Reads.{ground as ground_of, record_of}
use Rattle.order.specs.Records.{Bytes, post, kind, number, partner, form, kind_named, code}
use Rattle.order.specs.declared.event.Event.{Event}
use Rattle.order.specs.declared.event.Kind.TheVariants.{Receive}
use Rattle.order.specs.declared.«record».Record.{Record}
use Rattle.order.specs.declared.«record».RecordFault.{RecordFault}
use Rattle.order.specs.declared.«record».RecordFault.TheVariants.{WrongLength, UnknownKind, UnknownPost, StrayBytes, WrongPartner}
use Rattle.std.proofs.lemmas.Bool.{cases_eq, eq-eqb, ne_eqb}
use Rattle.std.proofs.lemmas.Bool.Decides.{nat_tests}
use Rattle.std.specs.Option.{SomeIff, option_eq}
use Rattle.station.proofs.Reading.{held_known, not_held}
use Rattle.station.specs.Asks.{knows}
use Rattle.station.specs.Takes.{judged, partner_judged, verdict, refusal}
use Rattle.station.specs.declared.faults.TakeFault.{TakeFault}
use Rattle.station.specs.declared.faults.TakeFault.TheVariants.{AlreadyReceived, OutOfTurn, PartnerNotHeld, PartnerNotSend, Record as IllFormed}

-- What is found of a receive's partner, by what is known of the event that the record names.

named_ground : (h : History) (r : Bytes) (e : Event) → partner r ≡ e
    → partner_ground h r ≡ cond (not (held h e.post e.number)) 9 (cond (not (eqb (kind_at h e.post e.number) 1)) 10 (cond (received h e.post e.number) 11 0))
unfolding partner_ground
named_ground h r e named =
    ap (λ (x : Event). cond (not (held h x.post x.number)) 9 (cond (not (eqb (kind_at h x.post x.number) 1)) 10 (cond (received h x.post x.number) 11 0))) named

pub partner_missing : (n : ℕ) (h : History) (r : Bytes) (e : Event) → partner r ≡ e → e.post < n → knows n h e ≡ false → Err PartnerNotHeld ≡ partner_judged h r
unfolding verdict
partner_missing n h r e named inside none = rw (named_ground h r e named, not_held n h e inside none) refl

pub partner_no_send : (n : ℕ) (h : History) (r : Bytes) (e : Event) → partner r ≡ e → knows n h e ≡ true → eqb (kind_at h e.post e.number) 1 ≡ false
    → Err PartnerNotSend ≡ partner_judged h r
unfolding verdict
partner_no_send n h r e named there other = rw (named_ground h r e named, held_known n h e there, other) refl

pub partner_received : (n : ℕ) (h : History) (r : Bytes) (e : Event) → partner r ≡ e → knows n h e ≡ true → eqb (kind_at h e.post e.number) 1 ≡ true
    → received h e.post e.number ≡ true → Err AlreadyReceived ≡ partner_judged h r
unfolding verdict
partner_received n h r e named there send gone = rw (named_ground h r e named, held_known n h e there, send, gone) refl

pub partner_fresh : (n : ℕ) (h : History) (r : Bytes) (e : Event) → partner r ≡ e → knows n h e ≡ true → eqb (kind_at h e.post e.number) 1 ≡ true
    → received h e.post e.number ≡ false → Ok tt ≡ partner_judged h r
unfolding verdict
partner_fresh n h r e named there send fresh = rw (named_ground h r e named, held_known n h e there, send, fresh) refl

-- The ground of a record.

-- an equal ground comes to the same
same_verdict : {A : Type 0} (x : A) (g k : ℕ) → g ≡ k → verdict k x ≡ verdict g x
same_verdict x g k e = ap (λ (n : ℕ). verdict n x) (sym e)

ground_formed : (n : ℕ) (h : History) (r : Bytes) (g : ℕ) → suc g ≡ form n r → ground n h r ≡ suc g
unfolding ground
ground_formed n h r g e = rw (← e, ne_eqb (suc g) 0 (omega arith)) refl

pub ground_form : (n : ℕ) (h : History) (r : Bytes) (f : RecordFault) → ground_of f ≡ form n r → Err (IllFormed f) ≡ judged n h r
unfolding verdict
ground_form n h r WrongLength e = same_verdict (record_of r) _ _ (ground_formed n h r 2 e)
ground_form n h r UnknownKind e = same_verdict (record_of r) _ _ (ground_formed n h r 3 e)
ground_form n h r UnknownPost e = same_verdict (record_of r) _ _ (ground_formed n h r 4 e)
ground_form n h r StrayBytes e = same_verdict (record_of r) _ _ (ground_formed n h r 5 e)
ground_form n h r WrongPartner e = same_verdict (record_of r) _ _ (ground_formed n h r 6 e)

pub ground_8 : (n : ℕ) (h : History) (r : Bytes) → form n r ≡ 0 → (number r ≡ suc (count h (post r)) → ⊥) → ground n h r ≡ 8
unfolding ground
ground_8 n h r e ne = rw (e, ne_eqb (number r) (suc (count h (post r))) ne) refl

pub ground_receive : (n : ℕ) (h : History) (r : Bytes) → form n r ≡ 0 → number r ≡ suc (count h (post r)) → kind r ≡ 2 → ground n h r ≡ partner_ground h r
unfolding ground
ground_receive n h r e next two = rw (e, eq-eqb (number r) (suc (count h (post r))) next, eq-eqb (kind r) 2 two) refl

pub ground_other : (n : ℕ) (h : History) (r : Bytes) → form n r ≡ 0 → number r ≡ suc (count h (post r)) → (kind r ≡ 2 → ⊥) → ground n h r ≡ 0
unfolding ground
ground_other n h r e next ne = rw (e, eq-eqb (number r) (suc (count h (post r))) next, ne_eqb (kind r) 2 ne) refl

-- A refusal is the same whatever would be answered otherwise.
verdict_err : {A B : Type 0} (g : ℕ) (x : A) (y : B) (f : TakeFault) → Err f ≡ verdict g x → Err f ≡ verdict g y
unfolding verdict
verdict_err {A} {B} g x y f e = elim (cases_eq g 0) [
  | inl none ↦ let z : ◌≡◌ {A = Result A TakeFault} (Err f) (Ok x) = rw (eq-eqb g 0 none, verdict) at e in absurd (cc)
  | inr some ↦ let z : ◌≡◌ {A = Result A TakeFault} (Err f) (Err (refusal g)) = rw (ne_eqb g 0 some, verdict) at e in rw (ne_eqb g 0 some, verdict) (cc)
]

pub verdict_ok : {A : Type 0} (g : ℕ) (x y : A) → Ok x ≡ verdict g y → g ≡ 0
unfolding verdict
verdict_ok {A} g x y e = elim (cases_eq g 0) [
  | inl none ↦ none
  | inr some ↦ let z : ◌≡◌ {A = Result A TakeFault} (Ok x) (Err (refusal g)) = rw (ne_eqb g 0 some, verdict) at e in absurd (cc)
]

-- a kind that is read as a receive has the code 2
pub receive_code : (k : ℕ) → k ≤ 2 → kind_named k ≡ Receive → k ≡ 2
receive_code k most e = sym (code_named k most) ∙ ap code e

-- Whether a number is the next after a count, by the number before it.

turn : (n k : ℕ) (before : Option ℕ) → SomeIff before (1 ≤ n) (n - 1) → option_eq eqb before (Some k) ≡ eqb n (k + 1)
turn n k None none = sym (ne_eqb n (k + 1) (λ e. none (omega arith)))
turn n k (Some m) some = grind (arith, nat_tests)

in_turn : (n k : ℕ) (before : Option ℕ) → SomeIff before (1 ≤ n) (n - 1) → not (option_eq eqb before (Some k)) ≡ false → n ≡ k + 1
in_turn n k before is same = let t = turn n k before is in grind (arith, nat_tests)

not_in_turn : (n k : ℕ) (before : Option ℕ) → SomeIff before (1 ≤ n) (n - 1) → not (option_eq eqb before (Some k)) ≡ true → n ≡ k + 1 → ⊥
not_in_turn n k before is other e = let t = turn n k before is in grind (arith, nat_tests)

-- The exits of judging, by what was read on the way.
module _ (n m : ℕ) (h : History) (b : Bytes) (same : m ≡ n) where
  pub read_refused : (f : RecordFault) → ground_of f ≡ form m b → Err (IllFormed f) ≡ judged n h b
  read_refused f e = ground_form n h b f (e ∙ ap (λ (x : ℕ). form x b) same)

  module _ (r : Record) (fine : 0 ≡ form m b) (is : r ≡ record_of b) where
    form_fine : form n b ≡ 0
    form_fine = ap (λ (x : ℕ). form x b) (sym same) ∙ sym fine

    shape : Formed n b
    shape = formed n b form_fine

    same_post : r.event.post ≡ post b
    same_post = ap (λ (x : Record). x.event.post) is

    same_number : r.event.number ≡ number b
    same_number = ap (λ (x : Record). x.event.number) is

    pub inside : r.event.post < n
    inside = omega (arith, shape, same_post)

    module _ (k : ℕ) (counted : r.event.post < n → k ≡ count h r.event.post) (before : Option ℕ) (before_is : SomeIff before (1 ≤ r.event.number) (r.event.number - 1)) where
      counted_here : k ≡ count h (post b)
      counted_here = counted inside ∙ ap (count h) same_post

      pub out_of_turn : true ≡ not (option_eq eqb before (Some k)) → Err OutOfTurn ≡ judged n h b
      unfolding verdict
      out_of_turn out = same_verdict (record_of b) _ _ (ground_8 n h b form_fine (λ e. not_in_turn _ k before before_is (sym out) (omega (arith, e, same_number, counted_here))))

      module _ (fits : false ≡ not (option_eq eqb before (Some k))) where
        next : number b ≡ suc (count h (post b))
        next = omega (arith, in_turn _ k before before_is (sym fits), same_number, counted_here)

        receiving : r.kind ≡ Receive → kind b ≡ 2
        receiving e = receive_code (kind b) shape.kinds (sym (ap (λ (x : Record). x.kind) is) ∙ e)

        pub no_receive : (r.kind ≡ Receive → ⊥) → Ok r ≡ judged n h b
        unfolding verdict
        no_receive ne =
            ap Ok is ∙ same_verdict (record_of b) _ 0 (ground_other n h b form_fine next (λ two. ne (ap (λ (x : Record). x.kind) is ∙ ap kind_named two)))

        module _ (receive : r.kind ≡ Receive) (p : Result (Unit {0}) TakeFault) (found : (b : Bytes) → partner b ≡ r.partner → r.partner.post < n → p ≡ partner_judged h b) where
          partner_found : p ≡ verdict (ground n h b) tt
          partner_found =
              found b (sym (ap (λ (x : Record). x.partner) is)) (omega (arith, (shape.other (receiving receive)).0, ap (λ (x : Record). x.partner.post) is))
              ∙ same_verdict tt _ _ (ground_receive n h b form_fine next (receiving receive))

          pub partner_refuses : (f : TakeFault) → p ≡ Err f → Err f ≡ judged n h b
          partner_refuses f refused = verdict_err (ground n h b) tt (record_of b) f (sym refused ∙ partner_found)

          pub partner_accepts : (u : Unit {0}) → p ≡ Ok u → Ok r ≡ judged n h b
          unfolding verdict
          partner_accepts u passed = ap Ok is ∙ same_verdict (record_of b) _ 0 (verdict_ok (ground n h b) u tt (sym passed ∙ partner_found))
