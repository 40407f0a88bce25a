-- On which ground the form of a record is refused, test by test.
use Rattle.std.proofs.Common.{◌≡◌, ℕ, ◌<◌, ◌≤◌, length, Err, Result, sym, refl, ap, ◌∙◌, inl, inr, arith}
use Rattle.order.specs.declared.event.Event.{Event}
use Rattle.order.specs.declared.event.Kind.{Kind}
use Rattle.order.specs.declared.«record».Record.{Record}
use Rattle.order.specs.declared.«record».RecordFault.{RecordFault}
use Rattle.std.proofs.lemmas.Bool.{cases_order}
use Rattle.std.proofs.lemmas.Bool.Decides.{nat_tests}
use Rattle.order.specs.Reads.{record_of, ground, refused, tail_form}
use Rattle.order.specs.Records.{kind_named, Bytes, code, event, post, kind, spare, partner, partner_post, partner_number, form}

pub form-length : (n : ℕ) (r : Bytes) → (length r ≡ 8 → ⊥) → form n r ≡ 3
unfolding form
form-length n r l = grind (arith, nat_tests)

pub form_kind : (n : ℕ) (r : Bytes) → length r ≡ 8 → 2 < kind r → form n r ≡ 4
unfolding form
form_kind n r l k = grind (arith, nat_tests)

pub form_post : (n : ℕ) (r : Bytes) → length r ≡ 8 → kind r ≤ 2 → n ≤ post r → form n r ≡ 5
unfolding form
form_post n r l k p = grind (arith, nat_tests)

-- the kind that is read has the byte for its code
pub code_named : (n : ℕ) → n ≤ 2 → code (kind_named n) ≡ n
code_named n l =
    elim (cases_order n 1) [
      | inl one ↦ rw one refl
      | inr far ↦ elim far [ inl less ↦ let e : n ≡ 0 = omega arith in rw e refl | inr more ↦ let e : n ≡ 2 = omega arith in rw e refl ]
    ]

-- past these grounds the spare byte and the partner decide
pub form_tail : (n : ℕ) (r : Bytes) → length r ≡ 8 → kind r ≤ 2 → post r < n → form n r ≡ tail_form (kind_named (kind r)) (spare r) (partner r) (post r) n
unfolding form
form_tail n r l k p =
    elim (cases_order (kind r) 1) [
      | inl one ↦ rw one (grind (arith, nat_tests))
      | inr far ↦ elim far [
        | inl less ↦ let e : kind r ≡ 0 = omega arith in rw e (grind (arith, nat_tests))
        | inr more ↦ let e : kind r ≡ 2 = omega arith in rw e (grind (arith, nat_tests))
      ]
    ]

-- the same at the parts that were read: what refuses the tail refuses the form
pub form_of_read
    : (n : ℕ) (r : Bytes) (k : Kind) (e m : Event) (g : ℕ) → length r ≡ 8 → (kind r ≤ 2) × (k ≡ kind_named (kind r)) → e ≡ event r → e.post < n → m ≡ partner r → g ≡ tail_form k (spare r) m e.post n → g ≡ form n r
form_of_read n r k e m g l c ee p me h =
    let own : post r < n = omega (arith, ap (λ (x : Event). x.post) ee) in
    let at : tail_form k (spare r) m e.post n ≡ tail_form (kind_named (kind r)) (spare r) (partner r) (post r) n = rw (c.1, ee, me) refl in
    h ∙ at ∙ sym (form_tail n r l c.0 own)

pub record_of_read
    : (r : Bytes) (k : Kind) (e m : Event) → k ≡ kind_named (kind r) → e ≡ event r → m ≡ partner r → ◌≡◌ {A = Record} (record { event = e; kind = k; partner = m }) (record_of r)
record_of_read r k e m ke ee me = rw (ke, ee, me) refl

-- the exit of a `?`, which hands on the fault f
pub refused_by : {A : Type 0} (r : Result A RecordFault) (y f : RecordFault) (g : ℕ) → r ≡ Err y → y ≡ f → ground f ≡ g → refused r ≡ g
refused_by r y f g e d h = rw (e, d) h

-- a record of good form
pub record Formed (n : ℕ) (r : Bytes) : Type 0 where
  pub bytes : length r ≡ 8
  pub kinds : kind r ≤ 2
  pub own : post r < n
  pub spared : spare r ≡ 0
  pub blank : kind r < 2 → (partner_post r ≡ 0) × (partner_number r ≡ 0)
  pub other : kind r ≡ 2 → (partner_post r < n) × (partner_post r ≡ post r → ⊥)

pub form_good : (n : ℕ) (r : Bytes) → Formed n r → form n r ≡ 0
unfolding form
form_good n r f = grind (arith, nat_tests)

pub formed : (n : ℕ) (r : Bytes) → form n r ≡ 0 → Formed n r
unfolding form
formed n r e =
    record {
      bytes = grind (arith, nat_tests);
      kinds = grind (arith, nat_tests);
      own = grind (arith, nat_tests);
      spared = grind (arith, nat_tests);
      blank = λ k. (grind (arith, nat_tests), grind (arith, nat_tests));
      other = λ k. (grind (arith, nat_tests), λ q. grind (arith, nat_tests));
    }
