-- That a visit answers as it should, over the piles before and after each of its calls.
use Rattle.std.proofs.Common.{◌≡◌, ℕ, ◌+◌, ◌-◌, ◌≤◌, length, IsErrAnd, Ok, Err, Result, sym, refl, ap, ◌∙◌, subst, inl, inr, arith}
use Rattle.keeper.proofs.Admitted.{admitted, answered}
use Rattle.keeper.proofs.Stamps.{Holds, asked, count-append, holds_new, holds_append, holds_mark, holds_marked}
use Rattle.keeper.specs.Answers.{admission, ask_count, ask_space, ask_stamp}
use Rattle.keeper.specs.Moves.{Appended, Appends, Marked}
use Rattle.keeper.specs.Piles.{Pile, Stamp, held_count, with_mark}
use Rattle.keeper.specs.declared.fault.KeeperFault.{KeeperFault}
use Rattle.piles.specs.Visits.{Plan, stamp_for, cost, then, seen_of, put_of, whether, Puts, count_with, Left, report_of, Ready, Reports}
use Rattle.piles.specs.declared.Put.{Put}
use Rattle.piles.specs.declared.Report.{Report}
use Rattle.piles.specs.declared.Seen.{Seen}
use Rattle.std.proofs.lemmas.Result.{err_from_is_err_and}
use Rattle.std.proofs.lemmas.Bool.{cases_eq, eq-eqb, ne_eqb}
use Rattle.std.proofs.lemmas.Bool.Decides.{nat_tests}

-- ---- one after the other

then_ok : {A B : Type 0} (w : Result A KeeperFault) (x : A) (r : Result B KeeperFault) → w ≡ Ok x → then w r ≡ r
then_ok w x r e = rw e

then_is_ok : {B : Type 0} (w : Result (Unit {0}) KeeperFault) (x y : B) → Ok y ≡ then w (Ok x) → (w ≡ Ok tt) × (y ≡ x)
then_is_ok (Ok tt) x y e = (refl, cc)
then_is_ok (Err f) x y e = let z : ◌≡◌ {A = ℕ} 0 1 = cc in absurd (omega arith)

then_is_err : {B : Type 0} (w : Result (Unit {0}) KeeperFault) (x : B) (f : KeeperFault) → Err f ≡ then w (Ok x) → w ≡ Err f
then_is_err (Ok tt) x f e = let z : ◌≡◌ {A = ℕ} 0 1 = cc in absurd (omega arith)
then_is_err (Err g) x f e = cc

not_both : {A : Type 0} (w : Result A KeeperFault) (x : A) (f : KeeperFault) → w ≡ Ok x → w ≡ Err f → ⊥
not_both w x f p q = let z : ◌≡◌ {A = ℕ} 0 1 = cc in omega arith

-- ---- a stamp put in

pub puts
    : (was is : Pile) (a : Plan) (before after number paid : ℕ)
    → Appends was is a.post a.header a.entries (Ok tt)
    → Ok before ≡ ask_space was a.post → Ok after ≡ ask_space is a.post → Ok number ≡ ask_count is a.post → paid ≡ before - after
    → Puts was is a (Ok (record { number = number; paid = paid }))
puts was is a before after number paid made b f n e =
    let new = made.leaves in
    let p = a.post in
    let counted : number ≡ held_count was p + 1 = omega (arith, answered is.posts p number (held_count is p) n, count-append was is p (stamp_for a) new) in
    let cells : paid ≡ cost a = omega (arith, answered was.posts p before (was.space p) b, answered is.posts p after (is.space p) f, new.paid) in
    record { answer = rw (counted, cells) (sym (then_ok (whether was a) tt (Ok (put_of (held_count was p) a)) (sym made.answer))); leaves = new }

-- ---- the second, after the first

left_after : (m is : Pile) (a b : Plan) → Appended m is a.post (stamp_for a) → Left m a b (is.space b.post)
left_after m is a b new =
    record {
      falls = new.falls b.post;
      at_most = new.at_most b.post;
      own = λ e. subst (λ (q : ℕ). is.space q ≡ m.space q - cost a) e (omega (arith, new.paid));
    }

count_after : (m is : Pile) (a b : Plan) → Appended m is a.post (stamp_for a) → held_count is b.post ≡ count_with m a b
count_after m is a b new =
    elim (cases_eq a.post b.post) [
      | inl e ↦ rw (eq-eqb a.post b.post e) (subst (λ (q : ℕ). held_count is q ≡ held_count m q + 1) e (count-append m is a.post (stamp_for a) new))
      | inr ne ↦ rw (ne_eqb a.post b.post ne) (omega (arith, ap length (new.others b.post (λ e. ne (sym e)))))
    ]

abbrev whether_at : Pile → Plan → Plan → ℕ → Result (Unit {0}) KeeperFault
whether_at m a b space = admission m.posts (count_with m a b) space b.post b.header.cover.bits (length b.entries)

whether_after : (m is : Pile) (a b : Plan) → Appended m is a.post (stamp_for a) → whether is b ≡ whether_at m a b (is.space b.post)
whether_after m is a b new = rw (new.same_posts, count_after m is a b new)

more_space : (posts count p cover n s t : ℕ) → s ≤ t → admission posts count s p cover n ≡ Ok tt → admission posts count t p cover n ≡ Ok tt
more_space posts count p cover n s t l e = grind (arith, nat_tests)

ready_after : (m is : Pile) (a b : Plan) → Appended m is a.post (stamp_for a) → Ready m a b → whether is b ≡ Ok tt
ready_after m is a b new ready =
    whether_after m is a b new ∙ more_space m.posts (count_with m a b) b.post b.header.cover.bits (length b.entries) (m.space b.post - cost a) (is.space b.post) (omega (arith, new.at_most b.post)) ready.second

-- ---- the ways out

pub first_refused
    : (m is : Pile) (a b : Plan) (q : ℕ) (f : KeeperFault) → Puts m is a (Err f) → Reports m a b q (Err f)
first_refused m is a b q f put =
    let w = then_is_err (whether m a) (put_of (held_count m a.post) a) f put.answer in
    record {
      answer = (m.space b.post - cost a, record { falls = omega arith; at_most = omega arith; own = λ _. refl }, rw w);
      ready = λ ready. absurd (not_both (whether m a) tt f ready.first w);
    }

pub second_refused
    : (m is end : Pile) (a b : Plan) (q : ℕ) (one : Put) (f : KeeperFault) → Puts m is a (Ok one) → Puts is end b (Err f) → Reports m a b q (Err f)
second_refused m is end a b q one f first second =
    let new = first.leaves in
    let w = then_is_ok (whether m a) (put_of (held_count m a.post) a) one first.answer in
    let v = then_is_err (whether is b) (put_of (held_count is b.post) b) f second.answer in
    record {
      answer = (is.space b.post, left_after m is a b new, rw (w.0, ← whether_after m is a b new, v));
      ready = λ ready. absurd (not_both (whether is b) tt f (ready_after m is a b new ready) v);
    }

-- Both stamps are in.
pub record Both (m end : Pile) (a b : Plan) (one two : Put) (space : ℕ) : Type 0 where
  pub first : one ≡ put_of (held_count m a.post) a
  pub second : two ≡ put_of (count_with m a b) b
  pub first_held : Holds end a.post one.number (stamp_for a)
  pub second_held : Holds end b.post two.number (stamp_for b)
  pub apart : b.post ≡ a.post → two.number ≡ one.number → ⊥
  pub first_in : whether m a ≡ Ok tt
  pub second_in : whether_at m a b space ≡ Ok tt
  pub left : Left m a b space

pub both
    : (m is end : Pile) (a b : Plan) (one two : Put) → Puts m is a (Ok one) → Puts is end b (Ok two) → Both m end a b one two (is.space b.post)
both m is end a b one two first second =
    let new = first.leaves in
    let next = second.leaves in
    let w = then_is_ok (whether m a) (put_of (held_count m a.post) a) one first.answer in
    let v = then_is_ok (whether is b) (put_of (held_count is b.post) b) two second.answer in
    let n : one.number ≡ held_count m a.post + 1 = ap (λ (x : Put). x.number) w.1 in
    let k : two.number ≡ held_count is b.post + 1 = ap (λ (x : Put). x.number) v.1 in
    let known = (admitted m.posts (held_count m a.post) (m.space a.post) a.post a.header.cover.bits (length a.entries) (sym w.0)).known in
    let there = (admitted is.posts (held_count is b.post) (is.space b.post) b.post b.header.cover.bits (length b.entries) (sym v.0)).known in
    record {
      first = w.1;
      second = v.1 ∙ ap (λ (x : ℕ). put_of x b) (count_after m is a b new);
      first_held =
          holds_append is end b.post a.post one.number (stamp_for b) (stamp_for a) next
          (subst (λ (x : ℕ). Holds is a.post x (stamp_for a)) (sym n) (holds_new m is a.post (stamp_for a) new known));
      second_held = subst (λ (x : ℕ). Holds end b.post x (stamp_for b)) (sym k) (holds_new is end b.post (stamp_for b) next there);
      apart = λ e f. omega (arith, ap (λ (x : ℕ). held_count is x) e, count-append m is a.post (stamp_for a) new, n, k, f);
      first_in = w.0;
      second_in = sym (whether_after m is a b new) ∙ v.0;
      left = left_after m is a b new;
    }

-- A held stamp is told, with no fault.
tells_it
    : (m : Pile) (p k q : ℕ) (s : Stamp) (seen : Seen) → Holds m p k s
    → Ok seen ≡ ask_stamp m (record { post = p; number = k }) (λ x. Ok (seen_of x q)) → seen ≡ seen_of s q
tells_it m p k q s seen h e = let f = e ∙ asked m p k s (λ (x : Stamp). Ok (seen_of x q)) h in cc

pub never
    : {A : Type 0} (m : Pile) (p k : ℕ) (s : Stamp) (field : Stamp → A) (f : KeeperFault) → Holds m p k s
    → Err f ≡ ask_stamp m (record { post = p; number = k }) (λ x. Ok (field x)) → ⊥
never m p k s field f h e = not_both (ask_stamp m (record { post = p; number = k }) (λ x. Ok (field x))) (field s) f (asked m p k s (λ (x : Stamp). Ok (field x)) h) (sym e)

pub second_kept
    : (m end last : Pile) (a b : Plan) (space : ℕ) (one two : Put) → Both m end a b one two space → Marked end last a.post one.number
    → Holds last b.post two.number (stamp_for b)
second_kept m end last a b space one two both marked =
    holds_mark end last a.post one.number b.post two.number (stamp_for b) marked both.first_held.some both.apart both.second_held

pub told
    : (m end last : Pile) (a b : Plan) (q space : ℕ) (one two : Put) (s t : Seen)
    → Both m end a b one two space → Marked end last a.post one.number
    → Ok s ≡ ask_stamp last (record { post = a.post; number = one.number }) (λ x. Ok (seen_of x q))
    → Ok t ≡ ask_stamp last (record { post = b.post; number = two.number }) (λ x. Ok (seen_of x q))
    → Reports m a b q (Ok (record { first = record { put = one; seen = s }; second = record { put = two; seen = t } }))
told m end last a b q space one two s t both marked x y =
    let first = tells_it last a.post one.number q (with_mark (stamp_for a)) s (holds_marked end last a.post one.number (stamp_for a) marked both.first_held) x in
    let second = tells_it last b.post two.number q (stamp_for b) t (second_kept m end last a b space one two both marked) y in
    let all : ◌≡◌ {A = Report} (record { first = record { put = one; seen = s }; second = record { put = two; seen = t } }) (report_of m a b q) =
    rw (both.first, both.second, first, second) in
    record {
      answer = (space, both.left, ap Ok all ∙ sym (then_ok (whether m a) tt _ both.first_in ∙ then_ok (whether_at m a b space) tt _ both.second_in));
      ready = λ _. ap Ok all;
    }

-- what the exit of a `?` gives back
pub exit : {T : Type 0} (r : Result T KeeperFault) (e : KeeperFault) (P : Result T KeeperFault → Type 0) → IsErrAnd r (λ y. y ≡ e) → P (Err e) → P r
exit r e P by p = let w = err_from_is_err_and r by in rw (w.1, w.2) p
