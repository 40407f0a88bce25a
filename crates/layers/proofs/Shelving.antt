-- That what a shelf remembers agrees with the keeper below.
use Rattle.std.proofs.Common.{◌≡◌, ℕ, ◌+◌, ◌^◌, ◌<◌, ◌≤◌, min, true, false, eqb, ltb, List, ◌++◌, length, get_or, take, drop, replicate, IfSome, Some, None, Ok, Option, sym, refl, ap, ◌∙◌, subst, inl, inr, arith}
use Rattle.keeper.specs.Answers.{ask_count}
use Rattle.keeper.specs.Moves.{Appended, Appends, Marked, Marks, unmarked}
use Rattle.keeper.specs.Piles.{Pile, held_count}
use Rattle.keeper.specs.declared.admit.Header.{Header}
use Rattle.keeper.proofs.Admitted.{admitted, answered}
use Rattle.keeper.proofs.Stamps.{Holds, located, count-append, count_mark, holds_same, holds_new, holds_marked, holds_mark}
use Rattle.layers.specs.Shelves.{over_front, stamp_in, entry_in, slot_of, if_number, found, put_at, with_mark, marked_at, Latest, Agrees}
use Rattle.layers.specs.declared.shelf.Slot.{Slot}
use Rattle.order.proofs.PostSets.{length_below_le, rank_below, has_bound}
use Rattle.order.specs.Posts.{has, below, size}
use Rattle.order.specs.declared.event.Event.{Event}
use Rattle.std.proofs.lemmas.List.{length-set, get_or-set_same, get_or-set_other, get_or-replicate, get_or-take, take-take, take_at}
use Rattle.std.proofs.lemmas.Bool.{cases_Bool, cases_eq, cases_lt, lt-ltb, le-ltb, eqb-true, eqb-false}

-- ---- entries in a slot

-- the entries that were put in come back
pub front_back : (into entries : List ℕ) (n : ℕ) → n ≡ length entries → n ≤ length into → take n (over_front into entries) ≡ entries
front_back into entries n e l = take-take n (length into) (entries ++ drop (length entries) into) l ∙ take_at entries (drop (length entries) into) n (sym e)

-- a covered post's place is below 64
pub rank_within : (bits q : ℕ) → bits < 2 ^ 64 → has bits q ≡ true → length (below q bits) < 64
rank_within bits q small h = omega (arith, rank_below q 64 bits (has_bound bits q small h) h, length_below_le 64 bits)

pub entry_back
    : (s : Slot) (q r : ℕ) → s.header.cover.bits < 2 ^ 64 → has s.header.cover.bits q ≡ true → r ≡ length (below q s.header.cover.bits)
    → Ok (get_or s.entries r 0) ≡ entry_in s q
entry_back s q r small h e =
    let bits = s.header.cover.bits in
    let l = rank_below q 64 bits (has_bound bits q small h) h in
    rw (h, e, get_or-take (size bits) s.entries (length (below q bits)) 0 l)

-- ---- the table

pub slot_put : (slots : List (Option Slot)) (p : ℕ) (s : Slot) → length slots ≡ 64 → p < 64 → slot_of (put_at slots p s) p ≡ Some s
slot_put slots p s w l = let h = lt-ltb p 64 l in let m : p < length slots = omega arith in rw (h, get_or-set_same)

pub slot_put_other : (slots : List (Option Slot)) (p q : ℕ) (s : Slot) → (q ≡ p → ⊥) → slot_of (put_at slots p s) q ≡ slot_of slots q
slot_put_other slots p q s ne = elim (cases_Bool (ltb p 64)) [ inl t ↦ rw (t, get_or-set_other slots p q (Some s) None ne) | inr f ↦ rw f ]

length_put : (slots : List (Option Slot)) (p : ℕ) (s : Slot) → length (put_at slots p s) ≡ length slots
length_put slots p s = elim (cases_Bool (ltb p 64)) [ inl t ↦ rw (t, length-set) | inr f ↦ rw f ]

slot_none : (p : ℕ) → slot_of (replicate 64 None) p ≡ None
slot_none p = elim (cases_lt p 64) [ inl l ↦ rw (lt-ltb p 64 l, get_or-replicate {A = Option Slot} 64 p None None l) | inr l ↦ rw (le-ltb p 64 l) ]

pub agrees_none : (m : Pile) (slots : List (Option Slot)) → slots ≡ replicate 64 None → Agrees m slots
agrees_none m slots e =
    subst (λ (xs : List (Option Slot)). Agrees m xs) (sym e)
    (record { width = refl; each = λ p. subst (λ (o : Option Slot). IfSome o (λ s. Latest m p s)) (sym (slot_none p)) tt })

-- ---- the latest stamp

holds : (m : Pile) (p : ℕ) (s : Slot) → Latest m p s → Holds m p s.number (stamp_in s)
holds m p s l = record { known = l.known; some = l.some; within = omega (arith, l.last); stamp = l.stamp }

latest : (m : Pile) (p : ℕ) (s : Slot) → s.number ≡ held_count m p → Holds m p s.number (stamp_in s) → Latest m p s
latest m p s e h = record { known = h.known; some = h.some; last = e; stamp = h.stamp }

abbrev LatestIn : Pile → ℕ → Option Slot → Type 0
LatestIn m p o = IfSome o (λ s. Latest m p s)

latest_kept
    : (was is : Pile) (q : ℕ) (o : Option Slot) → is.posts ≡ was.posts → is.stamps q ≡ was.stamps q → LatestIn was q o → LatestIn is q o
latest_kept was is q None e same l = tt
latest_kept was is q (Some s) e same l = latest is q s (l.last ∙ sym (ap length same)) (holds_same was is q s.number (stamp_in s) e same (holds was q s l))

-- After a change of post p's stamps alone, a table agrees that is the same elsewhere and tells the latest stamp of p.
agrees_but
    : (was is : Pile) (slots after : List (Option Slot)) (p : ℕ) → Agrees was slots → is.posts ≡ was.posts
    → ((q : ℕ) → (q ≡ p → ⊥) → is.stamps q ≡ was.stamps q) → length after ≡ length slots
    → ((q : ℕ) → (q ≡ p → ⊥) → slot_of after q ≡ slot_of slots q) → LatestIn is p (slot_of after p) → Agrees is after
agrees_but was is slots after p a e others same_length same own =
    record {
      width = same_length ∙ a.width;
      each = λ q. elim (cases_eq q p) [
        | inl here ↦ subst (λ (x : ℕ). LatestIn is x (slot_of after x)) (sym here) own
        | inr ne ↦ subst (λ (o : Option Slot). LatestIn is q o) (sym (same q ne)) (latest_kept was is q (slot_of slots q) e (others q ne) (a.each q))
      ];
    }

agrees_put
    : (was is : Pile) (slots : List (Option Slot)) (p : ℕ) (s : Slot) → Agrees was slots → is.posts ≡ was.posts
    → ((q : ℕ) → (q ≡ p → ⊥) → is.stamps q ≡ was.stamps q) → Latest is p s → Agrees is (put_at slots p s)
agrees_put was is slots p s a e others l =
    let own : LatestIn is p (slot_of (put_at slots p s) p) = elim (cases_lt p 64) [ inl h ↦ rw (slot_put slots p s a.width h) l | inr h ↦ rw (le-ltb p 64 h) tt ] in
    agrees_but was is slots (put_at slots p s) p a e others (length_put slots p s) (λ q ne. slot_put_other slots p q s ne) own

-- ---- a stamp more

latest_put
    : (was is : Pile) (p number : ℕ) (header : Header) (into kept entries : List ℕ)
    → p < was.posts → number ≡ held_count was p + 1 → size header.cover.bits ≡ length entries → length into ≡ 64 → kept ≡ over_front into entries
    → Appended was is p (unmarked header entries)
    → Latest is p (record { number = number; marked = false; header = header; entries = kept })
latest_put was is p number header into kept entries l n f w k new =
    let bits = header.cover.bits in
    let back : take (size bits) kept ≡ entries = ap (take (size bits)) k ∙ front_back into entries (size bits) f (omega (arith, length_below_le 64 bits)) in
    let held = holds_new was is p (unmarked header entries) new l in
    latest is p _ (n ∙ sym (count-append was is p (unmarked header entries) new))
    (subst (λ (x : ℕ). Holds is p x (unmarked header (take (size bits) kept))) (sym n) (subst (λ (xs : List ℕ). Holds is p (held_count was p + 1) (unmarked header xs)) (sym back) held))

-- A table that agreed agrees again with the stamp that went in.
pub agrees_append
    : (was is : Pile) (slots after : List (Option Slot)) (p count number : ℕ) (header : Header) (into kept entries : List ℕ)
    → Agrees was slots → Ok count ≡ ask_count was p → number ≡ min (count + 1) 65535 → length into ≡ 64 → kept ≡ over_front into entries
    → Appends was is p header entries (Ok tt) → after ≡ put_at slots p (record { number = number; marked = false; header = header; entries = kept })
    → Agrees is after
agrees_append was is slots after p count number header into kept entries a answer n w k made e =
    let fit = admitted was.posts (held_count was p) (was.space p) p header.cover.bits (length entries) made.answer in
    let new = made.leaves in
    let next : number ≡ held_count was p + 1 = omega (arith, answered was.posts p count (held_count was p) answer, fit.more) in
    subst (λ (xs : List (Option Slot)). Agrees is xs) (sym e)
    (agrees_put was is slots p _ a new.same_posts new.others (latest_put was is p number header into kept entries fit.known next fit.sized w k new))

-- ---- a mark more

latest_marked
    : (was is : Pile) (p k : ℕ) (s : Slot) → s.number ≡ k → Marked was is p k → Latest was p s → Latest is p (with_mark s)
latest_marked was is p k s e marked l =
    let here = subst (λ (x : ℕ). Marked was is p x) (sym e) marked in
    latest is p (with_mark s) (l.last ∙ sym (count_mark was is p s.number p here)) (holds_marked was is p s.number (stamp_in s) here (holds was p s l))

latest_unmarked
    : (was is : Pile) (p k : ℕ) (s : Slot) → (s.number ≡ k → ⊥) → 0 < k → Marked was is p k → Latest was p s → Latest is p s
latest_unmarked was is p k s ne some marked l =
    latest is p s (l.last ∙ sym (count_mark was is p k p marked)) (holds_mark was is p k p s.number (stamp_in s) marked some (λ _ e. ne e) (holds was p s l))

-- A table that agreed agrees again with the mark set in it too.
pub agrees_mark
    : (was is : Pile) (slots after : List (Option Slot)) (e : Event) → Agrees was slots → Marks was is e (Ok tt)
    → after ≡ marked_at (found slots e) slots e.post → Agrees is after
agrees_mark was is slots after e a made after_is = subst (λ (xs : List (Option Slot)). Agrees is xs) (sym after_is) (at_slot (slot_of slots e.post) refl)
  where
    some : 0 < e.number
    some = (located was.posts (held_count was e.post) e.post e.number tt made.answer).some

    stays : LatestIn is e.post (slot_of slots e.post) → Agrees is slots
    stays = agrees_but was is slots slots e.post a made.leaves.same_posts made.leaves.others refl (λ _ _. refl)

    at_slot : (o : Option Slot) → slot_of slots e.post ≡ o → Agrees is (marked_at (if_number o e.number) slots e.post)
    at_slot None o = stays (subst (λ (x : Option Slot). LatestIn is e.post x) (sym o) tt)
    at_slot (Some s) o =
        let l = subst (λ (x : Option Slot). LatestIn was e.post x) o (a.each e.post) in
        elim (cases_Bool (eqb s.number e.number)) [
          | inl t ↦ rw t
              (agrees_put was is slots e.post (with_mark s) a made.leaves.same_posts made.leaves.others (latest_marked was is e.post e.number s (eqb-true s.number e.number t) made.leaves l))
          | inr f ↦ rw f
              (stays (subst (λ (x : Option Slot). LatestIn is e.post x) (sym o) (latest_unmarked was is e.post e.number s (eqb-false s.number e.number f) some made.leaves l)))
        ]
