-- The whole keeper: what opening, an append and a mark leave, and what a field of a held stamp answers.
use Rattle.std.proofs.Common.{◌≡◌, ℕ, ◌+◌, ◌^◌, ◌-◌, ◌*◌, ◌/◌, ◌%◌, ◌<◌, ◌≤◌, Option, true, cond, ltb, ◌⊎◌, List, [], ◌∷◌, ◌++◌, length, get_or, set, replicate, Ok, Err, Result, sym, refl, ap, ◌∙◌, subst, inl, inr, mul_comm, arith}
use mathlib.Core.Path.{fun_ext}
use Rattle.std.proofs.lemmas.Nat.{div-add-mod'}
use Rattle.std.proofs.lemmas.List.FromFn.{length-map-range_with_len, get_or-map-range_with_len}
use Rattle.std.proofs.lemmas.List.{length-set, get_or-set_same, get_or-set_other, length-replicate, places}
use Rattle.std.proofs.lemmas.Bool.{cases_eq, cases_lt, cond-true, lt-ltb}
use Rattle.std.proofs.lemmas.Bool.Decides.{nat_tests}
use Rattle.std.specs.Option.{SomeIff, unwrap_or}
use Rattle.order.specs.Posts.{has, below, size}
use Rattle.order.specs.declared.event.Event.{Event}
use Rattle.order.proofs.PostSets.{has_bound, rank_below}
use Rattle.keeper.specs.Answers.{of_stamp, admission}
use Rattle.keeper.specs.Moves.{Appended, Marked, Appends, Marks, unmarked}
use Rattle.keeper.specs.Piles.{Pile, Stamp, price, no_stamp, entry_of, with_mark, fresh, opened}
use Rattle.keeper.proofs.Admitted.{Admitted, admitted}
use Rattle.keeper.proofs.Stamps.{Located, located}
use Rattle.keeper.specs.declared.admit.Header.{Header}
use Rattle.keeper.specs.declared.fault.KeeperFault.{KeeperFault}
use Rattle.keeper.specs.declared.fault.KeeperFault.TheVariants.{NotCovered}
use Rattle.columns.specs.Cells.{Cell, cell_at, pair_at, word_at}
use Rattle.columns.specs.Layout.{stamp_at, place_at, stamp_cell, stamps_of, Stored, Placed, Lies}
use Rattle.columns.specs.Sound.{Sound, Column, pile, front_of, column_width, unused, fill_at}
use Rattle.columns.specs.declared.Fill.{Fill}
use Rattle.columns.proofs.Lanes.{lanes_apart, end_is, frame, frame_stamps, filled, Grown, grown, column_grown, stamps_grown, column_marked, stamps_marked}

-- ---- a field of a held stamp

module _ (c : ℕ → ℕ) (start w n : ℕ) where
  -- as many stamps as are counted
  pub counted : length (stamps_of c start w n) ≡ n
  counted = length-map-range_with_len (λ k. stamp_at c (stamp_cell c start w k)) 0 n

  -- and each of them
  pub stamp_is : (k : ℕ) → k < n → get_or (stamps_of c start w n) k no_stamp ≡ stamp_at c (stamp_cell c start w k)
  stamp_is k h = get_or-map-range_with_len (λ k. stamp_at c (stamp_cell c start w k)) 0 n k k no_stamp h (omega arith)

-- a stamp that is found is held
pub held : {A : Type 0} (posts n p k : ℕ) (x y : A) → Ok y ≡ of_stamp posts n p k (Ok x) → (y ≡ x) × Located posts n p k
held posts n p k x y e = (grind (arith, nat_tests), record { known = grind (arith, nat_tests); some = grind (arith, nat_tests); within = grind (arith, nat_tests) })

-- and answers what it is asked
pub held_any : {B : Type 0} (posts n p k : ℕ) (z : Result B KeeperFault) → Located posts n p k → z ≡ of_stamp posts n p k z
held_any posts n p k z h = let a = h.known in let b = h.some in let c = h.within in grind (arith, nat_tests)

-- the entry for a covered post stands at its place among the covered posts
pub covered : (c : ℕ → ℕ) (at : ℕ) (s : Stamp) (q bits : ℕ) → Lies c at s → bits ≡ word_at c (at + 1) → bits < 2 ^ 64 → has bits q ≡ true → Ok (c (at + 6 + length (below q bits))) ≡ cond (has s.cover q) (Ok (entry_of s q)) (Err NotCovered)
covered c at s q bits lies e small h =
    let same : s.cover ≡ bits = lies.cover ∙ sym e in
    let place : length (below q bits) < size s.cover = omega (arith, rank_below q 64 bits (has_bound bits q small h) h, ap size same) in
    ap Ok (sym (lies.entries (length (below q bits)) place) ∙ ap (λ (b : ℕ). get_or s.entries (length (below q b)) 0) (sym same))
    ∙ sym (cond-true _ _ _ (ap (λ (b : ℕ). has b q) same ∙ h))

-- what an append that is let in pays
pub paid : (posts n space p bits m : ℕ) → Ok tt ≡ admission posts n space p bits m → (m ≤ 64) × (m + 8 ≤ space)
paid posts n space p bits m e = let h = (admitted posts n space p bits m e).few in (h, grind (arith, nat_tests))

-- ---- opening

-- a quotient, and 0 where there is none
pub divided : (o : Option ℕ) (n v : ℕ) → SomeIff o (0 < n) v → unwrap_or o 0 ≡ cond (ltb 0 n) v 0
divided o n v h = grind (arith, nat_tests)

-- the columns lie within the whole cells
width_inside : (n posts : ℕ) → posts * cond (ltb 0 posts) (n / posts) 0 ≤ n
width_inside n posts =
    elim (cases_lt 0 posts) [
      | inl l ↦ rw (cond-true _ _ _ (lt-ltb 0 posts l)) (omega (arith, div-add-mod' n posts, mul_comm posts (n / posts)))
      | inr g ↦ let z : posts ≡ 0 = omega arith in rw z (omega arith)
    ]

-- each column is as it was opened, and so is what is read past them
fresh_fill : (w n q : ℕ) (f : Fill) → f ≡ unused w → fill_at w (replicate n f) q ≡ unused w
fresh_fill w n q f e = rw e (grind (arith, places))

module _ (posts w : ℕ) (b : List Cell) (f : Fill) (f_is : f ≡ unused w) where
  open_sound : posts ≤ 64 → posts * w ≤ length b → Sound posts w (replicate 64 f) b
  open_sound few inside =
      record {
        few = few;
        all = length-replicate 64 f;
        inside = inside;
        columns = λ q l. rw (fresh_fill w 64 q f f_is) (empty q);
        idle = λ q l. ap (λ (x : Fill). x.count) (fresh_fill w 64 q f f_is);
      }
    where
      empty : (q : ℕ) → Column (cell_at b) (q * w) w (unused w)
      empty q = record { room = omega arith; short = omega arith; within = λ k l. absurd (omega arith); apart = λ j k l h. absurd (omega arith) }

  open_pile : pile posts w (replicate 64 f) b ≡ fresh posts (λ _. w)
  open_pile = parts (fun_ext (λ q. ap (λ (x : Fill). stamps_of (cell_at b) (q * w) w x.count) (fresh_fill w 64 q f f_is))) (fun_ext (λ q. ap (λ (x : Fill). x.left) (fresh_fill w 64 q f f_is)))
    where
      parts : {f g : ℕ → List Stamp} {s t : ℕ → ℕ} → f ≡ g → s ≡ t → ◌≡◌ {A = Pile} record { posts = posts; stamps = f; space = s } record { posts = posts; stamps = g; space = t }
      parts p q = rw (p, q) refl

pub open_all
    : (given posts w n : ℕ) (b : List Cell) (f : Fill) → posts ≡ opened given → w ≡ cond (ltb 0 posts) (n / 2 / posts) 0 → length b ≡ n / 2 → f ≡ unused w
    → Sound posts w (replicate 64 f) b × (pile posts w (replicate 64 f) b ≡ fresh (opened given) (λ _. column_width given n))
open_all given posts w n b f p_is w_is long f_is = (
  open_sound posts w b f f_is (grind (arith, nat_tests)) (omega (arith, long, subst (λ (v : ℕ). posts * v ≤ n / 2) (sym w_is) (width_inside (n / 2) posts))),
  open_pile posts w b f f_is ∙ ap (λ (v : ℕ). fresh posts (λ _. v)) w_is ∙ ap (λ (k : ℕ). fresh k (λ _. cond (ltb 0 k) (n / 2 / k) 0)) p_is,
)

-- ---- an append and a mark

-- The lane of another post, where the cells outside lane p stay.
module _ (posts w : ℕ) (fills : List Fill) (b e : List Cell) (p : ℕ) (ok : Sound posts w fills b) (same : (j : ℕ) → (j < p * w) ⊎ (p * w + w ≤ j) → cell_at e j ≡ cell_at b j) (q : ℕ) (ne : q ≡ p → ⊥) where
  outside : (j : ℕ) → q * w ≤ j → j < q * w + w → cell_at e j ≡ cell_at b j
  outside j l h =
      same j (elim (cases_lt q p) [ inl a ↦ inl (omega (arith, lanes_apart q p w a)) | inr a ↦ inr (omega (arith, lanes_apart p q w (omega (arith, ne)))) ])

  other_column : q < posts → Column (cell_at e) (q * w) w (fill_at w fills q)
  other_column l =
      let col = ok.columns q l in let r = col.room in
      frame _ _ _ _ _ col (λ j a h. outside j a (omega arith)) (λ j a h. outside j (omega arith) h)

  other_stamps : stamps_of (cell_at e) (q * w) w (fill_at w fills q).count ≡ stamps_of (cell_at b) (q * w) w (fill_at w fills q).count
  other_stamps =
      elim (cases_lt q posts) [
        | inl l ↦ let col = ok.columns q l in let r = col.room in
            frame_stamps _ _ _ _ _ col (λ j a h. outside j a (omega arith)) (λ j a h. outside j (omega arith) h)
        | inr g ↦ rw (ok.idle q g) refl
      ]

pub lane_inside : (posts w : ℕ) (fills : List Fill) (b : List Cell) (p : ℕ) → Sound posts w fills b → p < posts → p * w + w ≤ length b
lane_inside posts w fills b p ok l = omega (arith, lanes_apart p posts w l, ok.inside)

-- a held stamp lies in its lane
pub stamp_inside : (posts w : ℕ) (fills : List Fill) (b : List Cell) (p k : ℕ) → Sound posts w fills b → p < posts → k < (fill_at w fills p).count → place_at (cell_at b) (p * w) w k + 6 ≤ w
stamp_inside posts w fills b p k ok l h =
    let col = ok.columns p l in omega (arith, col.room, col.within k h, end_is (cell_at b) (p * w) w k)

place_is : (c : ℕ → ℕ) (start width k : ℕ) → 0 < k → place_at c start width (k - 1) ≡ pair_at c (start + width - 2 * k)
unfolding place_at
place_is c start width k h = ap (λ (n : ℕ). pair_at c (start + width - 2 * n)) (omega arith)

-- a stamp lies where it is read
lies_there : (c : ℕ → ℕ) (at : ℕ) → Lies c at (stamp_at c at)
unfolding stamp_at
lies_there c at =
    record { kind = refl; marked = refl; cover = refl; full = refl; entries = λ i l. get_or-map-range_with_len (λ k. c (at + 6 + k)) 0 (size (word_at c (at + 1))) i i 0 l (omega arith) }

-- what a found stamp is known by
pub record Found (posts w : ℕ) (fills : List Fill) (b : List Cell) (p k at : ℕ) : Type 0 where
  pub inside : at + 6 ≤ length b
  pub answer : Ok at ≡ of_stamp posts (length (stamps_of (cell_at b) (p * w) w (fill_at w fills p).count)) p k (Ok (stamp_cell (cell_at b) (p * w) w (k - 1)))
  pub lies : Lies (cell_at b) at (get_or (stamps_of (cell_at b) (p * w) w (fill_at w fills p).count) (k - 1) no_stamp)

-- What finding a stamp comes to, by its column's count and the place that is read.
module _ (posts w : ℕ) (fills : List Fill) (b : List Cell) (p k : ℕ) (ok : Sound posts w fills b) (is_there : ◌≡◌ {A = Result (Unit {0}) KeeperFault} (Ok tt) (of_stamp posts (fill_at w fills p).count p k (Ok tt))) where
  h : Located posts (fill_at w fills p).count p k
  h = located posts (fill_at w fills p).count p k tt is_there

  low : k - 1 < (fill_at w fills p).count
  low = omega (arith, h.some, h.within)

  pub place_inside : p * w + w - 2 * k + 2 ≤ length b
  place_inside = omega (arith, h.some, h.within, (ok.columns p h.known).room, lane_inside _ _ _ b p ok h.known)

  pub found : (place : ℕ) → place ≡ pair_at (cell_at b) (p * w + w - 2 * k) → Found posts w fills b p k (p * w + place)
  found place place_read =
      record {
        inside = omega (arith, there, lane_inside _ _ _ b p ok h.known, stamp_inside _ _ _ b p (k - 1) ok h.known low);
        answer = ap Ok there ∙ rw (counted (cell_at b) (p * w) w (fill_at w fills p).count) (held_any posts (fill_at w fills p).count p k (Ok (stamp_cell (cell_at b) (p * w) w (k - 1))) h);
        lies = rw (there, stamp_is (cell_at b) (p * w) w (fill_at w fills p).count (k - 1) low) (lies_there (cell_at b) (stamp_cell (cell_at b) (p * w) w (k - 1)));
      }
    where
      there : p * w + place ≡ stamp_cell (cell_at b) (p * w) w (k - 1)
      there = ap (λ (n : ℕ). p * w + n) (place_read ∙ sym (place_is (cell_at b) (p * w) w k h.some))

-- columns stay sound where no cell outside a known lane changes, that lane's column is one, and no other fill changes
module _ (posts w : ℕ) (fills : List Fill) (b e : List Cell) (p : ℕ) (ok : Sound posts w fills b) (known : p < posts) (same : (j : ℕ) → (j < p * w) ⊎ (p * w + w ≤ j) → cell_at e j ≡ cell_at b j) (long : length e ≡ length b) where
  lane_sound : (fills' : List Fill) → length fills' ≡ length fills → ((q : ℕ) → (q ≡ p → ⊥) → fill_at w fills' q ≡ fill_at w fills q) → Column (cell_at e) (p * w) w (fill_at w fills' p) → Sound posts w fills' e
  lane_sound fills' all others own =
      record {
        few = ok.few;
        all = all ∙ ok.all;
        inside = omega (arith, ok.inside);
        columns = λ q h.
            elim (cases_eq q p) [
              | inl a ↦ rw a own
              | inr ne ↦ rw (others q ne) (other_column _ _ _ _ _ p ok same q ne h)
            ];
        idle = λ q h. ap (λ (x : Fill). x.count) (others q (λ a. omega arith)) ∙ ok.idle q h;
      }

module _ (posts w : ℕ) (fills : List Fill) (b e : List Cell) (p : ℕ) (f : Fill) (s : Stamp) (ok : Sound posts w fills b) (known : p < posts) (f_is : f ≡ fill_at w fills p) (g : Grown (cell_at b) (cell_at e) (p * w) w f s) (paid : length s.entries + 8 ≤ f.left) (few : length s.entries ≤ 64) (sized : size s.cover ≡ length s.entries) (long : length e ≡ length b) where
  own : Column (cell_at b) (p * w) w f
  own = rw f_is (ok.columns p known)

  outside_lane : (j : ℕ) → (j < p * w) ⊎ (p * w + w ≤ j) → cell_at e j ≡ cell_at b j
  outside_lane j h = elim h [ inl a ↦ g.before j (omega arith) | inr a ↦ g.after j (omega arith) ]

  fill_own : fill_at w (set fills p (filled f s)) p ≡ filled f s
  fill_own = get_or-set_same fills p (filled f s) (unused w) (omega (arith, ok.few, ok.all))

  fill_other : (q : ℕ) → (q ≡ p → ⊥) → fill_at w (set fills p (filled f s)) q ≡ fill_at w fills q
  fill_other q ne = get_or-set_other fills p q (filled f s) (unused w) ne

  pub append_sound : Sound posts w (set fills p (filled f s)) e
  append_sound =
      lane_sound _ _ _ _ _ p ok known outside_lane long _ (length-set fills p (filled f s)) fill_other
      (rw fill_own (column_grown _ _ _ _ _ s own g paid few sized))

  left_own : (fill_at w (set fills p (filled f s)) p).left + price (length s.entries) ≡ (fill_at w fills p).left
  left_own = omega (arith, ap (λ (x : Fill). x.left) fill_own, ap (λ (x : Fill). x.left) f_is)

  left_other : (q : ℕ) → (q ≡ p → ⊥) → (fill_at w (set fills p (filled f s)) q).left ≡ (fill_at w fills q).left
  left_other q ne = ap (λ (x : Fill). x.left) (fill_other q ne)

  pub append_pile : Appended (pile posts w fills b) (pile posts w (set fills p (filled f s)) e) p s
  append_pile =
      record {
        same_posts = refl;
        own =
            ap (λ (x : Fill). stamps_of (cell_at e) (p * w) w x.count) fill_own ∙ stamps_grown _ _ _ _ _ s own g paid few sized
            ∙ ap (λ (x : Fill). stamps_of (cell_at b) (p * w) w x.count ++ s ∷ []) f_is;
        others = λ q ne. ap (λ (x : Fill). stamps_of (cell_at e) (q * w) w x.count) (fill_other q ne) ∙ other_stamps _ _ _ _ _ p ok outside_lane q ne;
        paid = omega (arith, left_own);
        falls = λ q. elim (cases_eq q p) [ inl a ↦ rw a (omega (arith, left_own)) | inr ne ↦ omega (arith, left_other q ne) ];
        at_most = λ q. elim (cases_eq q p) [ inl a ↦ rw a (omega (arith, left_own)) | inr ne ↦ omega (arith, left_other q ne) ];
      }

module _ (posts w : ℕ) (fills : List Fill) (b e : List Cell) (p k : ℕ) (ok : Sound posts w fills b) (h : Located posts (fill_at w fills p).count p k) (first : cell_at e (stamp_cell (cell_at b) (p * w) w (k - 1)) ≡ 256 + cell_at b (stamp_cell (cell_at b) (p * w) w (k - 1)) % 256) (same : (j : ℕ) → (j ≡ stamp_cell (cell_at b) (p * w) w (k - 1) → ⊥) → cell_at e j ≡ cell_at b j) (long : length e ≡ length b) where
  under : k - 1 < (fill_at w fills p).count
  under = omega (arith, h.some, h.within)

  off_lane : (j : ℕ) → (j < p * w) ⊎ (p * w + w ≤ j) → cell_at e j ≡ cell_at b j
  off_lane j h' = same j (λ a. omega (arith, stamp_inside _ _ _ b p (k - 1) ok h.known under))

  pub mark_sound : Sound posts w fills e
  mark_sound =
      lane_sound _ _ _ _ _ p ok h.known off_lane long fills refl (λ q ne. refl) (column_marked _ _ _ _ _ (k - 1) (ok.columns p h.known) under first same)

  pub mark_pile : Marked (pile posts w fills b) (pile posts w fills e) p k
  mark_pile =
      record {
        same_posts = refl;
        own =
            stamps_marked _ _ _ _ _ (k - 1) (ok.columns p h.known) under first same
            ∙ ap (λ (s : Stamp). set (stamps_of (cell_at b) (p * w) w (fill_at w fills p).count) (k - 1) (with_mark s)) (sym (stamp_is (cell_at b) (p * w) w (fill_at w fills p).count (k - 1) under));
        others = λ q ne. other_stamps _ _ _ _ _ p ok off_lane q ne;
        same_space = λ q. refl;
      }

-- ---- as the code does it

-- An append that is let in.
module _ (posts w : ℕ) (fills : List Fill) (b : List Cell) (p : ℕ) (f : Fill) (h : Header) (xs : List ℕ) (ok : Sound posts w fills b) (f_is : f ≡ fill_at w fills p) (let_in : Ok tt ≡ admission posts f.count f.left p h.cover.bits (length xs)) where
  pass : Admitted posts f.count p h.cover.bits (length xs)
  pass = admitted posts f.count f.left p h.cover.bits (length xs) let_in

  pays : length xs + 8 ≤ f.left
  pays = (paid posts f.count f.left p h.cover.bits (length xs) let_in).1

  column : Column (cell_at b) (p * w) w f
  column = rw f_is (ok.columns p pass.known)

  module _ (d : List Cell) (stored : Stored (cell_at b) (cell_at d) (p * w + front_of w f) (unmarked h xs)) (long : length d ≡ length b) where
    -- the stamp alone changes nothing that counts
    pub lay_sound : Sound posts w fills d
    lay_sound =
        lane_sound _ _ _ _ _ p ok pass.known outside long fills refl (λ q ne. refl)
        (rw (← f_is) (frame _ _ _ _ _ column (λ j l g. stored.elsewhere j (inl g)) (λ j l g. stored.elsewhere j (inr (omega (arith, column.room, pays))))))
      where
        outside : (j : ℕ) → (j < p * w) ⊎ (p * w + w ≤ j) → cell_at d j ≡ cell_at b j
        outside j l = stored.elsewhere j (elim l [ inl a ↦ inl (omega arith) | inr a ↦ inr (omega (arith, column.room, pays)) ])

    pub append_all
        : (e : List Cell) → Placed (cell_at d) (cell_at e) (p * w + w - 2 * (f.count + 1)) (front_of w f) → length e ≡ length b
        → Sound posts w (set fills p (filled f (unmarked h xs))) e × Appends (pile posts w fills b) (pile posts w (set fills p (filled f (unmarked h xs))) e) p h xs (Ok tt)
    append_all e placed long' = (
      append_sound _ _ _ _ _ p f (unmarked h xs) ok pass.known f_is g pays pass.few pass.sized long',
      record {
        answer = grind (arith, counted);
        leaves = append_pile _ _ _ _ _ p f (unmarked h xs) ok pass.known f_is g pays pass.few pass.sized long';
      },
    )
      where
        g : Grown (cell_at b) (cell_at e) (p * w) w f (unmarked h xs)
        g = grown _ (cell_at d) _ _ _ f (unmarked h xs) column pays pass.sized stored placed

pub mark_all : (posts w : ℕ) (fills : List Fill) (b e : List Cell) (ev : Event) (at : ℕ) → Sound posts w fills b → Ok at ≡ of_stamp posts (length (stamps_of (cell_at b) (ev.post * w) w (fill_at w fills ev.post).count)) ev.post ev.number (Ok (stamp_cell (cell_at b) (ev.post * w) w (ev.number - 1))) → cell_at e at ≡ 256 + cell_at b at % 256 → ((j : ℕ) → (j ≡ at → ⊥) → cell_at e j ≡ cell_at b j) → length e ≡ length b → Sound posts w fills e × Marks (pile posts w fills b) (pile posts w fills e) ev (Ok tt)
mark_all posts w fills b e ev at ok found there elsewhere long = (
  mark_sound _ _ _ _ _ ev.post ev.number ok h first same long,
  record {
    answer = held_any posts (length (stamps_of (cell_at b) (ev.post * w) w (fill_at w fills ev.post).count)) ev.post ev.number (Ok tt) is.1;
    leaves = mark_pile _ _ _ _ _ ev.post ev.number ok h first same long;
  },
)
  where
    is : (at ≡ stamp_cell (cell_at b) (ev.post * w) w (ev.number - 1)) × Located posts (length (stamps_of (cell_at b) (ev.post * w) w (fill_at w fills ev.post).count)) ev.post ev.number
    is = held posts (length (stamps_of (cell_at b) (ev.post * w) w (fill_at w fills ev.post).count)) ev.post ev.number _ at found

    h : Located posts (fill_at w fills ev.post).count ev.post ev.number
    h = rw (counted (cell_at b) (ev.post * w) w (fill_at w fills ev.post).count) at is.1

    first : cell_at e (stamp_cell (cell_at b) (ev.post * w) w (ev.number - 1)) ≡ 256 + cell_at b (stamp_cell (cell_at b) (ev.post * w) w (ev.number - 1)) % 256
    first = rw (← is.0) there

    same : (j : ℕ) → (j ≡ stamp_cell (cell_at b) (ev.post * w) w (ev.number - 1) → ⊥) → cell_at e j ≡ cell_at b j
    same j ne = elsewhere j (λ q. ne (q ∙ is.0))
