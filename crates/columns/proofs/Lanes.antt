-- Columns: what stays where cells stay, what an append adds, and what a mark changes.
use Rattle.std.proofs.Common.{◌≡◌, ℕ, ◌+◌, ◌-◌, ◌*◌, ◌%◌, ◌<◌, ◌≤◌, List, [], ◌∷◌, ◌++◌, length, set, refl, ap, ◌∙◌, inl, inr, add-mul, arith}
use Rattle.std.proofs.lemmas.Nat.{mul-le}
use Rattle.std.proofs.lemmas.List.FromFn.{map-range_with_len_more}
use Rattle.std.proofs.lemmas.Bool.{cases_eq, cases_lt}
use Rattle.order.specs.Posts.{size}
use Rattle.keeper.specs.Piles.{Stamp, price, with_mark}
use Rattle.columns.specs.Layout.{stamp_at, place_at, end_at, stamp_cell, stamps_of, Stored, Placed}
use Rattle.columns.specs.Sound.{Column, front_of}
use Rattle.columns.specs.declared.Fill.{Fill}
use Rattle.columns.proofs.Stamps.{counted_same, counted_set, stamp_same, stamp_marked}

-- a column ends before a later one begins
pub lanes_apart : (p q w : ℕ) → p < q → p * w + w ≤ q * w
lanes_apart p q w l = omega (arith, mul-le (p + 1) w q w (omega arith) (omega arith), add-mul p 1 w)

-- where the end of a stamp is, by its place and its cover
pub end_is : (c : ℕ → ℕ) (start width k : ℕ) → end_at c start width k ≡ place_at c start width k + 6 + size (stamp_at c (stamp_cell c start width k)).cover
unfolding end_at stamp_at
end_is c start width k = refl

-- ---- what stays

module _ (c d : ℕ → ℕ) (start width : ℕ) (f : Fill) (col : Column c start width f) where
  -- places stay where the column's back stays
  pub places_same : ((j : ℕ) → start + width - 2 * f.count ≤ j → j < start + width → d j ≡ c j) → (k : ℕ) → k < f.count → place_at d start width k ≡ place_at c start width k
  unfolding place_at
  places_same back k l =
      let r = col.room in
      omega (arith, back (start + width - 2 * (k + 1)) (omega arith) (omega arith), back (start + width - 2 * (k + 1) + 1) (omega arith) (omega arith))

  -- a stamp whose place stays, and whose cells stay
  pub stamp_kept : (k : ℕ) → place_at d start width k ≡ place_at c start width k → ((j : ℕ) → stamp_cell c start width k ≤ j → j < start + end_at c start width k → d j ≡ c j) → stamp_at d (stamp_cell d start width k) ≡ stamp_at c (stamp_cell c start width k)
  unfolding end_at
  stamp_kept k place same =
      ap (λ (n : ℕ). stamp_at d (start + n)) place
      ∙ stamp_same c d (stamp_cell c start width k) (λ j l h. same j l (omega arith))

  pub end_kept : (k : ℕ) → place_at d start width k ≡ place_at c start width k → (stamp_at d (stamp_cell d start width k)).cover ≡ (stamp_at c (stamp_cell c start width k)).cover → end_at d start width k ≡ end_at c start width k
  end_kept k place cover = omega (arith, end_is d start width k, end_is c start width k, place, ap size cover)

  -- a column stays sound where places and ends stay
  pub column_kept : ((k : ℕ) → k < f.count → place_at d start width k ≡ place_at c start width k) → ((k : ℕ) → k < f.count → end_at d start width k ≡ end_at c start width k) → Column d start width f
  column_kept places ends =
      record {
        room = col.room;
        short = col.short;
        within = λ k l. omega (arith, col.within k l, ends k l);
        apart = λ j k l h. omega (arith, col.apart j k l h, ends j (omega arith), places k h);
      }

  -- the front and the back stay
  module _ (front : (j : ℕ) → start ≤ j → j < start + front_of width f → d j ≡ c j) (back : (j : ℕ) → start + width - 2 * f.count ≤ j → j < start + width → d j ≡ c j) where
    each_kept : (k : ℕ) → k < f.count → stamp_at d (stamp_cell d start width k) ≡ stamp_at c (stamp_cell c start width k)
    each_kept k l = stamp_kept k (places_same back k l) (λ j g h. front j (omega arith) (omega (arith, col.within k l)))

    pub frame : Column d start width f
    frame = column_kept (places_same back) (λ k l. end_kept k (places_same back k l) (ap (λ (s : Stamp). s.cover) (each_kept k l)))

    pub frame_stamps : stamps_of d start width f.count ≡ stamps_of c start width f.count
    frame_stamps = counted_same (λ k. stamp_at c (stamp_cell c start width k)) (λ k. stamp_at d (stamp_cell d start width k)) f.count each_kept

-- ---- an append

-- with one more stamp
abbrev pub filled : Fill → Stamp → Fill
filled f s = record { count = f.count + 1; left = f.left - price (length s.entries) }

-- Cells d are the cells c with a stamp at the end of a column's front and its place at the front of its back.
pub record Grown (c d : ℕ → ℕ) (start width : ℕ) (f : Fill) (s : Stamp) : Type 0 where
  pub place : place_at d start width f.count ≡ front_of width f
  pub stamp : stamp_at d (start + front_of width f) ≡ s
  pub before : (j : ℕ) → j < start + front_of width f → d j ≡ c j
  pub after : (j : ℕ) → start + width - 2 * f.count ≤ j → d j ≡ c j

pub grown : (c d e : ℕ → ℕ) (start width : ℕ) (f : Fill) (s : Stamp) → Column c start width f → length s.entries + 8 ≤ f.left → size s.cover ≡ length s.entries → Stored c d (start + front_of width f) s → Placed d e (start + width - 2 * (f.count + 1)) (front_of width f) → Grown c e start width f s
unfolding place_at stamp_at
grown c d e start width f s col paid sized put at =
    let room = col.room in let sized' = ap (λ (t : Stamp). size t.cover) put.stamp in
    record {
      place = at.there;
      stamp = stamp_same d e (start + front_of width f) (λ j l h. at.elsewhere j (inl (omega arith))) ∙ put.stamp;
      before = λ j l. at.elsewhere j (inl (omega arith)) ∙ put.elsewhere j (inl l);
      after = λ j l. at.elsewhere j (inr (omega arith)) ∙ put.elsewhere j (inr (omega arith));
    }

module _ (c d : ℕ → ℕ) (start width : ℕ) (f : Fill) (s : Stamp) (col : Column c start width f) (g : Grown c d start width f s) (paid : length s.entries + 8 ≤ f.left) (few : length s.entries ≤ 64) (sized : size s.cover ≡ length s.entries) where
  kept : Column d start width f
  kept = frame _ _ _ _ _ col (λ j l h. g.before j h) (λ j l h. g.after j l)

  new_stamp : stamp_at d (stamp_cell d start width f.count) ≡ s
  new_stamp = ap (λ (p : ℕ). stamp_at d (start + p)) g.place ∙ g.stamp

  new_end : end_at d start width f.count ≡ front_of width f + 6 + length s.entries
  new_end = omega (arith, end_is d start width f.count, g.place, ap (λ (t : Stamp). size t.cover) new_stamp, sized)

  pub column_grown : Column d start width (filled f s)
  column_grown =
      let r = col.room in
      record {
        room = omega arith;
        short = omega (arith, col.short);
        within = λ k l. elim (cases_eq k f.count) [ inl e ↦ rw e (omega (arith, new_end)) | inr ne ↦ omega (arith, kept.within k (omega arith)) ];
        apart = λ j k l h.
            elim (cases_eq k f.count) [
              | inl e ↦ rw e (omega (arith, kept.within j (omega arith), g.place))
              | inr ne ↦ kept.apart j k l (omega arith)
            ];
      }

  pub stamps_grown : stamps_of d start width (f.count + 1) ≡ stamps_of c start width f.count ++ s ∷ []
  stamps_grown =
      map-range_with_len_more (λ k. stamp_at d (stamp_cell d start width k)) 0 f.count f.count (omega arith)
      ∙ ap (λ (xs : List Stamp). xs ++ stamp_at d (stamp_cell d start width f.count) ∷ []) (frame_stamps _ _ _ _ _ col (λ j l h. g.before j h) (λ j l h. g.after j l))
      ∙ ap (λ (t : Stamp). stamps_of c start width f.count ++ t ∷ []) new_stamp

-- ---- a mark

module _ (c d : ℕ → ℕ) (start width : ℕ) (f : Fill) (k : ℕ) (col : Column c start width f) (held : k < f.count) (first : d (stamp_cell c start width k) ≡ 256 + c (stamp_cell c start width k) % 256) (same : (j : ℕ) → (j ≡ stamp_cell c start width k → ⊥) → d j ≡ c j) where
  place_marked : (i : ℕ) → i < f.count → place_at d start width i ≡ place_at c start width i
  place_marked = places_same c d start width f col (λ j l h. same j (λ e. omega (arith, col.within k held, end_is c start width k, col.room)))

  here_marked : stamp_at d (stamp_cell d start width k) ≡ with_mark (stamp_at c (stamp_cell c start width k))
  here_marked = ap (λ (p : ℕ). stamp_at d (start + p)) (place_marked k held) ∙ stamp_marked c d (stamp_cell c start width k) first same

  others_marked : (i : ℕ) → i < f.count → (i ≡ k → ⊥) → stamp_at d (stamp_cell d start width i) ≡ stamp_at c (stamp_cell c start width i)
  others_marked i l ne =
      stamp_kept c d start width f col i (place_marked i l)
      (λ j g h. same j (λ e. elim (cases_lt i k) [
        | inl b ↦ omega (arith, col.apart i k b held)
        | inr a ↦ omega (arith, col.apart k i (omega arith) l, end_is c start width k)
      ]))

  cover_marked : (i : ℕ) → i < f.count → (stamp_at d (stamp_cell d start width i)).cover ≡ (stamp_at c (stamp_cell c start width i)).cover
  cover_marked i l =
      elim (cases_eq i k) [
        | inl e ↦ rw e (ap (λ (s : Stamp). s.cover) here_marked)
        | inr ne ↦ ap (λ (s : Stamp). s.cover) (others_marked i l ne)
      ]

  pub column_marked : Column d start width f
  column_marked =
      column_kept c d start width f col place_marked (λ i l. end_kept c d start width f col i (place_marked i l) (cover_marked i l))

  pub stamps_marked : stamps_of d start width f.count ≡ set (stamps_of c start width f.count) k (with_mark (stamp_at c (stamp_cell c start width k)))
  stamps_marked =
      counted_set (λ i. stamp_at c (stamp_cell c start width i)) (λ i. stamp_at d (stamp_cell d start width i)) f.count k _ held others_marked here_marked
