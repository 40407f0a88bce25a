-- Reading a stamp's cells.
use Rattle.std.proofs.Common.{◌≡◌, ℕ, ◌+◌, ◌-◌, ◌/◌, ◌<◌, ◌≤◌, List, ◌++◌, length, get_or, take, drop, sym, refl, ap, ◌∙◌, arith, lit<}
use borrow.Rule.Slice.PartMut.{put_mid}
use Rattle.std.proofs.lemmas.List.{append_assoc, length-append, length-take, length-drop, length-set, get_or-set_same, get_or-set_other, take_at, drop_at, drop-drop}
use Rattle.std.proofs.lemmas.Grind.{common_steps, elements}
use Rattle.std.proofs.lemmas.Slice.{take-put_mid, drop-put_mid}
use Rattle.order.specs.Posts.{size}
use Rattle.order.proofs.PostSets.{length_below_le}
use Rattle.keeper.specs.Moves.{unmarked}
use Rattle.keeper.specs.Piles.{price, with_mark}
use Rattle.keeper.specs.declared.admit.Header.{Header}
use Rattle.pool.specs.Layout.{mark_at, code_at, post_at, cover_at, full_at, link_at, entries_at, stamp_at, past, Packs, with_stamp, marking, with_mark_at}

-- the header cells after the first are the same, in ys from a on and in xs from b on
abbrev pub Alike : List ℕ → ℕ → List ℕ → ℕ → Type 0
Alike ys a xs b = (k : ℕ) → 0 < k → k < 8 → get_or ys (a + k) 0 ≡ get_or xs (b + k) 0

pub cover_alike : (ys xs : List ℕ) (a b : ℕ) → Alike ys a xs b → cover_at ys a ≡ cover_at xs b
unfolding cover_at
cover_alike ys xs a b s = omega arith

pub full_alike : (ys xs : List ℕ) (a b : ℕ) → Alike ys a xs b → full_at ys a ≡ full_at xs b
unfolding full_at
full_alike ys xs a b s = omega arith

pub link_alike : (ys xs : List ℕ) (a b : ℕ) → Alike ys a xs b → link_at ys a ≡ link_at xs b
unfolding link_at
link_alike ys xs a b s = omega arith

pub entries_alike
    : (ys xs : List ℕ) (a : ℕ) → length ys ≡ length xs → cover_at ys a ≡ cover_at xs a
    → ((k : ℕ) → k < size (cover_at xs a) → get_or ys (a + 8 + k) 0 ≡ get_or xs (a + 8 + k) 0)
    → entries_at ys a ≡ entries_at xs a
unfolding entries_at
entries_alike ys xs a l e s = rw e (grind (arith, elements))

-- a stamp's extent
pub past_more : (xs : List ℕ) (a : ℕ) → a + 8 ≤ past xs a
unfolding past
past_more xs a = omega arith

pub past_less : (xs : List ℕ) (a : ℕ) → past xs a ≤ a + 72
unfolding past
past_less xs a = omega (arith, length_below_le 64 (cover_at xs a))

-- the cells of a stamp are all that it depends on
pub stamp_alike
    : (ys xs : List ℕ) (a : ℕ) → length ys ≡ length xs → ((k : ℕ) → a ≤ k → k < past xs a → get_or ys k 0 ≡ get_or xs k 0)
    → stamp_at ys a ≡ stamp_at xs a
unfolding past mark_at code_at
stamp_alike ys xs a l s =
    rw (first, cover, full_alike ys xs a a next, entries_alike ys xs a l cover (λ k h. s (a + 8 + k) (omega arith) (omega arith))) refl
  where
    first : get_or ys a 0 ≡ get_or xs a 0
    first = s a (omega arith) (omega arith)

    next : Alike ys a xs a
    next k h m = s (a + k) (omega arith) (omega arith)

    cover : cover_at ys a ≡ cover_at xs a
    cover = cover_alike ys xs a a next

-- ---- a marked stamp

pub stamp_marked : (xs : List ℕ) (a : ℕ) → a < length xs → stamp_at (with_mark_at xs a) a ≡ with_mark (stamp_at xs a)
unfolding mark_at code_at
stamp_marked xs a w =
    rw (code, mark, cover, full_alike ys xs a a next, entries_alike ys xs a (length-set xs a _) cover (λ k h. get_or-set_other xs a (a + 8 + k) _ 0 (omega arith))) refl
  where
    ys : List ℕ
    ys = with_mark_at xs a

    first : get_or ys a 0 ≡ marking (get_or xs a 0)
    first = get_or-set_same xs a (marking (get_or xs a 0)) 0 w

    code : code_at ys a ≡ code_at xs a
    code = omega (arith, first)

    mark : mark_at ys a ≡ 1
    mark = omega (arith, first)

    next : Alike ys a xs a
    next k h m = get_or-set_other xs a (a + k) _ 0 (omega arith)

    cover : cover_at ys a ≡ cover_at xs a
    cover = cover_alike ys xs a a next

pub post_marked : (xs : List ℕ) (a : ℕ) → a < length xs → post_at (with_mark_at xs a) a ≡ post_at xs a
unfolding post_at
post_marked xs a w = omega (arith, get_or-set_same xs a (marking (get_or xs a 0)) 0 w)

-- ---- a written stamp

pub length_written : (xs : List ℕ) (a : ℕ) (hs es : List ℕ) → length hs ≡ 8 → a + 8 + length es ≤ length xs → length (with_stamp xs a hs es) ≡ length xs
length_written xs a hs es h w = simp (length-append, length-take, length-drop) (omega arith)

-- what lay below stays
pub below_written : (xs : List ℕ) (a : ℕ) (hs es : List ℕ) → a ≤ length xs → (k : ℕ) → k < a → get_or (with_stamp xs a hs es) k 0 ≡ get_or xs k 0
below_written xs a hs es w k h = grind (arith, common_steps)

-- the header can be read
pub header_written
    : (xs : List ℕ) (a : ℕ) (hs es : List ℕ) → length hs ≡ 8 → a ≤ length xs → (k : ℕ) → k < 8 → get_or (with_stamp xs a hs es) (a + k) 0 ≡ get_or hs k 0
header_written xs a hs es l w k h = grind (arith, common_steps)

entries_written
    : (xs : List ℕ) (a : ℕ) (hs es : List ℕ) → length hs ≡ 8 → a ≤ length xs → take (length es) (drop (a + 8) (with_stamp xs a hs es)) ≡ es
entries_written xs a hs es l w =
    ap (λ (zs : List ℕ). take (length es) (drop (a + 8) zs)) (sym (append_assoc (take a xs) hs (es ++ drop (a + 8 + length es) xs)))
    ∙ ap (take (length es)) (drop_at (take a xs ++ hs) (es ++ drop (a + 8 + length es) xs) (a + 8) (simp (length-append, length-take) (omega arith)))
    ∙ take_at es (drop (a + 8 + length es) xs) (length es) refl

pub record Written (xs : List ℕ) (a : ℕ) (hs es : List ℕ) (post : ℕ) (header : Header) (link : ℕ) : Type 0 where
  pub posted : post_at (with_stamp xs a hs es) a ≡ post
  pub linked : link_at (with_stamp xs a hs es) a ≡ link
  pub ends : past (with_stamp xs a hs es) a ≡ a + price (length es)
  pub stamp : stamp_at (with_stamp xs a hs es) a ≡ unmarked header es

pub written
    : (xs : List ℕ) (a : ℕ) (hs es : List ℕ) (post : ℕ) (header : Header) (link : ℕ) → Packs hs post header link → a ≤ length xs
    → size header.cover.bits ≡ length es → Written xs a hs es post header link
unfolding post_at mark_at code_at past entries_at
written xs a hs es post header link p w z =
    record {
      posted = ap (λ (n : ℕ). n / 8) first ∙ p.posted;
      linked = link_alike ys hs a 0 next ∙ p.linked;
      ends = ap (λ (n : ℕ). a + price n) sized;
      stamp = rw (first, p.kind, p.unmarked, cover, full_alike ys hs a 0 next, p.full, z, entries_written xs a hs es p.long w) refl;
    }
  where
    ys : List ℕ
    ys = with_stamp xs a hs es

    first : get_or ys a 0 ≡ get_or hs 0 0
    first = ap (λ (n : ℕ). get_or ys n 0) (omega arith) ∙ header_written xs a hs es p.long w 0 (lit< tt)

    next : Alike ys a hs 0
    next k h m = header_written xs a hs es p.long w k m ∙ ap (λ (n : ℕ). get_or hs n 0) (omega arith)

    cover : cover_at ys a ≡ header.cover.bits
    cover = cover_alike ys hs a 0 next ∙ p.cover

    sized : size (cover_at ys a) ≡ length es
    sized = ap size cover ∙ z

-- a header and then entries, written one after the other
pub written_in_turn
    : (xs : List ℕ) (a : ℕ) (hs es : List ℕ) → length hs ≡ 8 → a + 8 + length es ≤ length xs
    → put_mid (a + 8) (a + 8 + length es - (a + 8)) (put_mid a (a + 8 - a) xs hs) es ≡ with_stamp xs a hs es
written_in_turn xs a hs es l w =
    ap (λ (zs : List ℕ). zs ++ (es ++ drop (a + 8 + length es - (a + 8)) (drop (a + 8) (put_mid a (a + 8 - a) xs hs))))
    (take-put_mid a (a + 8 - a) xs hs (a + 8) (omega arith) (omega arith))
    ∙ ap (λ (zs : List ℕ). (take a xs ++ hs) ++ (es ++ zs)) rest ∙ append_assoc (take a xs) hs (es ++ drop (a + 8 + length es) xs)
  where
    rest : drop (a + 8 + length es - (a + 8)) (drop (a + 8) (put_mid a (a + 8 - a) xs hs)) ≡ drop (a + 8 + length es) xs
    rest =
        ap (drop (a + 8 + length es - (a + 8))) (drop-put_mid a (a + 8 - a) xs hs (a + 8) (omega arith) (omega arith) (omega arith))
        ∙ drop-drop (a + 8 + length es - (a + 8)) (a + 8) xs ∙ ap (λ (n : ℕ). drop n xs) (omega arith)
