-- Stamps one after another: where they start, and which are a post's.
use Rattle.std.proofs.Common.{◌≡◌, ℕ, zero, suc, ◌+◌, ◌-◌, ◌*◌, ◌/◌, ◌<◌, ◌≤◌, List, [], ◌∷◌, ◌++◌, map, length, get_or, set, All, AllPairs, sym, refl, ap, ◌∙◌, inl, inr, arith}
use Rattle.std.proofs.lemmas.Grind.{common_steps}
use Rattle.std.proofs.lemmas.List.{append-nil, length_push, length-set, get_or_push, get_or-set_same, get_or-set_other}
use Rattle.std.proofs.lemmas.List.Elements.{All-nil, All-push}
use Rattle.std.proofs.lemmas.List.Quantifiers.{all_pairs_push}
use Rattle.std.proofs.lemmas.Bool.{cases_eq, cases_lt, eq-eqb, ne_eqb}
use Rattle.keeper.specs.Piles.{Stamp}
use Rattle.pool.specs.Layout.{post_at, cover_at, link_at, past, with_mark_at}
use Rattle.pool.specs.Stack.{none, latest_of, start, places, newest_of, Laid}
use Rattle.pool.specs.declared.Latest.{Latest}
use Rattle.pool.proofs.Cells.{Alike, past_more, past_less, cover_alike, link_alike, post_marked}

-- ---- starts

-- a stamp ends where or before each later one starts
pub start_past : (xs : List ℕ) (i n : ℕ) → i < n → past xs (start xs i) ≤ start xs n
unfolding start
start_past xs i zero h = absurd (omega arith)
start_past xs i (suc n) h =
    elim (cases_lt i n)
    [ inl l ↦ omega (arith, start_past xs i n l, past_more xs (start xs n)) | inr g ↦ let e : i ≡ n = omega arith in rw e (omega arith) ]

pub start_less : (xs : List ℕ) (n : ℕ) → start xs n ≤ 72 * n
unfolding start
start_less xs zero = omega arith
start_less xs (suc n) = omega (arith, start_less xs n, past_less xs (start xs n))

-- ---- the places of a post's stamps

places_with : (xs : List ℕ) (p n : ℕ) → post_at xs (start xs n) ≡ p → places xs p (suc n) ≡ places xs p n ++ start xs n ∷ []
unfolding places
places_with xs p n e = rw (eq-eqb (post_at xs (start xs n)) p e) refl

places_without : (xs : List ℕ) (p n : ℕ) → (post_at xs (start xs n) ≡ p → ⊥) → places xs p (suc n) ≡ places xs p n
unfolding places
places_without xs p n ne = rw (ne_eqb (post_at xs (start xs n)) p ne) (append-nil (places xs p n))

-- a place is the start of a stamp of its post
pub record Starts (xs : List ℕ) (p n a : ℕ) : Type 0 where
  pub after : ℕ
  pub before : after < n
  pub is : a ≡ start xs after
  pub posted : post_at xs a ≡ p

-- a fact of a post's places among n + 1 stamps, from the same among n
places_step
    : (P : List ℕ → Type 0) (xs : List ℕ) (p n : ℕ) → (post_at xs (start xs n) ≡ p → P (places xs p n ++ start xs n ∷ [])) → P (places xs p n)
    → P (places xs p (suc n))
places_step P xs p n new old =
    elim (cases_eq (post_at xs (start xs n)) p) [ inl e ↦ rw (places_with xs p n e) (new e) | inr ne ↦ rw (places_without xs p n ne) old ]

later : {xs : List ℕ} {p n a : ℕ} → Starts xs p n a → Starts xs p (suc n) a
later s = record { after = s.after; before = omega (arith, s.before); is = s.is; posted = s.posted }

pub place_starts : (xs : List ℕ) (p n : ℕ) → All (Starts xs p n) (places xs p n)
unfolding places
place_starts xs p zero = All-nil (Starts xs p zero)
place_starts xs p (suc n) =
    let old : All (Starts xs p (suc n)) (places xs p n) = λ k d h. later (place_starts xs p n k d h) in
    places_step (All (Starts xs p (suc n))) xs p n
    (λ e. All-push (Starts xs p (suc n)) (places xs p n) (start xs n) old (record { after = n; before = omega arith; is = refl; posted = e })) old

-- a post's stamps do not overlap
abbrev Ascend : List ℕ → List ℕ → Type 0
Ascend xs zs = AllPairs (λ a b. past xs a ≤ b) zs

pub places_ascend : (xs : List ℕ) (p n : ℕ) → Ascend xs (places xs p n)
unfolding places
places_ascend xs p zero = λ i j d h l. absurd (omega arith)
places_ascend xs p (suc n) =
    places_step (Ascend xs) xs p n
    (λ _. all_pairs_push (λ a b. past xs a ≤ b) (places xs p n) (start xs n) (places_ascend xs p n)
    (λ k d h. let s = place_starts xs p n k d h in rw s.is (start_past xs s.after n s.before)))
    (places_ascend xs p n)

-- ---- cells that keep the structure of the first n stamps

pub record Keeps (ys xs : List ℕ) (n : ℕ) : Type 0 where
  pub long : length ys ≡ length xs
  pub post : (i : ℕ) → i < n → post_at ys (start xs i) ≡ post_at xs (start xs i)
  pub cover : (i : ℕ) → i < n → cover_at ys (start xs i) ≡ cover_at xs (start xs i)
  pub link : (i : ℕ) → i < n → link_at ys (start xs i) ≡ link_at xs (start xs i)

start_keeps : {ys xs : List ℕ} {n : ℕ} (i : ℕ) → Keeps ys xs n → i ≤ n → start ys i ≡ start xs i
unfolding start past
start_keeps zero w h = refl
start_keeps (suc i) w h = rw (start_keeps i w (omega arith), w.cover i (omega arith)) refl

places_keep_below : {ys xs : List ℕ} {n : ℕ} (p i : ℕ) → Keeps ys xs n → i ≤ n → places ys p i ≡ places xs p i
unfolding places
places_keep_below p zero w h = refl
places_keep_below p (suc i) w h = rw (places_keep_below p i w (omega arith), start_keeps i w (omega arith), w.post i (omega arith)) refl

pub places_keep : {ys xs : List ℕ} {n : ℕ} (p : ℕ) → Keeps ys xs n → places ys p n ≡ places xs p n
places_keep {ys} {xs} {n} p w = places_keep_below p n w (omega arith)

links_keep : {ys xs : List ℕ} {n : ℕ} (p : ℕ) → Keeps ys xs n → All (λ a. link_at ys a ≡ link_at xs a) (places xs p n)
links_keep {ys} {xs} {n} p w k d h = let s = place_starts xs p n k d h in rw s.is (w.link s.after s.before)

-- cells that are the same up to the end of the n-th stamp
pub below_keeps
    : (ys xs : List ℕ) (n : ℕ) → length ys ≡ length xs → ((k : ℕ) → k < start xs n → get_or ys k 0 ≡ get_or xs k 0) → Keeps ys xs n
unfolding post_at
below_keeps ys xs n l s =
    record {
      long = l;
      post = λ i h. ap (λ (m : ℕ). m / 8) (s (start xs i) (omega (arith, start_past xs i n h, past_more xs (start xs i))));
      cover = λ i h. cover_alike ys xs (start xs i) (start xs i) (next i h);
      link = λ i h. link_alike ys xs (start xs i) (start xs i) (next i h);
    }
  where
    next : (i : ℕ) → i < n → Alike ys (start xs i) xs (start xs i)
    next i h k a b = s (start xs i + k) (omega (arith, start_past xs i n h, past_more xs (start xs i)))

-- a stamp's first cell is no other cell of a header
apart : (xs : List ℕ) (i j k : ℕ) → 0 < k → k < 8 → start xs i + k ≡ start xs j → ⊥
apart xs i j k a b q = grind (arith, start_past xs i j, start_past xs j i, past_more xs (start xs i), past_more xs (start xs j))

-- cells with a mark more
pub marked_keeps : (xs : List ℕ) (n j : ℕ) → j < n → start xs n ≤ length xs → Keeps (with_mark_at xs (start xs j)) xs n
unfolding post_at
marked_keeps xs n j h w =
    record {
      long = length-set xs a _;
      post = λ i l. elim (cases_eq (start xs i) a) [ inl e ↦ rw e (post_marked xs a within) | inr ne ↦ ap (λ (m : ℕ). m / 8) (get_or-set_other xs a (start xs i) _ 0 ne) ];
      cover = λ i l. cover_alike (with_mark_at xs a) xs (start xs i) (start xs i) (next i);
      link = λ i l. link_alike (with_mark_at xs a) xs (start xs i) (start xs i) (next i);
    }
  where
    a : ℕ
    a = start xs j

    within : a < length xs
    within = omega (arith, start_past xs j n h, past_more xs (start xs j))

    next : (i : ℕ) → Alike (with_mark_at xs a) (start xs i) xs (start xs i)
    next i k b c = get_or-set_other xs a (start xs i + k) _ 0 (apart xs i j k b c)

-- ---- what the index tells, kept and pushed

abbrev Links : List ℕ → List ℕ → Type 0
Links cells zs = (k : ℕ) → suc k < length zs → link_at cells (get_or zs (suc k) 0) ≡ get_or zs k 0

pub laid_keeps : {ys xs : List ℕ} {latest : List Latest} {used n : ℕ} → Laid xs latest used n → Keeps ys xs n → Laid ys latest used n
laid_keeps {n = n} l w =
    record {
      ends = l.ends ∙ sym (start_keeps n w (omega arith));
      counted = λ p. rw (places_keep p w) (l.counted p);
      newest = λ p. rw (places_keep p w) (l.newest p);
      linked = λ p. rw (places_keep p w) (λ k h. links_keep p w (suc k) 0 h ∙ l.linked p k h);
    }

-- one more stamp, of post p, from a on
pub record Pushed (ys xs : List ℕ) (n p a : ℕ) : Type 0 where
  pub keeps : Keeps ys xs n
  pub at : a ≡ start xs n
  pub posted : post_at ys a ≡ p

started : {ys xs : List ℕ} {n p a : ℕ} → Pushed ys xs n p a → start ys n ≡ a
started {n = n} w = start_keeps n w.keeps (omega arith) ∙ sym w.at

pub own_places : {ys xs : List ℕ} {n p a : ℕ} → Pushed ys xs n p a → places ys p (suc n) ≡ places xs p n ++ a ∷ []
own_places {ys} {xs} {n} {p} w = places_with ys p n (ap (post_at ys) (started w) ∙ w.posted) ∙ rw (places_keep p w.keeps, started w) refl

pub other_places : {ys xs : List ℕ} {n p a : ℕ} → Pushed ys xs n p a → (q : ℕ) → (q ≡ p → ⊥) → places ys q (suc n) ≡ places xs q n
other_places {ys} {xs} {n} w q ne = places_without ys q n (λ e. ne (sym e ∙ ap (post_at ys) (started w) ∙ w.posted)) ∙ places_keep q w.keeps

links_push : (cells zs : List ℕ) (a : ℕ) → Links cells zs → link_at cells a ≡ newest_of zs → Links cells (zs ++ a ∷ [])
links_push cells zs a l e k h = grind (arith, common_steps, l k)

-- what the index has of post p with a stamp more, at a
abbrev pub one_more : List Latest → ℕ → ℕ → Latest
one_more latest p a = record { count = (latest_of latest p).count + 1; newest = a }

abbrev pub with_latest : List Latest → ℕ → ℕ → List Latest
with_latest latest p a = set latest p (one_more latest p a)

pub own_latest : (latest : List Latest) (p a : ℕ) → p < length latest → latest_of (with_latest latest p a) p ≡ one_more latest p a
own_latest latest p a h = get_or-set_same latest p (one_more latest p a) none h

pub other_latest : (latest : List Latest) (p a q : ℕ) → (q ≡ p → ⊥) → latest_of (with_latest latest p a) q ≡ latest_of latest q
other_latest latest p a q ne = get_or-set_other latest p q (one_more latest p a) none ne

pub laid_push
    : {ys xs : List ℕ} {latest : List Latest} {used n p end : ℕ} → Laid xs latest used n → Pushed ys xs n p used → link_at ys used ≡ (latest_of latest p).newest
    → past ys used ≡ end → p < length latest → Laid ys (with_latest latest p used) end (suc n)
unfolding start
laid_push {ys} {xs} {latest} {used} {n} {p} l w link ends b =
    record {
      ends = rw (started w) (sym ends);
      counted = λ q. elim (cases_eq q p) [ inl e ↦ rw (e, own_places w, own_latest latest p used b) (length_push (places xs p n) used ∙ ap (λ (m : ℕ). m + 1) (l.counted p)) | inr ne ↦ rw (other_places w q ne, other_latest latest p used q ne) (l.counted q) ];
      newest = λ q. elim (cases_eq q p) [ inl e ↦ rw (e, own_places w, own_latest latest p used b) (sym (get_or_push (places xs p n) used 0 (length (places xs p n ++ used ∷ []) - 1) (omega (arith, length_push (places xs p n) used)))) | inr ne ↦ rw (other_places w q ne, other_latest latest p used q ne) (l.newest q) ];
      linked = λ q. elim (cases_eq q p) [ inl e ↦ rw (e, own_places w) (links_push ys (places xs p n) used (old p) (link ∙ l.newest p)) | inr ne ↦ rw (other_places w q ne) (old q) ];
    }
  where
    old : (q : ℕ) → Links ys (places xs q n)
    old q k h = links_keep q w.keeps (suc k) 0 h ∙ l.linked q k h

-- ---- stamps

pub map_same : (f g : ℕ → Stamp) (zs : List ℕ) → All (λ z. f z ≡ g z) zs → map f zs ≡ map g zs
map_same f g [] h = refl
map_same f g (z ∷ zs) h =
    let first : f z ≡ g z = h 0 0 (omega arith) in
    let rest : map f zs ≡ map g zs = map_same f g zs (λ k d l. h (suc k) d (omega arith)) in
    rw (first, rest) refl
