-- What is kept of events: entries by rank, what later records leave as it is, and that every entry comes back.
use Rattle.std.proofs.Common.{◌≡◌, ℕ, zero, suc, ◌<◌, ◌≤◌, max, Bool, true, false, ◌&&◌, eqb, List, [], ◌∷◌, ◌++◌, map, length, sym, refl, ap, ◌∙◌, inl, inr, arith}
use mathlib.Core.Path.{fun_ext}
use Rattle.std.proofs.lemmas.List.{length-map, get_or-map, map-append}
use Rattle.std.proofs.lemmas.Bool.Decides.{nat_tests}
use Rattle.std.proofs.lemmas.Bool.{cases_Bool, or_from}
use Rattle.keeper.specs.Piles.{Stamp, entry_of, with_mark}
use Rattle.order.specs.History.{History, Valid, count, ground, kind_at, received}
use Rattle.order.specs.History.Valid.{start, taken}
use Rattle.order.specs.Posts.{has, below, members, size}
use Rattle.order.specs.Records.{Bytes, post, kind, partner_post, partner_number, receives, kind_named}
use Rattle.order.specs.Vectors.{vec}
use Rattle.order.specs.declared.event.Kind.{Kind}
use Rattle.order.proofs.Held.{passed, count_grows}
use Rattle.order.proofs.PostSets.{rank_below, get_or_rank, below_zero, below_with, below_without}
use Rattle.order.proofs.Vectors.{when, unless, vec_old, vec_self, vec-count, vec_closed}
use Rattle.cluster.specs.Clusters.{all, cover, cover_at, latest_full}
use Rattle.cluster.specs.Kept.{kept, largest, told, recovered}
use Rattle.cluster.specs.Laws.{ComesBack}
use Rattle.cluster.specs.Rules.{Rule}
use Rattle.cluster.proofs.Covers.{has_each, cover_at_new, cover_at_old, cover_at_posts, latest_full_old, latest_full_most, latest_full_covers, latest_full_last, Source, source}

-- ---- a kept stamp

pub kept-cover : (P : Rule) (n : ℕ) (h : History) (p k : ℕ) → (kept P n h p k).cover ≡ cover_at P n h p k
unfolding kept
kept-cover P n h p k = refl

pub kept_full : (P : Rule) (n : ℕ) (h : History) (p k : ℕ) → (kept P n h p k).full ≡ latest_full P n h p k
unfolding kept
kept_full P n h p k = refl

pub kept-length : (P : Rule) (n : ℕ) (h : History) (p k : ℕ) → length (kept P n h p k).entries ≡ size (cover_at P n h p k)
unfolding kept
kept-length P n h p k = length-map (members (cover_at P n h p k)) (vec h p k)

-- the entry for a covered post is the vector's
pub kept_entry : (P : Rule) (n : ℕ) (h : History) (p k q : ℕ) → q < 64 → has (cover_at P n h p k) q ≡ true → entry_of (kept P n h p k) q ≡ vec h p k q
unfolding kept
kept_entry P n h p k q l t =
    let c = cover_at P n h p k in
    get_or-map (vec h p k) (members c) (length (below q c)) 0 0 (rank_below q 64 c l t) ∙ ap (vec h p k) (get_or_rank q 64 c 0 l t)

-- ---- what later records leave as it is

pub kind_at_old : (n : ℕ) (r : Bytes) (h : History) → ground n h r ≡ 0 → (p k : ℕ) → k ≤ count h p → kind_at (r ∷ h) p k ≡ kind_at h p k
unfolding kind_at
kind_at_old n r h g p k held = let next = (passed n h r g).next in grind (arith, nat_tests)

pub kind_at_new : (n : ℕ) (r : Bytes) (h : History) → ground n h r ≡ 0 → kind_at (r ∷ h) (post r) (suc (count h (post r))) ≡ kind r
unfolding kind_at
kind_at_new n r h g = let next = (passed n h r g).next in grind (arith, nat_tests)

-- a receive names an event that is held
names_held : (n : ℕ) (h : History) (r : Bytes) → ground n h r ≡ 0 → (p k : ℕ) → count h p < k → (receives r && (eqb (partner_post r) p && eqb (partner_number r) k)) ≡ false
names_held n h r g p k past = let pair = (passed n h r g).pair in grind (arith, nat_tests)

-- what is not held has not been received, and not by the next record either
pub received_past : {n : ℕ} {h : History} → Valid n h → (p k : ℕ) → count h p < k → received h p k ≡ false
unfolding received
received_past start p k past = refl
received_past {n} (taken {r = r} {h = h} v g) p k past =
    let before : count h p < k = omega (arith, count_grows r h p) in
    or_from _ _ (names_held n h r g p k before) (received_past v p k before)

pub received_new : (n : ℕ) (r : Bytes) (h : History) → Valid n h → ground n h r ≡ 0 → received (r ∷ h) (post r) (suc (count h (post r))) ≡ false
unfolding received
received_new n r h v g =
    let past : count h (post r) < suc (count h (post r)) = omega arith in
    or_from _ _ (names_held n h r g (post r) (suc (count h (post r))) past) (received_past v (post r) (suc (count h (post r))) past)

stamp_same : {kind kind' : Kind} {marked marked' : Bool} {cover cover' full full' : ℕ} {entries entries' : List ℕ}
    → kind ≡ kind' → marked ≡ marked' → cover ≡ cover' → full ≡ full' → entries ≡ entries'
    → ◌≡◌ {A = Stamp} (record { kind = kind; marked = marked; cover = cover; full = full; entries = entries })
    (record { kind = kind'; marked = marked'; cover = cover'; full = full'; entries = entries' })
stamp_same a b c d e = λ i. record { kind = a i; marked = b i; cover = c i; full = d i; entries = e i }

-- a stamp with another mark
abbrev pub marked_as : Bool → Stamp → Stamp
marked_as m s = record { kind = s.kind; marked = m; cover = s.cover; full = s.full; entries = s.entries }

-- A later record changes nothing of a kept stamp but its mark.
pub kept_old : (P : Rule) (n : ℕ) (r : Bytes) (h : History) → ground n h r ≡ 0 → (p k : ℕ) → k ≤ count h p → kept P n (r ∷ h) p k ≡ marked_as (received (r ∷ h) p k) (kept P n h p k)
unfolding kept
kept_old P n r h g p k held =
    let c = cover_at_old P n r h p k held in
    let entries : vec (r ∷ h) p k ≡ vec h p k = fun_ext (λ q. vec_old r h p k q held) in
    stamp_same (ap kind_named (kind_at_old n r h g p k held)) refl c (latest_full_old P n r h p k held) (λ i. map (entries i) (members (c i)))

-- whether a record is a receive that names event k of post p
abbrev pub Names : Bytes → ℕ → ℕ → Type 0
Names r p k = (kind r ≡ 2) × ((partner_post r ≡ p) × (partner_number r ≡ k))

pub received_named : (r : Bytes) (h : History) (p k : ℕ) → Names r p k → received (r ∷ h) p k ≡ true
unfolding received
received_named r h p k names = grind (arith, nat_tests)

pub received_other : (r : Bytes) (h : History) (p k : ℕ) → (Names r p k → ⊥) → received (r ∷ h) p k ≡ received h p k
unfolding received
received_other r h p k none = grind (arith, nat_tests)

-- So a receive marks the stamp of the event that it names, and no other stamp changes.
pub kept_marked : (P : Rule) (n : ℕ) (r : Bytes) (h : History) → ground n h r ≡ 0 → (p k : ℕ) → k ≤ count h p → Names r p k → kept P n (r ∷ h) p k ≡ with_mark (kept P n h p k)
kept_marked P n r h g p k held names = kept_old P n r h g p k held ∙ ap (λ (m : Bool). marked_as m (kept P n h p k)) (received_named r h p k names)

pub kept_same : (P : Rule) (n : ℕ) (r : Bytes) (h : History) → ground n h r ≡ 0 → (p k : ℕ) → k ≤ count h p → (Names r p k → ⊥) → kept P n (r ∷ h) p k ≡ kept P n h p k
unfolding kept
kept_same P n r h g p k held none = kept_old P n r h g p k held ∙ ap (λ (m : Bool). marked_as m (kept P n h p k)) (received_other r h p k none)

-- The stamp of the newest event, not yet marked.
pub kept_new : (P : Rule) (n : ℕ) (r : Bytes) (h : History) → Valid n h → ground n h r ≡ 0
    → kept P n (r ∷ h) (post r) (suc (count h (post r)))
    ≡ record {
      kind = kind_named (kind r);
      marked = false;
      cover = cover P n h r;
      full = latest_full P n (r ∷ h) (post r) (suc (count h (post r)));
      entries = map (vec (r ∷ h) (post r) (suc (count h (post r)))) (members (cover P n h r));
    }
unfolding kept
kept_new P n r h v g =
    let c = cover_at_new P n r h in
    stamp_same (ap kind_named (kind_at_new n r h g)) (received_new n r h v g) c refl (ap (λ (b : ℕ). map (vec (r ∷ h) (post r) (suc (count h (post r)))) (members b)) c)

-- ---- the largest

largest-append : (xs ys : List ℕ) → largest (xs ++ ys) ≡ max (largest xs) (largest ys)
largest-append [] ys = omega arith
largest-append (x ∷ xs) ys = omega (arith, largest-append xs ys)

-- of what a function has at the members below n
largest_with : (f : ℕ → ℕ) (n b : ℕ) → has b n ≡ true → largest (map f (below (suc n) b)) ≡ max (largest (map f (below n b))) (f n)
largest_with f n b t = ap (λ (xs : List ℕ). largest (map f xs)) (below_with n b t) ∙ ap largest (map-append f (below n b) (n ∷ [])) ∙ largest-append (map f (below n b)) (f n ∷ []) ∙ omega arith

largest_without : (f : ℕ → ℕ) (n b : ℕ) → has b n ≡ false → largest (map f (below (suc n) b)) ≡ largest (map f (below n b))
largest_without f n b t = ap (λ (xs : List ℕ). largest (map f xs)) (below_without n b t)

pub largest_most : (f : ℕ → ℕ) (n b most : ℕ) → ((x : ℕ) → x < n → has b x ≡ true → f x ≤ most) → largest (map f (below n b)) ≤ most
largest_most f zero b most each = omega (arith, ap (λ (xs : List ℕ). largest (map f xs)) (below_zero b))
largest_most f (suc n) b most each =
    let r = largest_most f n b most (λ x l t. each x (omega arith) t) in
    let with' = largest_with f n b in
    let without = largest_without f n b in
    let here = each n (omega arith) in
    grind (arith, nat_tests)

pub largest_least : (f : ℕ → ℕ) (n b x : ℕ) → x < n → has b x ≡ true → f x ≤ largest (map f (below n b))
largest_least f zero b x l t = absurd (omega arith)
largest_least f (suc n) b x l t =
    let r = λ (k : x < n). largest_least f n b x k t in
    let with' = largest_with f n b in
    let without = largest_without f n b in
    grind (arith, nat_tests)

-- ---- every entry comes back

module _ (P : Rule) (n : ℕ) (h : History) (most : n ≤ 64) (v : Valid n h) (q : ℕ) (inside : q < n) where
  -- a full event's stamp has the entry for every post
  pub full_entry : (x f : ℕ) → cover_at P n h x f ≡ all n → entry_of (kept P n h x f) q ≡ vec h x f q
  full_entry x f full = kept_entry P n h x f q (omega arith) (ap (λ (c : ℕ). has c q) full ∙ has_each n q inside)

  told_latest : (x m : ℕ) → m ≤ count h x → 0 < latest_full P n h x m → told (kept P n h) x m q ≡ vec h x (latest_full P n h x m) q
  told_latest x m held some =
      let e = kept_full P n h x m in
      let most = latest_full_most P n h x m held in
      let entry = full_entry x (latest_full P n h x m) (latest_full_covers P n h x m held some) in
      grind (arith, nat_tests)

  -- a later event of a post knows what an earlier one knows
  post_below : (x f m : ℕ) → m ≤ count h x → f ≤ m → vec h x f q ≤ vec h x m q
  post_below x f m held less = vec_closed v x m x f q held (omega (arith, vec_self h x m held))

  -- what is told is known at the event up to which it is told, and is no less than what any full event up to it knows
  told_most : (x m : ℕ) → m ≤ count h x → told (kept P n h) x m q ≤ vec h x m q
  told_most x m held =
      let e = kept_full P n h x m in
      let latest = told_latest x m held in
      let before = post_below x (latest_full P n h x m) m held (latest_full_most P n h x m held) in
      grind (arith, nat_tests)

  told_least : (x m f : ℕ) → m ≤ count h x → 0 < f → f ≤ m → cover_at P n h x f ≡ all n → vec h x f q ≤ told (kept P n h) x m q
  told_least x m f held some less full =
      let last = latest_full_last P n h x m f held some less full in
      let l = latest_full P n h x m in
      omega (arith, told_latest x m held (omega arith), post_below x f l (omega (arith, latest_full_most P n h x m held)) last)

  pub comes_back_covered : (p k : ℕ) → has (cover_at P n h p k) q ≡ true → vec h p k q ≡ recovered (kept P n h) p k q
  comes_back_covered p k t = sym (when _ _ _ (ap (λ (c : ℕ). has c q) (kept-cover P n h p k) ∙ t) ∙ kept_entry P n h p k q (omega arith) t)

  pub comes_back_told : (p k : ℕ) → k ≤ count h p → has (cover_at P n h p k) q ≡ false → vec h p k q ≡ recovered (kept P n h) p k q
  comes_back_told p k held f =
      let up : largest (map tells (members c)) ≤ vec h p k q = largest_most tells 64 c (vec h p k q) each in
      let down : vec h p k q ≤ largest (map tells (members c)) = elim (source P v p k q held f) [ inl z ↦ omega arith | inr src ↦ reached src ] in
      sym (unless _ _ _ (ap (λ (b : ℕ). has b q) (kept-cover P n h p k) ∙ f) ∙ ap (λ (b : ℕ). largest (map tells (members b))) (kept-cover P n h p k) ∙ omega arith)
    where
      c : ℕ
      c = cover_at P n h p k

      tells : ℕ → ℕ
      tells x = told (kept P n h) x (entry_of (kept P n h p k) x) q

      tells_at : (x : ℕ) → x < 64 → has c x ≡ true → tells x ≡ told (kept P n h) x (vec h p k x) q
      tells_at x l t = ap (λ (m : ℕ). told (kept P n h) x m q) (kept_entry P n h p k x l t)

      each : (x : ℕ) → x < 64 → has c x ≡ true → tells x ≤ vec h p k q
      each x l t =
          let m = vec h p k x in
          omega (arith, tells_at x l t, told_most x m (vec-count v p k x held), vec_closed v p k x m q held (omega arith))

      reached : Source P n h p k q → vec h p k q ≤ largest (map tells (members c))
      reached src =
          let x = src.teller in
          let m = vec h p k x in
          let l : x < 64 = omega (arith, cover_at_posts P v p k x held src.covered) in
          omega (
            arith,
            tells_at x l src.covered,
            largest_least tells 64 c x l src.covered,
            src.value,
            told_least x m src.at_event (vec-count v p k x held) src.some src.known src.full,
          )

pub comes_back : ComesBack
comes_back P n h most v p k q here some held inside = elim (cases_Bool (has (cover_at P n h p k) q)) [
  | inl t ↦ comes_back_covered P n h most v q inside p k t
  | inr f ↦ comes_back_told P n h most v q inside p k held f
]
