-- What a mark leaves.
use Rattle.std.proofs.Common.{◌≡◌, ℕ, ◌-◌, ◌<◌, List, map, length, get_or, set, Ok, sym, refl, ap, ◌∙◌, subst, inl, inr, arith, All}
use Rattle.std.proofs.lemmas.List.{ext_get_or, length-map, length-set, get_or-set_other}
use Rattle.std.proofs.lemmas.Bool.{cases_eq}
use Rattle.std.proofs.lemmas.Grind.{common_steps}
use Rattle.std.proofs.lemmas.Bool.Decides.{nat_tests}
use Rattle.order.specs.declared.event.Event.{Event}
use Rattle.keeper.specs.Moves.{Marks}
use Rattle.keeper.specs.Piles.{Stamp, no_stamp, stamp_of, with_mark}
use Rattle.pool.specs.Layout.{post_at, stamp_at, with_mark_at}
use Rattle.pool.specs.Room.{Found}
use Rattle.pool.specs.Stack.{start, places, places_of, total, pile, Sound}
use Rattle.pool.specs.declared.Index.{Index}
use Rattle.pool.proofs.Cells.{past_more, stamp_alike, stamp_marked}
use Rattle.pool.proofs.Stacks.{start_past, Starts, place_starts, places_ascend, Keeps, places_keep, marked_keeps, laid_keeps, map_same}

-- the place that is found starts a stamp
pub found_starts : {ix : Index} {cells : List ℕ} {e : Event} {place : ℕ} → Found ix cells e place → Starts cells e.post (total ix) place
found_starts {ix} {cells} {e} f =
    subst (λ (a : ℕ). Starts cells e.post (total ix) a) (sym f.is) (place_starts cells e.post (total ix) (e.number - 1) 0 (omega (arith, f.some, f.within)))

pub found_inside : {ix : Index} {cells : List ℕ} {e : Event} {place : ℕ} → Sound ix cells → Found ix cells e place → place < length cells
found_inside {ix} {cells} s f =
    let t = found_starts f in
    omega (arith, t.is, start_past cells t.after (total ix) t.before, past_more cells (start cells t.after), s.laid.ends, s.within)

-- no other stamp has the marked cell
elsewhere
    : (xs : List ℕ) (i j : ℕ) → (start xs i ≡ start xs j → ⊥) → stamp_at (with_mark_at xs (start xs j)) (start xs i) ≡ stamp_at xs (start xs i)
elsewhere xs i j ne =
    stamp_alike (with_mark_at xs (start xs j)) xs (start xs i) (length-set xs (start xs j) _)
    (λ k a b. get_or-set_other xs (start xs j) k _ 0
    (λ e. grind (arith, ne, start_past xs i j, start_past xs j i, past_more xs (start xs j))))

-- the stamp that is found, marked
pub mark_done
    : {ix : Index} {xs : List ℕ} {e : Event} {place : ℕ} → Sound ix xs → Found ix xs e place
    → Sound ix (with_mark_at xs place) × Marks (pile ix xs) (pile ix (with_mark_at xs place)) e (Ok tt)
mark_done {ix} {xs} {e} {place} s f = (
  record { few_posts = s.few_posts; slots = s.slots; few = s.few; within = omega (arith, keeps.long, s.within); laid = laid_keeps s.laid keeps },
  record {
    answer = grind (arith, nat_tests, f.known, f.some, f.within, length-map (places_of ix xs e.post) (stamp_at xs));
    leaves =
        record {
          same_posts = refl;
          own = ap (map (stamp_at ys)) (places_keep e.post keeps) ∙ own;
          others = λ p ne. ap (map (stamp_at ys)) (places_keep p keeps) ∙ other p ne;
          same_space = λ _. ap (λ (m : ℕ). m - ix.used) keeps.long;
        };
  },
)
  where
    n : ℕ
    n = total ix

    ys : List ℕ
    ys = with_mark_at xs place

    t : Starts xs e.post n place
    t = found_starts f

    keeps : Keeps ys xs n
    keeps = subst (λ (a : ℕ). Keeps (with_mark_at xs a) xs n) (sym t.is) (marked_keeps xs n t.after t.before (omega (arith, s.laid.ends, s.within)))

    -- a stamp at another place
    apart : (p : ℕ) → All (λ a. (a ≡ place → ⊥) → stamp_at ys a ≡ stamp_at xs a) (places xs p n)
    apart p k d h ne = let u = place_starts xs p n k d h in rw (u.is, t.is) (elsewhere xs u.after t.after (λ z. ne (u.is ∙ z ∙ sym t.is)))

    other : (p : ℕ) → (p ≡ e.post → ⊥) → map (stamp_at ys) (places xs p n) ≡ map (stamp_at xs) (places xs p n)
    other p ne =
        map_same (stamp_at ys) (stamp_at xs) (places xs p n)
        (λ k d h. apart p k d h (λ z. ne (sym (place_starts xs p n k d h).posted ∙ ap (post_at xs) z ∙ t.posted)))

    zs : List ℕ
    zs = places xs e.post n

    at : ℕ
    at = e.number - 1

    inside : at < length zs
    inside = omega (arith, f.some, f.within)

    distinct : (k : ℕ) → k < length zs → (k ≡ at → ⊥) → get_or zs k 0 ≡ place → ⊥
    distinct k h ne z =
        grind (arith, f.is, places_ascend xs e.post n k at 0, places_ascend xs e.post n at k 0, past_more xs (get_or zs k 0), past_more xs (get_or zs at 0))

    marked : Stamp
    marked = with_mark (stamp_of (pile ix xs) e.post e.number)

    hit : stamp_at ys (get_or zs at 0) ≡ marked
    hit = rw (← f.is) (stamp_marked xs place (found_inside s f) ∙ ap with_mark (sym f.stamp))

    own : map (stamp_at ys) zs ≡ set (map (stamp_at xs) zs) at marked
    own =
        ext_get_or no_stamp (map (stamp_at ys) zs) (set (map (stamp_at xs) zs) at marked) (simp (length-map, length-set))
        (λ k h.
        let inside : k < length zs = omega (arith, length-map zs (stamp_at ys)) in
        elim (cases_eq k at) [ inl w ↦ rw w (grind (arith, common_steps, hit)) | inr ne ↦ grind (arith, common_steps, apart e.post k 0 inside (distinct k inside ne)) ])
