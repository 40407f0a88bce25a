-- The comparison, from what holds of each station.
use Rattle.std.proofs.Common.{◌≡◌, ℕ, zero, suc, ◌<◌, ◌⊎◌, List, map, refl, inl, inr, arith}
use Rattle.std.proofs.lemmas.Bool.{cases_eq}
use Rattle.cluster.specs.Rules.{Rule}
use Rattle.keeper.specs.Piles.{Pile, held_count, fresh}
use Rattle.station.specs.Stands.{Unused}
use Rattle.runs.specs.Calls.{Call, Reply, barred}
use Rattle.runs.specs.Comparison.{RelateAlike, AlikeUntilSpace, Used, Each, OpenedAlike, Compared}
use Rattle.runs.proofs.Alike.{equal_turns, alike_self}
use Rattle.runs.proofs.Relates.{relate_alike, barred_left, barred_right}

used_below : (m : Pile) (n : ℕ) → ((p : ℕ) → p < n → held_count m p ≡ 0) ⊎ ((p : ℕ) × (p < n) × (0 < held_count m p))
used_below m zero = inl (λ p l. absurd (omega arith))
used_below m (suc n) = elim (used_below m n) [
  | inl none ↦ elim (cases_eq (held_count m n) 0) [
    | inl e ↦ inl (λ p l. elim (cases_eq p n) [ inl same ↦ rw same e | inr ne ↦ none p (omega arith) ])
    | inr ne ↦ inr (n, omega arith, omega arith)
  ]
  | inr u ↦ inr (u.0, omega (arith, u.1), u.2)
]

-- A pile is unused or used.
pub used_or_not : (m : Pile) → Unused m ⊎ Used m
used_or_not m = used_below m m.posts

pub related_alike : {P Q : Rule} {m n : Pile} {cs ds : List Call} {xs ys : List Reply} → Each P m cs xs → Each Q n ds ys → RelateAlike cs xs ds ys
related_alike {m = m} {n = n} {cs = cs} {ds = ds} {xs = xs} {ys = ys} a b = elim (used_or_not m) [
  | inl free ↦ elim (used_or_not n) [
    | inl clear ↦ relate_alike (a.unused free) (b.unused clear)
    | inr full ↦ rw (b.used full) (barred_right cs ds xs)
  ]
  | inr full ↦ rw (a.used full) (barred_left cs ds ys)
]

pub turns_alike : {P Q : Rule} {m n : Pile} {cs ds : List Call} {xs ys : List Reply} → Each P m cs xs → Each Q n ds ys → OpenedAlike P Q m n → cs ≡ ds → AlikeUntilSpace xs ys
turns_alike {ds = ds} a b o same = elim o.both [
  | inl free ↦ equal_turns (a.unused free.0) (rw (← o.same_posts, ← same) at (b.unused free.1)) o.same_rule
  | inr full ↦ rw (a.used full.0, b.used full.1, same) (alike_self (map barred ds))
]

-- both stations over piles as they are opened
pub fresh_compared : {P Q : Rule} {m n : Pile} {j k : ℕ} {s t : ℕ → ℕ} {cs ds : List Call} {xs ys : List Reply} → m ≡ fresh j s → n ≡ fresh k t → Each P m cs xs → Each Q n ds ys
    → Compared P Q (fresh j s) (fresh k t) cs ds xs ys
fresh_compared e f x y =
    let a = rw e at x in
    let b = rw f at y in
    record {
      relate = related_alike a b;
      equal_turns = λ rules posts same.
          turns_alike a b (record { same_rule = rules; same_posts = posts; both = inl (λ p l. refl, λ p l. refl) }) same;
      each = (a.unused (λ p l. refl), b.unused (λ p l. refl));
    }
