-- A keeper with no stamps, and the station over it.
use Rattle.std.proofs.Common.{◌≡◌, ℕ, ◌<◌, ◌≤◌, Bool, true, false, ltb, [], length, Result, sym, refl, ap, ◌∙◌, subst, zero-add, arith}
use Rattle.cluster.proofs.Clusters.{cluster_start}
use Rattle.cluster.specs.Partitions.{clusters, singles}
use Rattle.cluster.specs.Counts.{Tells}
use Rattle.cluster.specs.declared.policy.Policy.{Ghosts as OfPolicy}
use Rattle.keeper.specs.Answers.{ask_count}
use Rattle.keeper.specs.Piles.{Pile, held_count, opened}
use Rattle.keeper.specs.declared.fault.KeeperFault.{KeeperFault}
use Rattle.keeper.specs.declared.Keeper.{Ghosts as OfKeeper}
use Rattle.order.proofs.Held.{count_none}
use Rattle.order.specs.History.Valid.{start}
use Rattle.std.proofs.lemmas.Bool.{cond-true, lt-ltb, le-leb}
use Rattle.std.proofs.lemmas.Bool.Decides.{nat_tests}
use Rattle.std.proofs.lemmas.List.FromFn.{get_or-range_with_len, length-range_with_len}
use Rattle.std.specs.Bool.{MatchBool}
use Rattle.std.specs.List.{AllWithin, range_with_len}
use Rattle.std.specs.Result.{result_unwrap_or}
use Rattle.station.proofs.Standing.{stands_by}
use Rattle.station.specs.Stands.{Stands, Unused}
use Rattle.station.specs.declared.state.Station.{Station}

-- A post whose count is read as 0, or as more.

pub none_counted : (m : Pile) (p : ℕ) (r : Result ℕ KeeperFault) → r ≡ ask_count m p → ltb 0 (result_unwrap_or r 0) ≡ false → p < m.posts → held_count m p ≡ 0
none_counted m p r e none inside = let z : ltb 0 (held_count m p) ≡ false = rw (e, lt-ltb p m.posts inside) at none in grind (arith, nat_tests)

-- what holds of each number below n, where none of them answered true
pub none_below : (n : ℕ) (Yes : Type 0) (P : ℕ → Type 0) (r : Bool) → MatchBool r Yes (AllWithin P (range_with_len 0 n) 0 (length (range_with_len 0 n))) → r ≡ false → (p : ℕ) → p < n → P p
none_below n Yes P true all none p inside = absurd (cc)
none_below n Yes P false all none p inside =
    subst P (get_or-range_with_len 0 n p 0 inside ∙ zero-add p) (all p 0 (omega arith) (omega (arith, length-range_with_len 0 n)))

-- whether some post has a stamp, by what either answer shows
pub found_none : (m : Pile) (r : Bool) → (r ≡ true → (p : ℕ) × (p < m.posts) × (0 < held_count m p)) → Unused m → r ≡ false
found_none m true used unused = let some = used refl in absurd (omega (arith, some.2, unused some.0 some.1))
found_none m false used unused = refl

pub found_some : (m : Pile) (r : Bool) → (r ≡ false → Unused m) → (p : ℕ) → p < m.posts → 0 < held_count m p → r ≡ true
found_some m true free p inside some = refl
found_some m false free p inside some = absurd (omega (arith, free refl p inside))

-- The station.

pub stands_opened : {P K : Type 0} (policy : OfPolicy P) (keeper : OfKeeper K) (s : Station P K) (n : ℕ)
    → (keeper.meaning s.keeper).posts ≡ n → n ≤ 64 → s.barred ≡ false → keeper.sound s.keeper → Unused (keeper.meaning s.keeper) → Tells s.exchanges []
    → s.partition.posts ≡ opened n → ((q : ℕ) → clusters s.partition q ≡ singles (opened n) q)
    → Stands policy keeper s []
stands_opened policy keeper s n posts few bar keeps unused tells parts alone =
    let all : opened n ≡ n = cond-true _ _ _ (le-leb n 64 few) in
    stands_by policy keeper s [] (policy.rule s.policy) n refl posts bar keeps tells few start
    (record {
      counts = λ p inside. unused p (omega (arith, posts)) ∙ sym (count_none p);
      stamps = λ p k inside some most. absurd (omega (arith, count_none p));
    })
    (λ p inside. omega (arith, count_none p))
    (record {
      parts = parts ∙ all;
      grouped = λ p inside. alone p ∙ ap (λ (m : ℕ). singles m p) all ∙ cond-true _ _ _ (lt-ltb p n inside) ∙ sym (cluster_start (policy.rule s.policy) p);
    })
