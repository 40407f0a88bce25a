-- A pool with no stamps.
use Rattle.std.proofs.Common.{◌≡◌, ℕ, List, length, replicate, sym, refl, ap, arith}
use native.Mathlib.Nat.{sub-zero}
use Rattle.std.proofs.lemmas.List.{get_or_past, get_or-replicate}
use Rattle.std.proofs.lemmas.Grind.{common_steps}
use Rattle.std.proofs.lemmas.Bool.Decides.{nat_tests}
use Rattle.keeper.specs.Piles.{fresh, opened}
use Rattle.pool.specs.Stack.{none, latest_of, start, places, pile, Sound, empty_index}
use Rattle.pool.specs.declared.Latest.{Latest}

no_stamps : (p : ℕ) → latest_of (replicate 64 none) p ≡ none
no_stamps p = grind (arith, common_steps, get_or_past (replicate 64 none) p none, get_or-replicate 64 p none none)

pub empty_sound : (posts : ℕ) (cells : List ℕ) → Sound (empty_index (opened posts)) cells
unfolding start places
empty_sound posts cells =
    record {
      few_posts = grind (arith, nat_tests);
      slots = refl;
      few = λ p. omega (arith, count p);
      within = omega arith;
      laid = record { ends = refl; counted = λ p. sym (count p); newest = λ p. ap (λ (t : Latest). t.newest) (no_stamps p); linked = λ p k h. absurd (omega arith) };
    }
  where
    count : (p : ℕ) → ◌≡◌ {A = ℕ} (latest_of (replicate 64 none) p).count 0
    count p = ap (λ (t : Latest). t.count) (no_stamps p)

pub empty_pile : (posts : ℕ) (cells : List ℕ) → pile (empty_index posts) cells ≡ fresh posts (λ _. length cells)
unfolding places
empty_pile posts cells = ap (λ (n : ℕ). fresh posts (λ _. n)) (sub-zero (length cells))
