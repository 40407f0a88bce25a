-- What is known of a stamp that goes in, and of a count that is answered.
use Rattle.std.proofs.Common.{◌≡◌, ℕ, ◌<◌, ◌≤◌, Ok, arith}
use Rattle.keeper.specs.Answers.{admission, of_post}
use Rattle.order.proofs.PostSets.{length_below_le}
use Rattle.order.specs.Posts.{size}
use Rattle.std.proofs.lemmas.Bool.Decides.{nat_tests}

pub record Admitted (posts count p cover n : ℕ) : Type 0 where
  pub known : p < posts
  pub sized : size cover ≡ n
  pub few : n ≤ 64
  pub more : count < 65535

pub admitted : (posts count space p cover n : ℕ) → Ok tt ≡ admission posts count space p cover n → Admitted posts count p cover n
admitted posts count space p cover n e = let h = length_below_le 64 cover in record { known = grind (arith, nat_tests); sized = grind (arith, nat_tests); few = grind (arith, nat_tests); more = grind (arith, nat_tests) }

pub answered : (posts p n count : ℕ) → Ok n ≡ of_post posts p count → n ≡ count
answered posts p n count e = grind (arith, nat_tests)
