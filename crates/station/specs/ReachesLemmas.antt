-- Two joined readings say of the larger entries what each says of its own.
use Rattle.std.specs.Prelude.{◌≡◌, ℕ, max, ◌&&◌, ◌||◌, bit_or, nat_lt}
use Rattle.std.proofs.Common.{◌∙◌, ap₂, arith}
use Rattle.std.proofs.lemmas.Bool.Decides.{nat_tests}
use Rattle.join.specs.Joins.{larger_vector, union_set}
use Rattle.join.specs.JoinsLemmas.{entry_joined}
use Rattle.join.specs.declared.vector.Vector.{Vector}
use Rattle.order.proofs.PostSets.{has_union}
use Rattle.order.specs.Posts.{has}
use Rattle.order.specs.declared.posts.PostSet.{PostSet}
use Rattle.station.specs.Reaches.{HasEntries, HasPosts}

pub entries_joined : (v w : Vector) (f g : ℕ → ℕ) → HasEntries v f → HasEntries w g → HasEntries (larger_vector v w) (λ q. max (f q) (g q))
entries_joined v w f g a b q = entry_joined v w q ∙ ap₂ max (a q) (b q)

either : (a b q x y : ℕ) → has a q ≡ (nat_lt q 64 && nat_lt 0 x) → has b q ≡ (nat_lt q 64 && nat_lt 0 y) → has (bit_or a b) q ≡ (has a q || has b q)
    → has (bit_or a b) q ≡ (nat_lt q 64 && nat_lt 0 (max x y))
either a b q x y l r u = grind (arith, nat_tests)

pub posts_joined : (s t : PostSet) (f g : ℕ → ℕ) → HasPosts s f → HasPosts t g → HasPosts (union_set s t) (λ q. max (f q) (g q))
posts_joined s t f g a b q = either s.bits t.bits q (f q) (g q) (a q) (b q) (has_union s.bits t.bits q)
