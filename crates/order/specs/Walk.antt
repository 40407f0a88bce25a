-- A walk over the members of a set, ascending.
use Rattle.std.specs.Prelude.{◌≡◌, ℕ, ◌<◌, true, List, [], ◌∷◌, Option, MatchOption}
use Rattle.order.specs.declared.posts.Members.{Members}
use Rattle.order.specs.Posts.{has, from}

-- the members that are still to come
abbrev pub rest : Members → List ℕ
rest s = from s.next s.set.bits

-- p comes next at s, and leaves t: the least member that is left, so none is passed over
pub record Next (s : Members) (p : ℕ) (t : Members) : Type 0 where
  pub least : rest s ≡ p ∷ rest t
  pub bound : p < 64
  pub member : has s.set.bits p ≡ true
  pub same : t.set ≡ s.set

-- None comes only where no member is left
abbrev pub Steps : Members → Option ℕ → Members → Type 0
Steps s r t = MatchOption r (rest s ≡ []) (λ p. Next s p t)
