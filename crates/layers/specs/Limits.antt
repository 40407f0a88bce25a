-- What a quota makes of the keeper below.
use Rattle.std.specs.Prelude.{ℕ, min}
use Rattle.keeper.specs.Piles.{Pile}
use Rattle.layers.specs.declared.quota.Quota.{Quota}

-- The pile with an allowance that all posts share: no post has more space than is left of it.
abbrev pub limited : Pile → ℕ → Pile
limited m left = record { posts = m.posts; stamps = m.stamps; space = λ p. min (m.space p) left }

-- A quota's meaning, by that of the keeper below.
abbrev pub quota_meaning : {K : Type 0} → (K → Pile) → Quota K → Pile
quota_meaning meaning q = limited (meaning q.below) q.allowance.left

abbrev pub QuotaSound : {K : Type 0} → (K → Type 0) → Quota K → Type 0
QuotaSound sound q = sound q.below
