-- What a merge policy means.
use Rattle.std.specs.Prelude.{◌≡◌, ℕ, ◌+◌, ◌*◌, ◌≤◌, min, max, Bool, true, nat_le}

-- A limit on the size of a cluster, and a yes or no for two cluster sizes and the number of exchanges between the
-- two clusters. A yes keeps the limit.
pub record Rule : Type 0 where
  pub limit : ℕ
  pub says : ℕ → ℕ → ℕ → Bool
  pub least : 1 ≤ limit
  pub most : limit ≤ 64
  pub keeps : (a b exchanges : ℕ) → says a b exchanges ≡ true → a + b ≤ limit

-- two policies have the same meaning
pub record SameRule (P Q : Rule) : Type 0 where
  pub limit : P.limit ≡ Q.limit
  pub says : (a b exchanges : ℕ) → P.says a b exchanges ≡ Q.says a b exchanges

-- a limit as it counts: 0 counts as 1, and one above 64 as 64
abbrev pub clamped : ℕ → ℕ
clamped limit = max 1 (min limit 64)

-- first contact: yes whenever the sizes fit
abbrev pub fit : ℕ → ℕ → ℕ → Bool
fit limit a b = nat_le (a + b) limit

-- by traffic: besides, at least T exchanges for each post
abbrev pub busy : ℕ → ℕ → ℕ → ℕ → Bool
busy T a b exchanges = nat_le (T * (a + b)) exchanges
