-- The theorems on clusters and kept stamps, for every policy and every history that a station can have.
use Rattle.std.specs.Prelude.{◌≡◌, ℕ, ◌^◌, ◌<◌, ◌≤◌, true, cond, ◌&&◌, [], ◌∷◌, nat_le}
use Rattle.order.specs.History.{History, Valid, count}
use Rattle.order.specs.Posts.{has, size}
use Rattle.order.specs.Records.{Bytes, post, partner_post, receives}
use Rattle.order.specs.Vectors.{vec}
use Rattle.cluster.specs.Clusters.{cluster, exchanges, outcome}
use Rattle.cluster.specs.Kept.{kept, recovered}
use Rattle.cluster.specs.Rules.{Rule, fit, busy}
use Rattle.cluster.specs.declared.outcome.Outcome.TheVariants.{Merged, Across}

-- Each post lies in its own cluster, a cluster has only posts of the kiln, and every member of a cluster has it for
-- its own: so each post lies in exactly one.
pub record Parted (n : ℕ) (clusters : ℕ → ℕ) : Type 0 where
  pub own : (p : ℕ) → p < n → has (clusters p) p ≡ true
  pub inside : (p q : ℕ) → p < n → has (clusters p) q ≡ true → q < n
  pub shared : (p q : ℕ) → p < n → has (clusters p) q ≡ true → clusters q ≡ clusters p

abbrev pub ClustersPart : Type 0
ClustersPart = (P : Rule) (n : ℕ) (h : History) → n ≤ 64 → Valid n h → Parted n (cluster P h)

-- No cluster has more posts than the limit.
abbrev pub LimitKept : Type 0
LimitKept = (P : Rule) (n : ℕ) (h : History) → n ≤ 64 → Valid n h → (p : ℕ) → p < n → size (cluster P h p) ≤ P.limit

-- Two posts once in one cluster share one after the next record, and so in every longer history.
abbrev pub TogetherStays : Type 0
TogetherStays =
    (P : Rule) (n : ℕ) (h : History) (r : Bytes) → n ≤ 64 → Valid n (r ∷ h)
    → (p q : ℕ) → p < n → has (cluster P h p) q ≡ true → has (cluster P (r ∷ h) p) q ≡ true

-- Every entry comes back from kept stamps.
abbrev pub ComesBack : Type 0
ComesBack =
    (P : Rule) (n : ℕ) (h : History) → n ≤ 64 → Valid n h
    → (p k q : ℕ) → p < n → 0 < k → k ≤ count h p → q < n → vec h p k q ≡ recovered (kept P n h) p k q

-- a policy by traffic that asks for T exchanges for each post
abbrev pub ByTraffic : ℕ → Rule → Type 0
ByTraffic T P = (a b exchanges : ℕ) → P.says a b exchanges ≡ (fit P.limit a b && busy T a b exchanges)

-- post 0 sends its event k, and post 1 receives it as its own event k
abbrev pub nth_send : ℕ → Bytes
nth_send k = 0 ∷ 1 ∷ 0 ∷ k ∷ 0 ∷ 0 ∷ 0 ∷ 0 ∷ []

abbrev pub nth_receive : ℕ → Bytes
nth_receive k = 1 ∷ 2 ∷ 0 ∷ k ∷ 0 ∷ 0 ∷ 0 ∷ k ∷ []

-- With one exchange asked for each post, two posts that are each alone merge at their third exchange: the receive
-- itself is not yet counted when the policy is asked.
pub record ThirdExchange : Type 0 where
  pub alone :
      (P : Rule) (n : ℕ) (h : History) (r : Bytes) → ByTraffic 1 P → 2 ≤ P.limit → n ≤ 64 → Valid n (r ∷ h) → receives r ≡ true
      → cluster P h (post r) ≡ 2 ^ post r → cluster P h (partner_post r) ≡ 2 ^ partner_post r
      → outcome P h r ≡ cond (nat_le 2 (exchanges h (2 ^ post r) (2 ^ partner_post r))) Merged Across
  pub valid : Valid 2 (nth_receive 3 ∷ nth_send 3 ∷ nth_receive 2 ∷ nth_send 2 ∷ nth_receive 1 ∷ nth_send 1 ∷ [])
  pub first : (P : Rule) → ByTraffic 1 P → 2 ≤ P.limit → outcome P (nth_send 1 ∷ []) (nth_receive 1) ≡ Across
  pub second : (P : Rule) → ByTraffic 1 P → 2 ≤ P.limit → outcome P (nth_send 2 ∷ nth_receive 1 ∷ nth_send 1 ∷ []) (nth_receive 2) ≡ Across
  pub third : (P : Rule) → ByTraffic 1 P → 2 ≤ P.limit → outcome P (nth_send 3 ∷ nth_receive 2 ∷ nth_send 2 ∷ nth_receive 1 ∷ nth_send 1 ∷ []) (nth_receive 3) ≡ Merged
