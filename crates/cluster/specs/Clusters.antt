-- Clusters over a history: at first one post each, and changed only by merges of two.
use Rattle.std.specs.Prelude.{ℕ, suc, ◌-◌, ◌^◌, Bool, true, false, cond, ◌&&◌, ◌||◌, [], ◌∷◌, ◌==◌, bit_or}
use Rattle.order.specs.History.{History, count}
use Rattle.order.specs.Posts.{has, size}
use Rattle.order.specs.Records.{Bytes, post, partner_post, receives}
use Rattle.order.specs.Vectors.{is_new}
use Rattle.cluster.specs.Rules.{Rule}
use Rattle.cluster.specs.declared.outcome.Outcome.{Outcome}
use Rattle.cluster.specs.declared.outcome.Outcome.TheVariants.{Plain, Merged, Across}

-- all of n posts
abbrev pub all : ℕ → ℕ
all n = 2 ^ n - 1

-- a receive with its post in one of two clusters and its partner's post in the other
abbrev pub crosses : ℕ → ℕ → Bytes → Bool
crosses a b r = receives r && ((has a (post r) && has b (partner_post r)) || (has b (post r) && has a (partner_post r)))

-- how many receives of a history were exchanges between two clusters
unfoldable pub exchanges : History → ℕ → ℕ → ℕ
exchanges [] a b = 0
exchanges (r ∷ h) a b = cond (crosses a b r) (suc (exchanges h a b)) (exchanges h a b)

-- The cluster rule, by the clusters before the record: a receive from another cluster asks the policy, with the
-- receiver's cluster first.
abbrev pub decide : Rule → (ℕ → ℕ) → History → Bytes → Outcome
decide P cluster h r =
    elim (receives r) [
      | true ↦
          let a = cluster (post r) in
          let b = cluster (partner_post r) in
          elim (has a (partner_post r)) [
            | true ↦ Plain
            | false ↦ elim (P.says (size a) (size b) (exchanges h a b)) [ true ↦ Merged | false ↦ Across ]
          ]
      | false ↦ Plain
    ]

-- the two clusters of a receive, merged
abbrev pub merged : (ℕ → ℕ) → Bytes → ℕ
merged cluster r = bit_or (cluster (post r)) (cluster (partner_post r))

-- the cluster of post p, as the bits of a set
unfoldable pub cluster : Rule → History → ℕ → ℕ
cluster P [] p = 2 ^ p
cluster P (r ∷ h) p =
    elim (decide P (cluster P h) h r) [
      | Plain ↦ cluster P h p
      | Merged ↦ let both = merged (cluster P h) r in elim (has both p) [ true ↦ both | false ↦ cluster P h p ]
      | Across ↦ cluster P h p
    ]

-- what the rule makes of a record that comes after h
abbrev pub outcome : Rule → History → Bytes → Outcome
outcome P h r = decide P (cluster P h) h r

-- the posts whose entries are kept of it
abbrev pub cover_by : ℕ → Outcome → (ℕ → ℕ) → Bytes → ℕ
cover_by n Plain cluster r = cluster (post r)
cover_by n Merged cluster r = merged cluster r
cover_by n Across cluster r = all n

abbrev pub cover : Rule → ℕ → History → Bytes → ℕ
cover P n h r = cover_by n (outcome P h r) (cluster P h) r

-- the cover of event k of post p
unfoldable pub cover_at : Rule → ℕ → History → ℕ → ℕ → ℕ
cover_at P n [] p k = 0
cover_at P n (r ∷ h) p k = elim (is_new r h p k) [ true ↦ cover P n h r | false ↦ cover_at P n h p k ]

-- the number of the latest full event of post p up to its event k, or 0; an event is full if its cover is all posts
unfoldable pub latest_full : Rule → ℕ → History → ℕ → ℕ → ℕ
latest_full P n [] p k = 0
latest_full P n (r ∷ h) p k =
    elim (is_new r h p k) [
      | true ↦ elim (cover P n h r == all n) [ true ↦ k | false ↦ latest_full P n h p (count h p) ]
      | false ↦ latest_full P n h p k
    ]
