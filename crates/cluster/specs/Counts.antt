-- The exchanges between posts: as a history has them, and as a table tells them.
use Rattle.std.specs.Prelude.{◌≡◌, ℕ, zero, suc, ◌+◌, ◌-◌, ◌^◌, min, Bool, ◌&&◌, ◌||◌, [], ◌∷◌, ◌==◌, nat_lt, slice_index, slice_index_or, if◌then◌else◌}
use Rattle.order.specs.History.{History}
use Rattle.order.specs.Posts.{has}
use Rattle.order.specs.Records.{Bytes, post, partner_post, receives}
use Rattle.cluster.specs.declared.exchanges.Exchanges.{Exchanges}

-- whether a record is a receive of post p from post q
abbrev pub arrives : Bytes → ℕ → ℕ → Bool
arrives r p q = receives r && (post r == p && partner_post r == q)

-- how many receives of post p are from post q
unfoldable pub arrivals : History → ℕ → ℕ → ℕ
arrivals [] p q = 0
arrivals (r ∷ h) p q = if arrives r p q then suc (arrivals h p q) else arrivals h p q

-- a table's count for receiver p and sender q; it has one for each pair of 64 posts
abbrev pub told : Exchanges → ℕ → ℕ → ℕ
told table p q = if nat_lt p 64 && nat_lt q 64 then slice_index (slice_index_or table.counts p []) q else 0

-- a number as a count holds it
abbrev pub capped : ℕ → ℕ
capped n = min n (2 ^ 32 - 1)

-- the table counts exactly the receives of the history
abbrev pub Tells : Exchanges → History → Type 0
Tells table h = (p q : ℕ) → told table p q ≡ arrivals h p q

-- counts with one more receive of post p from post q
abbrev pub noted : (ℕ → ℕ → ℕ) → ℕ → ℕ → ℕ → ℕ → ℕ
noted counts receiver sender p q =
    if p == receiver && q == sender then (if nat_lt p 64 && nat_lt q 64 then capped (suc (counts p q)) else 0) else counts p q

-- posts p and q stand one in each of two sets
abbrev pub linked : ℕ → ℕ → ℕ → ℕ → Bool
linked a b p q = (has a p && has b q) || (has b p && has a q)

unfoldable pub sum_below : ℕ → (ℕ → ℕ) → ℕ
sum_below zero f = 0
sum_below (suc n) f = sum_below n f + f n

-- the count of a linked pair
abbrev pub linked_count : (ℕ → ℕ → ℕ) → ℕ → ℕ → ℕ → ℕ → ℕ
linked_count counts a b p q = if linked a b p q then counts p q else 0

-- the counts of receiver p over the senders that are linked with it
unfoldable pub row_sum : (ℕ → ℕ → ℕ) → ℕ → ℕ → ℕ → ℕ
row_sum counts a b p = sum_below 64 (linked_count counts a b p)

-- the counts over all linked pairs
unfoldable pub pair_sum : (ℕ → ℕ → ℕ) → ℕ → ℕ → ℕ
pair_sum counts a b = sum_below 64 (row_sum counts a b)
