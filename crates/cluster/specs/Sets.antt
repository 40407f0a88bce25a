-- The sets of a table, as their bits.
use Rattle.std.specs.Prelude.{ℕ, List, slice_index_or}
use Rattle.order.specs.declared.posts.PostSet.{PostSet}

-- the bits of the set at place p
abbrev pub bits_at : List PostSet → ℕ → ℕ
bits_at sets p = (slice_index_or sets p (record { bits = 0 })).bits
