-- What is read of a full vector, and says of its entries.
use Rattle.std.specs.Prelude.{◌≡◌, ℕ, ◌&&◌, nat_lt}
use Rattle.join.specs.declared.vector.Vector.{Vector}
use Rattle.order.specs.Posts.{has}
use Rattle.order.specs.declared.posts.PostSet.{PostSet}
use Rattle.station.specs.Drafts.{at}

-- a vector has these entries
abbrev pub HasEntries : Vector → (ℕ → ℕ) → Type 0
HasEntries v f = (q : ℕ) → at v q ≡ f q

-- a set has the posts whose entry is above 0
abbrev pub HasPosts : PostSet → (ℕ → ℕ) → Type 0
HasPosts s f = (q : ℕ) → has s.bits q ≡ (nat_lt q 64 && nat_lt 0 (f q))
