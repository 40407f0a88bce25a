-- A partition's clusters, and clusters after a merge.
use Rattle.std.specs.Prelude.{ℕ, ◌^◌, cond, bit_or, nat_lt}
use Rattle.order.specs.Posts.{has}
use Rattle.cluster.specs.Sets.{bits_at}
use Rattle.cluster.specs.declared.partition.Partition.{Partition}

-- the cluster of each post, as the bits of a set: of an unknown post the empty set
abbrev pub clusters : Partition → ℕ → ℕ
clusters s q = cond (nat_lt q s.posts) (bits_at s.sets q) 0

-- n posts, each alone
abbrev pub singles : ℕ → ℕ → ℕ
singles n q = cond (nat_lt q n) (2 ^ q) 0

-- clusters in which those of a and b are one
abbrev pub joined : (ℕ → ℕ) → ℕ → ℕ → ℕ → ℕ
joined clusters a b q = let both = bit_or (clusters a) (clusters b) in cond (has both q) both (clusters q)
