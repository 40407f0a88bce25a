-- What the cells of a pool mean: stamps lie one after another from cell 0 on, and each carries its post.
use Rattle.std.specs.Prelude.{◌≡◌, ℕ, zero, suc, ◌-◌, ◌<◌, ◌≤◌, List, [], ◌++◌, map, length, replicate, sum_by, ◌==◌, slice_index, slice_index_or}
use Rattle.order.specs.Posts.{kept}
use Rattle.keeper.specs.Piles.{Pile}
use Rattle.pool.specs.Layout.{post_at, link_at, stamp_at, past}
use Rattle.pool.specs.declared.Index.{Index}
use Rattle.pool.specs.declared.Latest.{Latest}

-- What the index has of a post; of one past the last, nothing.
abbrev pub none : Latest
none = record { count = 0; newest = 0 }

abbrev pub latest_of : List Latest → ℕ → Latest
latest_of latest p = slice_index_or latest p none

-- the place of the stamp that was laid after n others
unfoldable pub start : List ℕ → ℕ → ℕ
start cells zero = 0
start cells (suc n) = past cells (start cells n)

-- of the first n stamps, the places of those of post p, the oldest first
unfoldable pub places : List ℕ → ℕ → ℕ → List ℕ
places cells p zero = []
places cells p (suc n) = places cells p n ++ kept (post_at cells (start cells n) == p) (start cells n)

-- the stamps laid in all
abbrev pub total : Index → ℕ
total ix = sum_by (λ l. l.count) ix.latest

abbrev pub places_of : Index → List ℕ → ℕ → List ℕ
places_of ix cells p = places cells p (total ix)

abbrev pub newest_of : List ℕ → ℕ
newest_of xs = slice_index xs (length xs - 1)

-- What a pool means. Every post may use all the cells that are left.
abbrev pub pile : Index → List ℕ → Pile
pile ix cells =
    record {
      posts = ix.posts;
      stamps = λ p. map (stamp_at cells) (places_of ix cells p);
      space = λ _. length cells - ix.used;
    }

-- That the first n stamps are told by these counts, newest places and used cells, and linked.
pub record Laid (cells : List ℕ) (latest : List Latest) (used n : ℕ) : Type 0 where
  pub ends : used ≡ start cells n
  pub counted : (p : ℕ) → length (places cells p n) ≡ (latest_of latest p).count
  pub newest : (p : ℕ) → (latest_of latest p).newest ≡ newest_of (places cells p n)
  pub linked : (p k : ℕ) → suc k < length (places cells p n) → link_at cells (slice_index (places cells p n) (suc k)) ≡ slice_index (places cells p n) k

-- That index and cells fit together.
pub record Sound (ix : Index) (cells : List ℕ) : Type 0 where
  pub few_posts : ix.posts ≤ 64
  pub slots : length ix.latest ≡ 64
  pub few : (p : ℕ) → (latest_of ix.latest p).count ≤ 65535
  pub within : ix.used ≤ length cells
  pub laid : Laid cells ix.latest ix.used (total ix)

-- The index of a pool with no stamps.
abbrev pub empty_index : ℕ → Index
empty_index posts = record { posts = posts; used = 0; latest = replicate 64 none }
