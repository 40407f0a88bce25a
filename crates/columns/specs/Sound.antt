-- What columns mean, by their fields, and when their cells lie as they should.
use Rattle.std.specs.Prelude.{◌≡◌, ℕ, ◌+◌, ◌-◌, ◌*◌, ◌/◌, ◌<◌, ◌≤◌, cond, List, length, nat_lt, slice_index_or}
use Rattle.keeper.specs.Piles.{Pile, opened}
use Rattle.columns.specs.Cells.{Cell, cell_at}
use Rattle.columns.specs.Layout.{place_at, end_at, stamps_of}
use Rattle.columns.specs.declared.Fill.{Fill}

-- The cells of a column, if so many bytes are cut for so many posts.
abbrev pub column_width : ℕ → ℕ → ℕ
column_width posts bytes = cond (nat_lt 0 (opened posts)) (bytes / 2 / opened posts) 0

-- the cells at a column's front that its stamps take
abbrev pub front_of : ℕ → Fill → ℕ
front_of width f = width - f.left - 2 * f.count

-- A column, so full. Its stamps lie in its front, one after another, and none takes more than 70 cells, so a place is a
-- number of two cells.
pub record Column (c : ℕ → ℕ) (start width : ℕ) (f : Fill) : Type 0 where
  pub room : f.left + 2 * f.count ≤ width
  pub short : front_of width f ≤ 70 * f.count
  pub within : (k : ℕ) → k < f.count → end_at c start width k ≤ front_of width f
  pub apart : (j k : ℕ) → j < k → k < f.count → end_at c start width j ≤ place_at c start width k

-- a column as it is opened
abbrev pub unused : ℕ → Fill
unused width = record { count = 0; left = width }

-- how full post q's column is; past the posts, unused
abbrev pub fill_at : ℕ → List Fill → ℕ → Fill
fill_at width fills q = slice_index_or fills q (unused width)

-- by the number of posts, a column's width, each post's count and space, and the cells
pub record Sound (posts width : ℕ) (fills : List Fill) (cells : List Cell) : Type 0 where
  pub few : posts ≤ 64
  pub all : length fills ≡ 64
  pub inside : posts * width ≤ length cells
  pub columns : (q : ℕ) → q < posts → Column (cell_at cells) (q * width) width (fill_at width fills q)
  pub idle : (q : ℕ) → posts ≤ q → (fill_at width fills q).count ≡ 0

abbrev pub pile : (posts width : ℕ) (fills : List Fill) (cells : List Cell) → Pile
pile posts width fills cells =
    record {
      posts = posts;
      stamps = λ q. stamps_of (cell_at cells) (q * width) width (fill_at width fills q).count;
      space = λ q. (fill_at width fills q).left;
    }
