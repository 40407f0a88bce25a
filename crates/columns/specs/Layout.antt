-- How a stamp lies in cells, and where the stamps of a column lie.
use Rattle.std.specs.Prelude.{◌≡◌, ℕ, ◌+◌, ◌-◌, ◌*◌, ◌/◌, ◌%◌, ◌<◌, ◌≤◌, ◌⊎◌, List, map, length, ◌==◌, slice_index}
use Rattle.order.specs.Posts.{size}
use Rattle.order.specs.Records.{kind_named}
use Rattle.std.specs.List.{range_with_len}
use Rattle.keeper.specs.Piles.{Stamp}
use Rattle.columns.specs.Cells.{pair_at, word_at}

-- The stamp that lies at a cell: first the kind's code, and 256 more if it is marked; the cover in four cells; the
-- latest full number; then the entries, as many as the cover has posts.
unfoldable pub stamp_at : (ℕ → ℕ) → ℕ → Stamp
stamp_at c at =
    record {
      kind = kind_named (c at % 256);
      marked = (c at / 256 == 1);
      cover = word_at c (at + 1);
      full = c (at + 5);
      entries = map (λ i. c (at + 6 + i)) (range_with_len 0 (size (word_at c (at + 1))));
    }

-- A column begins at cell `start` and is `width` cells wide. Its last two cells are the place of its first stamp,
-- counted from the start; the two before them that of its second; and so on.
unfoldable pub place_at : (ℕ → ℕ) → ℕ → ℕ → ℕ → ℕ
place_at c start width k = pair_at c (start + width - 2 * (k + 1))

-- the cell after stamp k, counted from the start; stamps are counted from 0
unfoldable pub end_at : (ℕ → ℕ) → ℕ → ℕ → ℕ → ℕ
end_at c start width k = place_at c start width k + 6 + size (word_at c (start + place_at c start width k + 1))

-- the cell at which stamp k begins
abbrev pub stamp_cell : (ℕ → ℕ) → ℕ → ℕ → ℕ → ℕ
stamp_cell c start width k = start + place_at c start width k

abbrev pub stamps_of : (ℕ → ℕ) → ℕ → ℕ → ℕ → List Stamp
stamps_of c start width n = map (λ k. stamp_at c (stamp_cell c start width k)) (range_with_len 0 n)

-- Cells d are the cells c with a stamp put at a cell, or a place.
pub record Stored (c d : ℕ → ℕ) (at : ℕ) (s : Stamp) : Type 0 where
  pub stamp : stamp_at d at ≡ s
  pub elsewhere : (j : ℕ) → (j < at) ⊎ (at + 6 + length s.entries ≤ j) → d j ≡ c j

pub record Placed (c d : ℕ → ℕ) (at place : ℕ) : Type 0 where
  pub there : pair_at d at ≡ place
  pub elsewhere : (j : ℕ) → (j < at) ⊎ (at + 2 ≤ j) → d j ≡ c j

-- Stamp s lies at a cell, field by field.
pub record Lies (c : ℕ → ℕ) (at : ℕ) (s : Stamp) : Type 0 where
  pub kind : s.kind ≡ kind_named (c at % 256)
  pub marked : s.marked ≡ (c at / 256 == 1)
  pub cover : s.cover ≡ word_at c (at + 1)
  pub full : s.full ≡ c (at + 5)
  pub entries : (i : ℕ) → i < size s.cover → slice_index s.entries i ≡ c (at + 6 + i)
