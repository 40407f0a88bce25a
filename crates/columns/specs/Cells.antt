-- Cells of two bytes each, the high byte first, as numbers, and cells read as larger numbers.
use Rattle.std.specs.Prelude.{◌≡◌, ℕ, ◌+◌, ◌*◌, ◌<◌, ◌≤◌, ◌⊎◌, List, [], ◌∷◌, length, slice_index, slice_index_or}
use Rattle.std.specs.Int.{w16, from_be_bytes}

-- the bytes of a cell, and the number that they are
abbrev pub Cell : Type 0
Cell = List ℕ

abbrev pub number_of : Cell → ℕ
number_of = from_be_bytes w16

-- cell i, and 0 past the last
unfoldable pub cell_at : List Cell → ℕ → ℕ
cell_at cells i = number_of (slice_index_or cells i (0 ∷ 0 ∷ []))

-- two cells as one number, and four; the high cells first
abbrev pub pair_at : (ℕ → ℕ) → ℕ → ℕ
pair_at c i = 0x1_0000 * c i + c (i + 1)

abbrev pub word_at : (ℕ → ℕ) → ℕ → ℕ
word_at c i = 0x1_0000_0000 * pair_at c i + pair_at c (i + 2)

-- Cells d are the cells c with these values from one place on.
pub record Wrote (c d : ℕ → ℕ) (at : ℕ) (values : List ℕ) : Type 0 where
  pub there : (i : ℕ) → i < length values → d (at + i) ≡ slice_index values i
  pub elsewhere : (j : ℕ) → (j < at) ⊎ (at + length values ≤ j) → d j ≡ c j
