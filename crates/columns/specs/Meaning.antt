-- The same of a keeper as a whole; apart, since the fact that its type carries can't import what names that type.
use Rattle.std.specs.Prelude.{ℕ, ◌-◌, ◌*◌}
use Rattle.keeper.specs.Piles.{Pile}
use Rattle.columns.specs.Cells.{cell_at}
use Rattle.columns.specs.Layout.{stamp_cell}
use Rattle.columns.specs.Sound.{Sound, pile, fill_at}
use Rattle.columns.specs.declared.Columns.{Columns}
use Rattle.columns.specs.declared.Fill.{Fill}

abbrev pub sound_of : Columns → Type 0
sound_of s = Sound s.posts s.width s.fills s.cells.now

abbrev pub pile_of : Columns → Pile
pile_of s = pile s.posts s.width s.fills s.cells.now

-- how full a post's column is
abbrev pub fill_of : Columns → ℕ → Fill
fill_of s = fill_at s.width s.fills

-- the cells that a keeper holds
abbrev pub cells_of : Columns → ℕ → ℕ
cells_of s = cell_at s.cells.now

-- the cell at which stamp k of post p begins, from 1 on
abbrev pub cell_of : Columns → ℕ → ℕ → ℕ
cell_of s p k = stamp_cell (cells_of s) (p * s.width) s.width (k - 1)
