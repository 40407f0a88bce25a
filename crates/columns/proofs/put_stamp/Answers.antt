use Rattle.std.proofs.Common.{◌∙◌, arith}
use Rattle.columns.specs.Cells.{cell_at}
use Rattle.columns.proofs.Stamps.{stored}
use Rattle.columns.proofs.put_stamp.Goals as goal

pub returns : goal.returns
returns c =
    stored _ (cell_at c.put_cell.new.cells) _ (cell_at c.put_cell-2.new.cells) _ c.args.at c.args.header c.args.entries.now
    (omega arith) (c.put_cell.ensures.there ∙ c.from-2.ensures ∙ c.from.ensures) c.put_cell.ensures.elsewhere
    (rw (c.as_chunks.ensures.front, c.to_be_bytes-cover.ensures, c.bits.ensures) at c.copy.ensures)
    c.put_cell-2.ensures.there c.put_cell-2.ensures.elsewhere c.write.ensures c.requires.sized
