use Rattle.columns.proofs.Stamps.{placed}
use Rattle.columns.proofs.put_place.Goals as goal

pub returns : goal.returns
returns c = placed _ _ c.args.at c.args.place c.requires.short (rw (c.as_chunks.ensures.front, c.to_be_bytes.ensures) at c.copy.ensures)
