use Rattle.keeper.specs.Piles.{opened}
use Rattle.pool.proofs.Opens.{empty_pile}
use Rattle.pool.proofs.open.Goals as goal

pub returns-clause-meaning : goal.returns-clause-meaning
returns-clause-meaning c = rw c.empty.ensures (empty_pile (opened c.args.posts) c.args.cells.now)
