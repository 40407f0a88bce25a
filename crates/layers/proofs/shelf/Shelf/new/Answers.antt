use Rattle.std.proofs.Common.{refl}
use Rattle.layers.proofs.Shelving.{agrees_none}
use Rattle.layers.proofs.shelf.Shelf.new.Goals as goal

pub returns : goal.returns
returns g c = record { meaning = refl; sound = λ s. record { below = s; agrees = agrees_none (g.K.Keeper.meaning c.args.below) c.new-table.result.slots c.new-table.ensures } }
