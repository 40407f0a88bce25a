use Rattle.layers.proofs.Shelving.{agrees_mark}
use Rattle.layers.proofs.shelf.ShelfKeeper.mark.Goals as goal

pub returns : goal.returns
returns g c = λ s.
    let was = g.K.Keeper.meaning c.args.self.now.below in
    let is = g.K.Keeper.meaning c.mark.new.self in
    let made = c.in_ok-mark.ensures s.below in
    (record { below = made.0; agrees = agrees_mark was is c.args.self.now.table.slots c.mark-2.new.self.slots c.args.event s.agrees made.1 c.mark-2.ensures }, made.1)
