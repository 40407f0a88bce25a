use Rattle.std.proofs.Common.{replicate, refl}
use Rattle.layers.proofs.Shelving.{agrees_append}
use Rattle.layers.proofs.shelf.ShelfKeeper.append.Goals as goal

pub returns : goal.returns
returns g c = λ s.
    let was = g.K.Keeper.meaning c.args.self.now.below in
    let is = g.K.Keeper.meaning c.append.new.self in
    let made = c.in_ok-append.ensures s.below in
    let slots = c.args.self.now.table.slots in
    let after = c.put.new.self.slots in
    let there =
    agrees_append was is slots after c.args.post c.in_ok-count.count c.saturating_add.result c.args.header
    (replicate 64 0) c.padded.result c.args.entries.now
    s.agrees (c.in_ok-count.ensures s) c.saturating_add.ensures refl c.padded.ensures made.1 c.put.ensures in
    (record { below = made.0; agrees = there }, made.1)
