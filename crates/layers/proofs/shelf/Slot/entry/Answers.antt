use Rattle.std.proofs.Common.{◌^◌, ◌<◌, sym, arith}
use Rattle.layers.proofs.Shelving.{rank_within, entry_back}
use Rattle.layers.proofs.shelf.Slot.entry.Goals as goal

pub bounds-self-rank : goal.bounds-self-rank
bounds-self-rank c =
    let bits = c.args.self.header.cover.bits in
    let small : bits < 2 ^ 64 = omega (arith, c.well_formed) in
    omega (arith, rank_within bits c.args.post small (sym c.if-not-contains.ensures.value))

pub returns : goal.returns
returns c =
    let small : c.args.self.header.cover.bits < 2 ^ 64 = omega (arith, c.well_formed) in
    entry_back c.args.self c.args.post _ small (sym c.if-not-contains.ensures.value) c.rank-rank.ensures
