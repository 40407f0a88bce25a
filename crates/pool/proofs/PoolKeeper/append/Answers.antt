use Rattle.pool.proofs.Appending.{append_done}
use Rattle.pool.proofs.PoolKeeper.append.Goals as goal

pub invariant_of-self : goal.invariant_of-self
invariant_of-self c =
    let packs = rw c.latest_of-latest.ensures at c.packed-cells.ensures in
    record { sound = rw (c.lay.ensures, c.latest_of-latest.ensures) (append_done c.args.self.now.sound c.in_ok-end.ensures packs).0 }

pub returns : goal.returns
returns c s = rw (c.lay.ensures, c.latest_of-latest.ensures) (append_done s c.in_ok-end.ensures (rw c.latest_of-latest.ensures at c.packed-cells.ensures))
