use Rattle.pool.proofs.Marking.{mark_done}
use Rattle.pool.proofs.PoolKeeper.mark.Goals as goal

pub invariant_of-self : goal.invariant_of-self
invariant_of-self c = record { sound = (mark_done c.args.self.now.sound c.in_ok-place.ensures).0 }

pub returns : goal.returns
returns c s = mark_done s c.in_ok-place.ensures
