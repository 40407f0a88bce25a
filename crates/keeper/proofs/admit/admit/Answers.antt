use Rattle.std.proofs.Common.{arith}
use Rattle.order.proofs.PostSets.{length_below_le}
use Rattle.keeper.proofs.admit.admit.Goals as goal

pub overflow_cast-size-2 : goal.overflow_cast-size-2
overflow_cast-size-2 c = omega (arith, length_below_le 64 c.args.cover.bits)
