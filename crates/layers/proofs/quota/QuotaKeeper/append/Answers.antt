use Rattle.std.proofs.Common.{arith}
use Rattle.keeper.proofs.Admitted.{admitted}
use Rattle.layers.proofs.quota.QuotaKeeper.append.Goals as goal

pub overflow_cast-entries : goal.overflow_cast-entries
overflow_cast-entries g c = omega (arith, (admitted _ _ _ _ _ _ c.in_ok-admit.ensures).few)
