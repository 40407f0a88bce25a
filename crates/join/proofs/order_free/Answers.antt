use Rattle.join.proofs.Folds.{order_free}
use Rattle.join.proofs.order_free.Goals as goal

pub returns : goal.returns
returns g c = let laws = g.met.J.Join in order_free g.J.Join.join laws.associative laws.commutative laws.idempotent
