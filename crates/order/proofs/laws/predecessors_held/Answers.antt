use Rattle.order.proofs.Chains.{predecessors_held}
use Rattle.order.proofs.laws.predecessors_held.Goals as goal

pub returns : goal.returns
returns c = predecessors_held
