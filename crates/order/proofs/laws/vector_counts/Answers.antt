use Rattle.order.proofs.Chains.{vector_counts}
use Rattle.order.proofs.laws.vector_counts.Goals as goal

pub returns : goal.returns
returns c = vector_counts
