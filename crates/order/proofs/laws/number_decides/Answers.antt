use Rattle.order.proofs.Chains.{number_decides}
use Rattle.order.proofs.laws.number_decides.Goals as goal

pub returns : goal.returns
returns c = number_decides
