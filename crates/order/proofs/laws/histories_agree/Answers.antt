use Rattle.order.proofs.Chains.{histories_agree}
use Rattle.order.proofs.laws.histories_agree.Goals as goal

pub returns : goal.returns
returns c = histories_agree
