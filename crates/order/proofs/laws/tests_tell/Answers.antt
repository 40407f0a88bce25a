use Rattle.order.proofs.Chains.{tests_tell}
use Rattle.order.proofs.laws.tests_tell.Goals as goal

pub returns : goal.returns
returns c = tests_tell
