use Rattle.order.proofs.Chains.{chain_join, no_cycle}
use Rattle.order.proofs.laws.chains_order.Goals as goal

pub returns : goal.returns
returns c = record { join = chain_join; acyclic = no_cycle }
