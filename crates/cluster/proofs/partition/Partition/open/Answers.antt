use Rattle.std.proofs.Common.{arith}
use Rattle.cluster.specs.Sets.{bits_at}
use Rattle.cluster.proofs.Parted.{parted_singles}
use Rattle.cluster.proofs.partition.Partition.open.Goals as goal

pub invariant_of-result-clause-parted : goal.invariant_of-result-clause-parted
invariant_of-result-clause-parted c = ∣ parted_singles c.opened.result (bits_at c.alone.result) (λ p l. c.alone.ensures p (omega arith)) ∣₁
