use Rattle.std.proofs.Common.{arith}
use Rattle.order.proofs.PostSets.{ones_size}
use Rattle.order.proofs.posts.PostSet.size.Goals as goal

pub returns : goal.returns
returns c = ones_size c.args.self.bits (omega arith)
