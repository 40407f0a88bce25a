use Rattle.order.proofs.PostSets.{from_zero}
use Rattle.order.proofs.posts.PostSet.members.Goals as goal

pub returns : goal.returns
returns c = from_zero c.args.self.bits
