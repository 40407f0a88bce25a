use Rattle.std.proofs.Common.{refl}
use Rattle.order.proofs.PostSets.{has_union}
use Rattle.order.proofs.posts.PostSet.union.Goals as goal

pub returns : goal.returns
returns c = record { bits = refl; members = has_union c.args.self.bits c.args.other.bits }
