use Rattle.std.proofs.Common.{arith}
use Rattle.order.proofs.PostSets.{ones_masked, ones_past}
use Rattle.order.proofs.posts.PostSet.rank.Goals as goal

pub returns-then-post-ge-MAX_POSTS : goal.returns-then-post-ge-MAX_POSTS
returns-then-post-ge-MAX_POSTS c = ones_past c.args.self.bits c.args.post (omega arith) (omega arith)

pub returns : goal.returns
returns c = ones_masked c.args.self.bits c.args.post (omega arith)
