use Rattle.std.proofs.Common.{arith}
use Rattle.order.proofs.PostSets.{bits_added, has_added}
use Rattle.order.proofs.posts.PostSet.insert.Goals as goal

pub returns-then-post-lt-MAX_POSTS : goal.returns-then-post-lt-MAX_POSTS
returns-then-post-lt-MAX_POSTS c =
    record {
      bits = bits_added c.args.self.now.bits c.args.post (omega arith);
      members = λ q. has_added c.args.self.now.bits c.args.post q (omega arith);
    }
