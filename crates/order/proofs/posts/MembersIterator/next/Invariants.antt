use Rattle.std.proofs.Common.{◌≡◌}
use Rattle.order.specs.Posts.{from}
use Rattle.order.specs.Walk.{rest}
use Rattle.order.proofs.posts.MembersIterator.next.Given as goal

-- no member has been passed over
abbrev pub invariant-loop-post : goal.invariant-loop-post
invariant-loop-post l =
    (rest l.initial.self ≡ from l.post l.self.set.bits) × (l.self.set ≡ l.initial.self.set) × (l.self.next ≡ l.post)
