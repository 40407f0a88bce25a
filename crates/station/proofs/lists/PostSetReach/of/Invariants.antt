use Rattle.std.proofs.Common.{◌≡◌, ℕ, ◌&&◌, ltb}
use Rattle.order.specs.Posts.{has}
use Rattle.station.proofs.lists.PostSetReach.of.Given as goal
use Rattle.station.specs.Drafts.{at}

-- the posts below this one that have an entry above 0
abbrev pub invariant-loop-post : goal.invariant-loop-post
invariant-loop-post l = (q : ℕ) → has l.posts.bits q ≡ (ltb q l.post && ltb 0 (at l.vector q))
