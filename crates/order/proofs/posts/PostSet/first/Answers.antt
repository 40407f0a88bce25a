use Rattle.std.proofs.Common.{◌≡◌, ℕ, ◌-◌, ◌^◌, min, ap, arith}
use Rattle.std.proofs.lemmas.Nat.{one_shl}
use Rattle.order.proofs.PostSets.{has_all, has_first}
use Rattle.order.proofs.posts.PostSet.first.Goals as goal

pub returns-then-posts-ge-MAX_POSTS : goal.returns-then-posts-ge-MAX_POSTS
returns-then-posts-ge-MAX_POSTS c =
    let top : 64 ≡ min c.args.posts 64 = omega arith in
    record { bits = ap (λ (n : ℕ). 2 ^ n - 1) top; members = λ q. has_all c.args.posts q (omega arith) }

pub returns : goal.returns
returns c =
    let n = c.args.posts in
    let own : n ≡ min n 64 = omega arith in
    record { bits = rw (one_shl n 64 (omega arith)) (ap (λ (m : ℕ). 2 ^ m - 1) own); members = λ q. has_first n q (omega arith) }
