use Rattle.std.proofs.Common.{◌≡◌, ◌+◌, ◌∷◌, length, sym, ap, ◌∙◌, arith, rules}
use Rattle.order.specs.Posts.{has, from}
use Rattle.order.specs.Walk.{rest}
use Rattle.order.proofs.PostSets.{from_past, from_with, from_without}
use Rattle.order.proofs.posts.MembersIterator.next.Goals as goal
use Rattle.std.proofs.iter.Next.{firm}

pub returns-then-contains : goal.returns-then-contains
returns-then-contains c =
    let s = c.loop-post.self in
    let p = c.loop-post.post in
    let m = c.if-contains.ensures.value in
    let e : rest c.args.self.now ≡ p ∷ from (p + 1) s.set.bits =
    c.loop-post.invariant.0 ∙ from_with p s.set.bits (omega arith) (sym m) in
    record {
      steps =
          record {
            least = e;
            bound = omega arith;
            member = ap (λ b. has b.bits p) (sym c.loop-post.invariant.1) ∙ sym m;
            same = c.loop-post.invariant.1;
          };
      goes = firm ((tt, tt, omega (arith, ap length e))) (λ h. search rules);
    }

pub loop-post-preserved : goal.loop-post-preserved
loop-post-preserved c =
    let s = c.loop-post.self in
    (c.loop-post.invariant.0 ∙ from_without c.loop-post.post s.set.bits (sym c.if-contains.ensures.value), search rules, search rules)

pub returns : goal.returns
returns c =
    let s = c.loop-post.self in
    record { steps = c.loop-post.invariant.0 ∙ from_past c.loop-post.post s.set.bits (omega arith); goes = firm (tt) (λ h. search rules) }
