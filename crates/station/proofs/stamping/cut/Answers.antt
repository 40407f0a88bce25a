use Rattle.std.proofs.Common.{◌≡◌, length, ap, ◌∙◌, rules, arith}
use Rattle.order.proofs.PostSets.{walked_all}
use Rattle.order.specs.Posts.{members}
use Rattle.order.specs.Walk.{rest}
use Rattle.std.proofs.Common.{map}
use Rattle.std.proofs.lemmas.List.{length-map}
use Rattle.station.proofs.VectorReading.{came}
use Rattle.station.proofs.stamping.cut.Goals as goal
use Rattle.station.specs.Drafts.{at}

pub push-requires : goal.push-requires
push-requires c =
    let start : rest c.into_iter-post-iterator.result ≡ members c.args.cover.bits = search rules in
    let few = (came c.loop-post.yielded _ _ _ c.args.cover.bits c.in-Some.post start c.loop-post.yielded_by c.in-Some.ensures.steps.least).1 in
    (search rules, omega (arith, few, ap length c.loop-post.invariant ∙ length-map c.loop-post.yielded (at c.args.vector)))

pub returns : goal.returns
returns c =
    let start : rest c.into_iter-post-iterator.result ≡ members c.args.cover.bits = search rules in
    c.loop-post.invariant ∙ ap (map (at c.args.vector)) (walked_all c.loop-post.yielded _ _ _ start c.loop-post.yielded_by c.in-None.ensures.steps)
