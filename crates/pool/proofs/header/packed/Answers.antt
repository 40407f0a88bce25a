use Rattle.std.proofs.Common.{◌≡◌, ◌+◌, ◌*◌, ◌/◌, ◌%◌, ◌<◌, refl, arith}
use Rattle.order.specs.Records.{code, kind_named}
use Rattle.order.specs.declared.event.Kind.{Kind}
use Rattle.order.specs.declared.event.Kind.TheVariants.{Local, Send, Receive}
use Rattle.pool.specs.Layout.{mark_at, code_at, post_at, cover_at, full_at, link_at}
use Rattle.pool.proofs.header.packed.Goals as goal

named : (k : Kind) → kind_named (code k) ≡ k
named Local = refl
named Send = refl
named Receive = refl

small : (k : Kind) → code k < 4
small Local = omega arith
small Send = omega arith
small Receive = omega arith

pub returns : goal.returns
unfolding mark_at code_at post_at cover_at full_at link_at
returns c =
    let few : code c.args.header.kind < 4 = small c.args.header.kind in
    let at : (c.args.post * 8 + c.from-2.result * 2) / 2 % 4 ≡ code c.args.header.kind = omega arith in
    record { long = refl; unmarked = omega arith; kind = rw at (named c.args.header.kind); posted = omega arith; cover = omega arith; full = refl; linked = omega arith }
