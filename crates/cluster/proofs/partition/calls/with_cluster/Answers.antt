use Rattle.std.proofs.Common.{◌≡◌, cond, rules, arith}
use Rattle.order.specs.Posts.{has}
use Rattle.cluster.specs.Sets.{bits_at}
use Rattle.order.proofs.Made.{made_each}
use Rattle.cluster.proofs.partition.calls.with_cluster.Goals as goal

pub returns : goal.returns
returns c =
    let both = c.args.both.bits in
    let sets = c.args.sets.now in
    λ q l. made_each _ (λ k s. s.bits ≡ cond (has both k) both (bits_at sets k)) _ (λ k s f called. (search rules, search rules))
    c.from_fn.result 64 0 c.from_fn.ensures.items.each q (record { bits = 0 }) (omega arith) (omega arith)
