use Rattle.std.proofs.Common.{ap, ◌∙◌}
use Rattle.keeper.specs.Piles.{Pile}
use Rattle.layers.specs.Limits.{limited}
use Rattle.runs.proofs.Compared.{fresh_compared}
use Rattle.runs.proofs.supplied.compare_stack_and_pool.Goals as goal

pub returns-clause-compared : goal.returns-clause-compared
returns-clause-compared g c =
    let below = c.open-below.ensures in
    let quota = c.new-limited.ensures in
    let a = c.new-keeper_a.ensures in
    let b = c.open-keeper_b.ensures in
    let each = c.compare.ensures.each in
    fresh_compared (a.meaning ∙ quota.meaning ∙ ap (λ (m : Pile). limited m c.args.allowance) below.meaning) b.meaning
    (each.0 (a.sound (quota.sound below.sound))) (each.1 b.sound)
