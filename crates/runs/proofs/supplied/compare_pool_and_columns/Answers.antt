use Rattle.runs.proofs.Compared.{fresh_compared}
use Rattle.runs.proofs.supplied.compare_pool_and_columns.Goals as goal

pub returns-clause-compared : goal.returns-clause-compared
returns-clause-compared g c =
    let a = c.open-keeper_a.ensures in
    let b = c.open-keeper_b.ensures in
    let each = c.compare.ensures.each in
    fresh_compared a.meaning b.meaning (each.0 a.sound) (each.1 b.sound)
