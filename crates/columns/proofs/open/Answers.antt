use Rattle.std.proofs.Common.{◌∙◌, rules, arith}
use Rattle.columns.proofs.Answered.{open_all, divided}
use Rattle.columns.proofs.open.Goals as goal

pub invariant_of-result : goal.invariant_of-result
invariant_of-result c =
    let s = open_all c.args.posts _ _ _ _ c.unused.result (search rules) (c.unwrap_or-width.ensures ∙ divided _ _ _ c.checked_div.ensures) c.as_chunks_mut.ensures.front_len c.unused.ensures in
    record { sound = s.0; fits = omega (arith, s.0.inside) }

pub returns-clause-meaning : goal.returns-clause-meaning
returns-clause-meaning c =
    (open_all c.args.posts _ _ _ _ c.unused.result (search rules) (c.unwrap_or-width.ensures ∙ divided _ _ _ c.checked_div.ensures) c.as_chunks_mut.ensures.front_len c.unused.ensures).1
