use Rattle.std.proofs.Common.{◌+◌, ◌∙◌, rules, arith}
use Rattle.std.proofs.lemmas.Iterator.{YieldsList-from_range, YieldsList-from_map}
use Rattle.std.proofs.lemmas.Iterator.Consumers.{fold_from_yields_List}
use Rattle.cluster.specs.Counts.{capped, linked_count, row_sum, told}
use Rattle.cluster.proofs.Counts.{chained_row}
use Rattle.cluster.proofs.exchanges.Exchanges.row.Goals as goal

pub returns : goal.returns
unfolding row_sum
returns c =
    let f = linked_count (told c.args.self.now) c.args.a.bits c.args.b.bits c.args.receiver in
    fold_from_yields_List _ (λ a x. capped (a + x)) 0 _ c.fold.ensures.ran
    (YieldsList-from_map _ f (YieldsList-from_range 0 64 64 c.map.ensures.source (omega arith)) c.map.ensures.closure (λ x r q k. search rules))
    (λ a x b q k. search rules)
    ∙ chained_row f
