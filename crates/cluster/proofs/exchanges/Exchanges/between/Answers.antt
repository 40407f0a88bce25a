use Rattle.std.proofs.Common.{◌≡◌, ◌+◌, ◌∙◌, rules, arith}
use Rattle.std.proofs.lemmas.Iterator.{YieldsList-from_range, YieldsList-from_map}
use Rattle.std.proofs.lemmas.Iterator.Consumers.{fold_from_yields_List}
use Rattle.cluster.specs.Counts.{capped, pair_sum, row_sum, told}
use Rattle.cluster.proofs.Counts.{chained_rows, exchanges_le, told-exchanges}
use Rattle.cluster.proofs.exchanges.Exchanges.between.Goals as goal

pub returns : goal.returns
unfolding pair_sum
returns c =
    let table = c.args.self.now in
    let a = c.args.a.bits in
    let b = c.args.b.bits in
    let f = row_sum (told table) a b in
    let s : c.fold.result ≡ capped (pair_sum (told table) a b) =
    fold_from_yields_List _ (λ a x. capped (a + x)) 0 _ c.fold.ensures.ran
    (YieldsList-from_map _ (λ p. capped (f p)) (YieldsList-from_range 0 64 64 c.map-rows.ensures.source (omega arith)) c.map-rows.ensures.closure (λ x r q k. search rules))
    (λ a x b q k. search rules)
    ∙ chained_rows f in
    record { sum = s; exchanges = λ h t n. omega (arith, s, told-exchanges table h a b t, exchanges_le h a b) }
