use Rattle.std.proofs.Common.{◌≡◌, ◌<◌, refl, rules, arith}
use Rattle.keeper.specs.Piles.{held_count}
use Rattle.std.proofs.lemmas.Iterator.{cases_from_any, YieldsList-from_range}
use Rattle.station.proofs.Opened.{none_below, none_counted}
use Rattle.station.proofs.opening.is_used.Goals as goal

pub returns-clause-free : goal.returns-clause-free
returns-clause-free g c sound none p inside =
    let m = g.K.Keeper.meaning c.args.keeper.now in
    let n = c.posts.result in
    let all = cases_from_any _ _ c.any.result (λ q. Unit {0}) (λ q. q < m.posts → held_count m q ≡ 0) c.any.ensures.ran (YieldsList-from_range 0 n n refl (omega arith)) (λ q k s. tt) (λ q k s. (search rules, search (rules, none_counted))) in
    none_below n _ (λ q. q < m.posts → held_count m q ≡ 0) _ all none p (omega (arith, (c.posts.ensures sound).0)) inside
