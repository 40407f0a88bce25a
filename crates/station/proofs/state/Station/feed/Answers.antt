use Rattle.std.proofs.Common.{refl, arith, rules}
use Rattle.std.proofs.lemmas.Result.{err_from_is_err_and}
use Rattle.station.proofs.FeedSteps.{going_done, placed_on, placed_stops}
use Rattle.station.proofs.state.Station.feed.Goals as goal

pub loop-taken-preserved : goal.loop-taken-preserved
loop-taken-preserved g c h st =
    let cut = c.as_chunks.ensures in
    let going = c.loop-taken.invariant h st in
    placed_on _ _ _ h _ _ _ _ _ _ cut.front cut.front_len c.loop-taken-test.true going _ (c.take.ensures.took _ going.stands) _ _ c.map_err.ensures.cases _ c.in_ok-map_err.was

pub returns-in_err-map_err-clause-fed : goal.returns-in_err-map_err-clause-fed
returns-in_err-map_err-clause-fed g c h st even =
    let cut = c.as_chunks.ensures in
    let going = c.loop-taken.invariant h st in
    let p = err_from_is_err_and c.from_residual.result c.from_residual.ensures.1 in
    rw (p.1, p.2)
    (placed_stops _ _ _ h _ _ _ _ _ _ cut.front cut.front_len c.loop-taken-test.true going _ (c.take.ensures.took _ going.stands) _ _ c.map_err.ensures.cases refl (λ f e p. search rules)
    _ c.in_err-map_err.was)

pub returns-clause-fed : goal.returns-clause-fed
returns-clause-fed g c h st even =
    going_done _ _ _ h _ _ _ _ _ (omega (arith, c.loop-taken-test.false, c.loop-taken.auto.taken-end)) c.as_chunks.ensures.front_len refl (c.loop-taken.invariant h st)
