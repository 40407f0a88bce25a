use Rattle.std.proofs.Common.{◌+◌, sym, subst}
use Rattle.std.proofs.lemmas.Result.{err_from_is_err_and}
use Rattle.station.proofs.Farthest.{Together, together_all, together_first, together_more, together_out}
use Rattle.station.proofs.state.Station.together.Goals as goal

pub loop-place-init : goal.loop-place-init
loop-place-init g c h st =
    let item = c.in-Some.ensures.item in
    subst (Together g.R.Reach.tells _ h c.args.events.now 0) (sym c.new-reach.ensures)
    (together_first g.R.Reach.tells _ h c.args.events.now item.3.0 c.in-Some.first.now _ _ item.1 (λ k. c.vector.ensures.full h st k.inside k.most) c.of.ensures)

pub loop-place-preserved : goal.loop-place-preserved
loop-place-preserved g c h st =
    subst (Together g.R.Reach.tells _ h c.args.events.now (c.loop-place.place + 1)) (sym c.add.ensures)
    (together_more g.R.Reach.tells _ h c.args.events.now c.in-Some.ensures.item.3.0 g.R.Join.join g.met.R.Reach.joins c.loop-place.place _ _ _ _ _ c.loop-place-test.true
    (c.in_ok-check_held.ensures h st) (λ k. c.vector-in-loop-place.ensures.full h st k.inside k.most)
    c.of-in-loop-place.ensures (c.loop-place.invariant h st))

pub returns-in_err-check_held : goal.returns-in_err-check_held
returns-in_err-check_held g c h st =
    let p = err_from_is_err_and c.from_residual.result c.from_residual.ensures.1 in
    rw (p.1, p.2) (
      together_out g.R.Reach.tells _ h c.args.events.now c.in-Some.ensures.item.3.0 c.loop-place.place _ _ _ c.loop-place-test.true
          (c.in_err-check_held.ensures h st) (c.loop-place.invariant h st),
      tt,
    )

pub returns : goal.returns
returns g c h st = rw c.value.ensures (together_all g.R.Reach.tells _ h c.args.events.now c.in-Some.ensures.item.3.0 c.loop-place.place _ c.loop-place-test.false (c.loop-place.invariant h st))
