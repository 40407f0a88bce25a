use Rattle.std.proofs.Common.{◌≡◌, length, sym, ◌∙◌, arith}
use Rattle.station.proofs.Farthest.{listed_none}
use Rattle.station.proofs.state.Station.horizon.Goals as goal
use Rattle.std.proofs.lemmas.List.FromFn.{fill_by_all}
use Rattle.std.proofs.lemmas.Bool.{cond-true, eq-eqb}

pub returns-clause-answer : goal.returns-clause-answer
returns-clause-answer g c h st =
    let n = (g.K.Keeper.meaning c.args.self.now.keeper).posts in
    let reached = c.in_ok-reach.ensures h st in
    let size : length c.args.slice.now ≡ n = c.if-slice-from.false ∙ c.from.ensures ∙ (c.posts.ensures st.keeps).0 in (
      sym (cond-true _ _ _ (eq-eqb _ n size) ∙ listed_none _ reached.0),
      fill_by_all _ c.write.new.slice n 0 (omega (arith, size)) (λ q inside. c.write.ensures q (omega (arith, st.few)) (omega (arith, size)) ∙ reached.1 q),
    )
