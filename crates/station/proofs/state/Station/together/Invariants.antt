use Rattle.station.proofs.Farthest.{Together}
use Rattle.station.proofs.state.Station.together.Given as goal
use Rattle.station.specs.Stands.{Wherever}

abbrev pub invariant-loop-place : goal.invariant-loop-place
invariant-loop-place g l = Wherever g.P.Policy g.K.Keeper l.self (λ _ n h. Together g.R.Reach.tells n h l.events l.place l.reach.value)
