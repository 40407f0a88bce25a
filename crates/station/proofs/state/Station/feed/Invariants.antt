use Rattle.std.proofs.Common.{◌/◌, length}
use Rattle.order.specs.History.{History}
use Rattle.station.proofs.FeedSteps.{Going}
use Rattle.station.proofs.state.Station.feed.Given as goal
use Rattle.station.specs.Stands.{Stands}

abbrev pub invariant-loop-taken : goal.invariant-loop-taken
invariant-loop-taken g l = (h : History) → Stands g.P.Policy g.K.Keeper l.initial.self h
    → Going g.P.Policy g.K.Keeper l.initial.self l.self h l.bytes (length l.bytes / 8) l.taken
