use Rattle.runs.proofs.Sofar.{Sofar}
use Rattle.runs.proofs.replaying.replay.Given as goal

abbrev pub invariant-loop-place : goal.invariant-loop-place
invariant-loop-place g l = Sofar g.P.Policy g.K.Keeper l.initial.station l.station l.place l.initial.turns l.turns l.initial.answers l.answers
