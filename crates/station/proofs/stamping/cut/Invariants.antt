use Rattle.std.proofs.Common.{◌≡◌, map}
use Rattle.station.proofs.stamping.cut.Given as goal
use Rattle.station.specs.Drafts.{at}

abbrev pub invariant-loop-post : goal.invariant-loop-post
invariant-loop-post l = l.entries.items ≡ map (at l.vector) l.yielded
