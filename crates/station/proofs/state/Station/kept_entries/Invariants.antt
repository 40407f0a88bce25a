use Rattle.keeper.specs.Answers.{ask_entry}
use Rattle.station.proofs.VectorReading.{Placed}
use Rattle.station.proofs.state.Station.kept_entries.Given as goal
use Rattle.std.specs.Result.{result_unwrap_or}

abbrev pub invariant-loop-post : goal.invariant-loop-post
invariant-loop-post g l =
    g.K.Keeper.sound l.self.keeper → Placed l.fn.posts.bits (λ q. result_unwrap_or (ask_entry (g.K.Keeper.meaning l.self.keeper) l.event q) 0) l.yielded l.vector.entries
