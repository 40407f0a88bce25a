use Rattle.std.proofs.Common.{◌≡◌, ◌<◌, length, arith}
use Rattle.runs.proofs.Sofar.{sofar_more, goes_run}
use Rattle.runs.proofs.replaying.replay.Goals as goal

pub loop-place-preserved : goal.loop-place-preserved
loop-place-preserved g c =
    let lt : c.loop-place.place < length c.loop-place.turns = omega arith in
    let la : c.loop-place.place < length c.loop-place.answers = omega arith in
    sofar_more _ _ _ _ _ _ _ _ _ _ _ _ _ c.loop-place.invariant lt la c.play.ensures

pub returns : goal.returns
returns g c =
    let e : c.loop-place.place ≡ c.min-count.result = omega arith in
    let s = rw e at c.loop-place.invariant in
    record {
      count = c.min-count.ensures;
      barred = s.barred;
      played = λ h st. goes_run (s.goes h st);
      arguments = s.arguments;
      rest = (s.turns_rest, s.answers_rest);
    }
