use Rattle.std.proofs.Common.{[]}
use Rattle.runs.proofs.comparing.run.Goals as goal

pub returns-clause-each : goal.returns-clause-each
returns-clause-each g c = λ s.
    let opened = c.open-station.ensures in
    let played = c.replay.ensures in
    record {
      unused = λ free. rw (opened.parts.0, opened.parts.1) at (played.played [] (opened.stands s free)).run;
      used = λ u. (played.barred (opened.barred s u.0 u.1 u.2)).0;
    }
