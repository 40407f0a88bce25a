-- What is printed of an event: post, number, outcome and entries, parted by spaces.
use Rattle.std.specs.Prelude.{ℕ, List, ◌++◌, codes, decimal}
use Rattle.cluster.specs.Outcomes.{word}
use Rattle.report.specs.declared.Line.{Line}

abbrev pub printed : Line → List ℕ
printed l = decimal l.event.post ++ (codes " " ++ (decimal l.event.number ++ (codes " " ++ (word l.taken.outcome ++ (codes " " ++ decimal l.taken.entries)))))
