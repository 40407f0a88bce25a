use Rattle.runs.proofs.Compared.{related_alike, turns_alike}
use Rattle.runs.proofs.comparing.compare.Goals as goal

pub returns-clause-relate : goal.returns-clause-relate
returns-clause-relate g c = λ s t. related_alike (c.run-a.ensures.each s) (c.run-b.ensures.each t)

pub returns-clause-equal_turns : goal.returns-clause-equal_turns
returns-clause-equal_turns g c = λ s t o e. turns_alike (c.run-a.ensures.each s) (c.run-b.ensures.each t) o e
