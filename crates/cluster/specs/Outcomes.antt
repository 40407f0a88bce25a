-- What is printed of an outcome.
use Rattle.std.specs.Prelude.{ℕ, List, codes}
use Rattle.cluster.specs.declared.outcome.Outcome.{Outcome}
use Rattle.cluster.specs.declared.outcome.Outcome.TheVariants.{Plain, Merged, Across}

abbrev pub word : Outcome → List ℕ
word Plain = codes "plain"
word Merged = codes "merged"
word Across = codes "across"
