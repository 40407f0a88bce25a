-- A rule that is not symmetric.
use Rattle.std.specs.Prelude.{◌+◌, ◌&&◌, nat_le}
use Rattle.std.proofs.Common.{leb-true}
use Rattle.std.proofs.lemmas.Bool.{and_parts}
use Rattle.cluster.specs.Rules.{Rule, fit}
use Rattle.cluster.specs.declared.limit.Limit.{Limit}

-- yes where the sizes fit and the receiver's cluster is not the smaller
abbrev pub elder : Limit → Rule
elder limit = record {
  limit = limit.value;
  says = λ a b _. nat_le b a && fit limit.value a b;
  least = limit.least;
  most = limit.most;
  keeps = λ a b _ t. leb-true (a + b) limit.value (and_parts (nat_le b a) (fit limit.value a b) t).1;
}
