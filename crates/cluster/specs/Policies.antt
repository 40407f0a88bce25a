-- The two supplied policies.
use Rattle.std.specs.Prelude.{ℕ, ◌+◌, ◌&&◌}
use Rattle.std.proofs.Common.{leb-true}
use Rattle.std.proofs.lemmas.Bool.{and_parts}
use Rattle.cluster.specs.Rules.{Rule, fit, busy}
use Rattle.cluster.specs.declared.limit.Limit.{Limit}

abbrev pub first_contact : Limit → Rule
first_contact limit = record {
  limit = limit.value;
  says = λ a b _. fit limit.value a b;
  least = limit.least;
  most = limit.most;
  keeps = λ a b _ t. leb-true (a + b) limit.value t;
}

-- with T exchanges for each post
abbrev pub by_traffic : Limit → ℕ → Rule
by_traffic limit T = record {
  limit = limit.value;
  says = λ a b e. fit limit.value a b && busy T a b e;
  least = limit.least;
  most = limit.most;
  keeps = λ a b e t. leb-true (a + b) limit.value (and_parts (fit limit.value a b) (busy T a b e) t).0;
}
