use Rattle.std.proofs.Common.{rules}
use Rattle.std.proofs.lemmas.Nat.{one_shl}
use Rattle.cluster.proofs.partition.calls.alone.Goals as goal

pub returns : goal.returns
returns c = λ q l. let w = c.from_fn.ensures.items.at q (record { bits = 0 }) l in search (rules, one_shl)
