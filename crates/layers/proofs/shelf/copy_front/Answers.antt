use Rattle.std.proofs.Common.{arith, rules}
use Rattle.layers.proofs.shelf.copy_front.Goals as goal
use Rattle.std.proofs.lemmas.List.{same_lists, places}

pub returns : goal.returns
returns c = same_lists _ _ (search (rules, places)) (λ k d h. grind (arith, places))
