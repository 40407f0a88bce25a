use Rattle.std.proofs.Common.{◌≡◌, max, get_or, sym, ◌∙◌, rules, arith}
use Rattle.order.proofs.Made.{made_each}
use Rattle.join.specs.JoinsLemmas.{larger_by, same_entries}
use Rattle.join.proofs.VectorJoin.join.Goals as goal

pub returns : goal.returns
returns c =
    let v = c.args.self in
    let w = c.args.other in
    let made = c.from_fn.ensures.items in
    same_entries _ _ (larger_by c.from_fn.result v.entries w.entries (made.long ∙ sym v.full) (v.full ∙ sym w.full) (λ k l.
    made_each _ (λ k y. y ≡ max (get_or v.entries k 0) (get_or w.entries k 0)) _ (λ k y f called. (search rules, search rules))
    c.from_fn.result 64 0 made.each k 0 (omega arith) (omega (arith, made.long))))
