use Rattle.std.proofs.Common.{◌≡◌, ℕ, ◌+◌, length, get_or, sym, ap, ◌∙◌, arith}
use Rattle.std.proofs.lemmas.Grind.{common_steps}
use Rattle.order.specs.Posts.{below}
use Rattle.pool.specs.Layout.{entries_at}
use Rattle.pool.proofs.Questions.{entry_is}
use Rattle.pool.proofs.PoolKeeper.entry.Goals as goal

pub returns : goal.returns
returns c s =
    let f = c.in_ok-place.ensures in
    let xs = c.args.self.now.cells.now in
    let at : c.cell.result ≡ get_or (entries_at xs c.in_ok-place.place) (length (below c.args.post c.cover_at-cover.result.bits)) 0 =
    c.cell.ensures ∙ ap (λ (n : ℕ). get_or xs (c.in_ok-place.place + 8 + n) 0) c.rank.ensures
    ∙ sym (entry_is xs c.in_ok-place.place c.args.post c.cover_at-cover.result.bits c.cover_at-cover.ensures.is c.cover_at-cover.ensures.fits (sym c.if-not-contains.ensures.value)) in
    grind (arith, common_steps, at, f.known, f.some, f.within, f.stamp)
