use Rattle.std.proofs.Common.{ℕ, ◌+◌, Ok, sym, ap, ◌∙◌, arith}
use Rattle.keeper.specs.Piles.{held_count, stamp_of}
use Rattle.columns.specs.Meaning.{pile_of, cells_of}
use Rattle.columns.proofs.Bytes.{from_there}
use Rattle.columns.proofs.Answered.{held, held_any, covered}
use Rattle.columns.proofs.ColumnsKeeper.entry.Goals as goal

pub returns : goal.returns
returns c =
    λ _.
    let s = c.args.self.now in let e = c.args.event in
    ap Ok (c.cell.ensures ∙ from_there s.cells.now (c.in_ok-at.at + 6) c.rank.result ∙ ap (λ (n : ℕ). cells_of s (c.in_ok-at.at + 6 + n)) c.rank.ensures)
    ∙ covered (cells_of s) c.in_ok-at.at (stamp_of (pile_of s) e.post e.number) c.args.post c.from_bits-cover.result.bits c.in_ok-at.ensures.lies (c.from_bits-cover.ensures ∙ c.word.ensures) (omega (arith, c.word.type_inv)) (sym c.if-not-contains.ensures.value)
    ∙ held_any s.posts (held_count (pile_of s) e.post) e.post e.number _ (held s.posts (held_count (pile_of s) e.post) e.post e.number _ _ c.in_ok-at.ensures.answer).1
