use Rattle.std.proofs.Common.{arith}
use Rattle.columns.proofs.Answered.{mark_all}
use Rattle.columns.proofs.ColumnsKeeper.mark.Goals as goal

pub invariant_of-self : goal.invariant_of-self
invariant_of-self c =
    record { sound = (mark_all _ _ _ _ c.put_cell.new.cells c.args.event c.in_ok-first.first c.args.self.now.sound c.in_ok-first.ensures.answer (omega (arith, c.put_cell.ensures.there)) c.put_cell.ensures.elsewhere (omega arith)).0; fits = c.args.self.now.fits }

pub returns : goal.returns
returns c =
    λ ok.
    mark_all _ _ _ _ c.put_cell.new.cells c.args.event c.in_ok-first.first ok c.in_ok-first.ensures.answer (omega (arith, c.put_cell.ensures.there)) c.put_cell.ensures.elsewhere (omega arith)
