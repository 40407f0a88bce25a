use Rattle.std.proofs.Common.{◌+◌, arith}
use Rattle.columns.proofs.Answered.{Found, place_inside, found}
use Rattle.columns.proofs.Columns.find.Goals as goal

pub pair-place-requires : goal.pair-place-requires
pair-place-requires c = rw c.place_cell.ensures (place_inside _ _ _ _ _ _ c.args.self.now.sound (rw (c.fill.ensures) at c.in_ok-locate.ensures))

pub returns : goal.returns
returns c =
    let s = c.args.self.now in
    let f : Found s.posts s.width s.fills s.cells.now c.args.event.post c.args.event.number (c.start_of.result + c.pair-place.result) =
    rw (c.start_of.ensures) (found _ _ _ _ _ _ s.sound (rw (c.fill.ensures) at c.in_ok-locate.ensures) c.pair-place.result (rw (c.place_cell.ensures) at c.pair-place.ensures)) in
    record { within = omega (arith, f.inside); answer = f.answer; lies = f.lies }
