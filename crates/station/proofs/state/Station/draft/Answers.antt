use Rattle.std.proofs.Common.{ap}
use Rattle.order.specs.declared.«record».Record.{Record}
use Rattle.station.proofs.StampReading.{entries_known}
use Rattle.station.proofs.state.Station.draft.Goals as goal

pub returns : goal.returns
returns g c h st b due =
    let ruled = c.ruling-ruling.ensures h st b due in
    record {
      due = due;
      outcome_is = ruled.outcome_is;
      kind_is = ap (λ (r : Record). r.kind) due.is;
      cover_is = ruled.cover_is;
      full_is = c.next_full-full.ensures h st b due ruled.cover_is;
      entries_are = entries_known c.next_vector.result _ (c.next_vector.ensures.full h st b due) ruled.cover_is;
    }
