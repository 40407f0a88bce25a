use Rattle.std.proofs.Common.{ℕ, List, get_or, set, ap, ◌∙◌, ap₂}
use Rattle.order.specs.declared.«record».Record.{Record}
use Rattle.station.proofs.VectorReading.{next_entry}
use Rattle.station.proofs.state.Station.next_vector.Goals as goal

pub returns : goal.returns
returns g c = record {
  full = λ h st b due q.
      let before = c.known_before-vector in
      ap (λ (xs : List ℕ). get_or xs q 0) c.set.ensures
      ∙ ap₂ (λ (p k : ℕ). get_or (set before.result.entries p k) q 0) (ap (λ (x : Record). x.event.post) due.is) (ap (λ (x : Record). x.event.number) due.is)
      ∙ next_entry _ h b st.few due.fine _ before.result.full (before.ensures.known h st b due) q;
}
