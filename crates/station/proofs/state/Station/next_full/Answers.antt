use Rattle.std.proofs.Common.{◌-◌, sym, ap, ◌∙◌}
use Rattle.order.specs.declared.«record».Record.{Record}
use Rattle.std.proofs.lemmas.Bool.{false≢true, eq-eqb, eqb-true}
use Rattle.station.proofs.StampReading.{first-all, next_full_here, next_full_before}
use Rattle.station.proofs.VectorReading.{same_previous}
use Rattle.station.proofs.state.Station.next_full.Goals as goal

pub returns-then-eq : goal.returns-then-eq
returns-then-eq g c h st b due same =
    let all = first-all _ _ _ st.few (c.posts.ensures st.keeps).0 c.first.ensures.bits in
    ap (λ (r : Record). r.event.number) due.is ∙ next_full_here _ _ _ h st b due.fine (sym same ∙ eqb-true _ _ (sym c.if-eq.ensures) ∙ all)

pub returns : goal.returns
returns g c h st b due same =
    let all = first-all _ _ _ st.few (c.posts.ensures st.keeps).0 c.first.ensures.bits in
    let previous = same_previous due _ c.saturating_sub.ensures in
    c.latest_full.ensures h st previous.inside previous.most
    ∙ next_full_before _ _ _ h st b due.fine (λ e. false≢true (c.if-eq.ensures ∙ eq-eqb _ _ (same ∙ e ∙ sym all)))
    _ _ (ap (λ (r : Record). r.event.post) due.is) (c.saturating_sub.ensures ∙ ap (λ (r : Record). r.event.number - 1) due.is)
