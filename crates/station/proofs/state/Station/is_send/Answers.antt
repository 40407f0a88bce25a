use Rattle.std.proofs.Common.{Ok, refl, ◌∙◌}
use denote.Enum.Bare.{sameb}
use Rattle.cluster.specs.Kept.{kept}
use Rattle.order.specs.contracts.event.Kind.{the_type}
use Rattle.order.specs.declared.event.Kind.TheVariants.{Send}
use Rattle.station.proofs.Reading.{asked, known, named_send}
use Rattle.station.proofs.state.Station.is_send.Goals as goal

pub returns : goal.returns
unfolding kept
returns g c h st k =
    let read = c.kind.ensures st.keeps ∙ asked _ _ _ h st c.args.event (λ s. Ok s.kind) (known _ h c.args.event k) in
    (rw read at c.eq.ensures) ∙ named_send (λ k. sameb the_type k Send) refl refl refl _
