use Rattle.std.proofs.Common.{false, Ok, ap, ◌∙◌}
use Rattle.std.specs.Result.{result_unwrap_or}
use Rattle.cluster.specs.Kept.{kept}
use Rattle.station.proofs.Reading.{asked, known}
use Rattle.station.proofs.state.Station.is_received.Goals as goal

pub returns : goal.returns
unfolding kept
returns g c h st k = c.unwrap_or.ensures ∙ ap (λ r. result_unwrap_or r false) (c.marked.ensures st.keeps ∙ asked _ _ _ h st c.args.event (λ s. Ok s.marked) (known _ h c.args.event k))
