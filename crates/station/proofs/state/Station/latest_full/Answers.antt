use Rattle.std.proofs.Common.{ap, ◌∙◌}
use Rattle.station.proofs.StampReading.{read_full}
use Rattle.station.proofs.state.Station.latest_full.Goals as goal
use Rattle.std.specs.Result.{result_unwrap_or}

pub returns : goal.returns
returns g c h st inside most =
    c.unwrap_or.ensures ∙ ap (λ r. result_unwrap_or r 0) (c.full.ensures st.keeps) ∙ read_full _ _ _ h st c.args.event inside most
