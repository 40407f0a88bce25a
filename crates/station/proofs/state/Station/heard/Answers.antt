use Rattle.station.proofs.Farthest.{hears_so}
use Rattle.station.proofs.state.Station.heard.Goals as goal

pub returns-clause-answer : goal.returns-clause-answer
returns-clause-answer g c h st = hears_so st.valid st.few c.args.events.now c.together.result (c.together.ensures h st)
