use Rattle.std.proofs.Common.{sym, ◌∙◌, rules}
use Rattle.station.proofs.Reading.{known, read_kept_entry, unwrapped}
use Rattle.station.proofs.state.Station.full_entry.Goals as goal

pub returns : goal.returns
returns g c h st k inside =
    let own = known _ h c.args.event k in
    unwrapped _ _ _ c.unwrap_or_else.ensures
    (λ v is. read_kept_entry _ _ _ h st c.args.event own c.args.post inside v (sym is ∙ c.entry.ensures st.keeps))
    (λ e p. let i = own.inside in let m = own.most in search (rules, p))
