use Rattle.std.proofs.Common.{Err, sym, ap, ◌∙◌, subst}
use Rattle.std.proofs.lemmas.Result.{err_from_is_err_and}
use Rattle.std.proofs.lemmas.Bool.{both_ways}
use Rattle.station.proofs.Judged.{verdict_ok}
use Rattle.station.proofs.Standing.{judged_record, number_small, took_judged}
use Rattle.station.proofs.state.Station.take.Goals as goal
use Rattle.station.specs.Stands.{Took}

pub returns-in_err-record : goal.returns-in_err-record
returns-in_err-record g c = record {
  barred = λ t. absurd (both_ways _ c.if-self.false t);
  took = λ h st.
      let p = err_from_is_err_and c.from_residual.result c.from_residual.ensures.1 in
      subst (λ r. Took g.P.Policy g.K.Keeper c.args.self.now c.args.self.now h c.args.bytes.now r) (sym (p.1 ∙ ap Err p.2))
      (took_judged _ _ c.args.self.now h c.args.bytes.now st _ (sym c.in_err-record.was ∙ c.judge.ensures h st));
}

pub returns : goal.returns
returns g c = record {
  barred = λ t. absurd (both_ways _ c.if-self.false t);
  took = λ h st.
      let b = c.args.bytes.now in
      let read = sym c.in_ok-record.was ∙ c.judge.ensures h st in
      let ok = verdict_ok _ _ _ read in
      let is = judged_record _ h b c.in_ok-record.«record» read in
      c.enter.ensures h st b (number_small b (c.type_inv.bytes 2).fits (c.type_inv.bytes 3).fits) (c.draft-draft.ensures h st b (record { fine = ok; is = is }));
}
