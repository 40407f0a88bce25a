use Rattle.std.proofs.Common.{ℕ, Ok, sym, ap, ◌∙◌, inl, inr, rules}
use Rattle.join.specs.declared.vector.Vector.{Vector}
use Rattle.order.proofs.Vectors.{vec_none}
use Rattle.order.specs.Vectors.{vec}
use Rattle.std.proofs.lemmas.Result.{MatchResult-at_ok, MatchResult-at_err}
use Rattle.station.proofs.Reading.{knows_from}
use Rattle.station.proofs.VectorReading.{first_or_held, read_cover, unheld}
use Rattle.station.proofs.state.Station.vector.Goals as goal
use Rattle.station.specs.Drafts.{at}

pub returns : goal.returns
returns g c = record {
  full = λ h st inside held q.
      let e = c.args.event in
      let read = c.cover.ensures st.keeps in
      elim (first_or_held _ h e inside held) [
        | inl z ↦
            let none = MatchResult-at_err _ _ _ (read ∙ unheld _ _ _ h st e (λ t. Ok (record { bits = t.cover })) inside z) c.map_or.ensures in
            ap (λ (v : Vector). at v q) none ∙ c.nothing.ensures.zero q ∙ sym (ap (λ (k : ℕ). vec h e.post k q) z ∙ vec_none h e.post q)
        | inr k ↦
            let some = MatchResult-at_ok _ _ _ (read ∙ read_cover _ _ _ h st e k) c.map_or.ensures in
            let known = knows_from _ h e k in
            search (rules, some)
      ];
}
