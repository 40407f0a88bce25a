use Rattle.std.proofs.Common.{sym, ap, ◌∙◌, inl, inr, rules}
use Rattle.cluster.specs.declared.outcome.Outcome.{Outcome}
use Rattle.order.proofs.Held.{passed}
use Rattle.order.specs.Posts.{has}
use Rattle.order.specs.Records.{kind}
use Rattle.order.specs.declared.«record».Record.{Record}
use Rattle.order.specs.declared.posts.PostSet.{PostSet}
use Rattle.std.proofs.lemmas.Bool.{cases_eq}
use Rattle.station.proofs.StampReading.{answers, first-all, read_cluster, ruled_alone, ruled_within, ruled_merged, ruled_across, short}
use Rattle.station.proofs.VectorReading.{kind_by, receives_by}
use Rattle.station.proofs.state.Station.ruling.Goals as goal
use Rattle.station.proofs.VectorReading.{kind_by, receives_by}
use Rattle.station.proofs.state.Station.ruling.Goals.{in-Receive-false, in-Receive-false-2, in_default, in_default-2}

pub returns : goal.returns
returns g c h st b due =
    let facts = passed _ h b due.fine in
    let own_is = read_cluster _ _ _ h st _ _ _ c.cluster-own.ensures (ap (λ (x : Record). x.event.post) due.is) facts.inside in
    let has_is = ap (λ (x : Record). has c.cluster-own.result.bits x.partner.post) due.is in
    elim c.match-record.branch [
      | in-Receive-false w ↦
          let two = receives_by due w.in-Receive-false.is-0 in
          let other_is = read_cluster _ _ _ h st _ _ _ c.cluster-other.ensures (ap (λ (x : Record). x.partner.post) due.is) (facts.pair two).inside in
          ruled_merged _ _ h b _ _ own_is two (sym has_is ∙ sym w.in-Receive-false.ensures.value) _ other_is
          (answers (g.P.Policy.rule c.args.self.now.policy).says w.ask.ensures w.size_of.ensures w.size_of-else-same.ensures (w.between.ensures.exchanges h st.exchanged (short _ _ _ h st)) w.if-ask.true)
          (ap (λ (x : Outcome × PostSet). x.0) w.outcome-is) (ap (λ (x : Outcome × PostSet). x.1.bits) w.outcome-is ∙ w.union.ensures.bits)
      | in-Receive-false-2 w ↦
          let two = receives_by due w.in-Receive-false.is-0 in
          let other_is = read_cluster _ _ _ h st _ _ _ c.cluster-other.ensures (ap (λ (x : Record). x.partner.post) due.is) (facts.pair two).inside in
          ruled_across _ _ h b _ _ own_is two (sym has_is ∙ sym w.in-Receive-false.ensures.value) _ other_is
          (answers (g.P.Policy.rule c.args.self.now.policy).says w.ask.ensures w.size_of.ensures w.size_of-else-same.ensures (w.between.ensures.exchanges h st.exchanged (short _ _ _ h st)) w.if-ask.false)
          (ap (λ (x : Outcome × PostSet). x.0) w.outcome-is)
          (ap (λ (x : Outcome × PostSet). x.1.bits) w.outcome-is ∙ first-all _ _ _ st.few (c.posts.ensures.posts ∙ st.parts) c.first-all.ensures.bits)
      | in_default w ↦
          let o = ap (λ (x : Outcome × PostSet). x.0) w.outcome-is in
          let cv = ap (λ (x : Outcome × PostSet). x.1.bits) w.outcome-is in
          elim (cases_eq (kind b) 2) [
            | inl two ↦ ruled_within _ _ h b _ _ own_is two (sym has_is ∙ sym w.in_default.ensures.value) o cv
            | inr ne ↦ ruled_alone _ _ h b _ _ own_is ne o cv
          ]
      | in_default-2 w ↦
          ruled_alone _ _ h b _ _ own_is (λ two. let e = kind_by due two in search rules)
          (ap (λ (x : Outcome × PostSet). x.0) w.outcome-is) (ap (λ (x : Outcome × PostSet). x.1.bits) w.outcome-is)
    ]
