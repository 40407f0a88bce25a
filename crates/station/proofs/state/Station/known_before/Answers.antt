use Rattle.std.proofs.Common.{ℕ, max, sym, ap, ◌∙◌, ap₂, arith}
use Rattle.join.specs.JoinsLemmas.{entry_joined}
use Rattle.join.specs.declared.vector.Vector.{Vector}
use Rattle.order.specs.Records.{kind, receives, partner_post, partner_number}
use Rattle.order.specs.Vectors.{vec}
use Rattle.std.proofs.lemmas.Bool.{cond-true, cond-false, eq-eqb, ne_eqb}
use Rattle.station.proofs.VectorReading.{kind_by, receives_by, same_partner, same_previous}
use Rattle.station.proofs.state.Station.known_before.Goals as goal
use Rattle.station.specs.Drafts.{at}

pub returns-in-Receive : goal.returns-in-Receive
returns-in-Receive g c = record {
  known = λ h st b due q.
      let two = receives_by due c.in-Receive.is in
      let before = same_previous due _ c.saturating_sub.ensures in
      let send = same_partner due two in
      ap (λ (v : Vector). at v q) c.join.ensures ∙ entry_joined c.vector-previous.result c.vector.result q
      ∙ ap₂ (λ (x y : ℕ). max x y)
      (c.vector-previous.ensures.full h st before.inside before.most q ∙ before.entry q)
      (c.vector.ensures.full h st send.inside send.most q ∙ send.entry q ∙ sym (cond-true _ _ _ (eq-eqb (kind b) 2 two)));
}

pub returns-in_default : goal.returns-in_default
returns-in_default g c = record {
  known = λ h st b due q.
      let before = same_previous due _ c.saturating_sub.ensures in
      let other = ne_eqb (kind b) 2 (λ two. c.in_default.not-Receive (kind_by due two)) in
      let entry = c.vector-previous.ensures.full h st before.inside before.most q ∙ before.entry q in
      omega (arith, entry, cond-false (receives b) (vec h (partner_post b) (partner_number b) q) 0 other);
}
