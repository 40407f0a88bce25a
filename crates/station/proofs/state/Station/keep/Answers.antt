use Rattle.std.proofs.Common.{◌≡◌, Err, sym, refl, ap, ◌∙◌, rules, arith}
use Rattle.cluster.proofs.Counts.{tells_other}
use Rattle.order.proofs.Held.{passed}
use Rattle.order.specs.Records.{kind, partner_post, post}
use Rattle.order.specs.contracts.event.Kind.{the_type}
use Rattle.order.specs.declared.«record».Record.{Record}
use denote.Enum.Bare.{same_true}
use Rattle.std.proofs.lemmas.Result.{err_from_is_err_and}
use Rattle.std.proofs.lemmas.Bool.{eq-eqb, ne_eqb}
use Rattle.station.proofs.Entered.{answered, left_alone, stamped_plain, stamped_receive}
use Rattle.station.proofs.Reading.{stands_holds, history_short}
use Rattle.station.proofs.VectorReading.{kind_by, receives_by}
use Rattle.station.proofs.state.Station.keep.Goals as goal

pub returns-in_err-append : goal.returns-in_err-append
returns-in_err-append g c = record {
  same = (refl, (refl, refl));
  kept = λ h st b small d.
      let a = c.append.ensures st.keeps in
      let p = err_from_is_err_and c.from_residual.result c.from_residual.ensures.1 in
      let was = c.in_err-append.was in
      let held = stands_holds _ _ _ h st in
      let full = answered st.valid st.few small refl held d _ (c.deref.ensures.0 ∙ c.entries.ensures) a.1 in
      let same = left_alone st.valid st.few small refl held d _ (c.deref.ensures.0 ∙ c.entries.ensures) a.1 _ was in
      (a.0, p.1 ∙ ap Err p.2 ∙ sym was ∙ full, rw p.1 (same, refl));
}

pub returns-then-eq : goal.returns-then-eq
returns-then-eq g c = record {
  same = (refl, (refl, refl));
  kept = λ h st b small d.
      let a = c.append.ensures st.keeps in
      let k = c.mark.ensures a.0 in
      let was = c.in_ok-append.was in
      let held = stands_holds _ _ _ h st in
      let r = c.args.draft.now.«record» in
      let two = receives_by d.due (same_true the_type (search rules) _ _ (sym c.if-eq.ensures)) in
      let full = answered st.valid st.few small refl held d _ (c.deref.ensures.0 ∙ c.entries.ensures) a.1 in
      let own : post b ≡ r.event.post = ap (λ (x : Record). x.event.post) (sym d.due.is) in
      let other : partner_post b ≡ r.partner.post = ap (λ (x : Record). x.partner.post) (sym d.due.is) in
      let told = c.note.ensures.tells h b st.exchanged (eq-eqb (kind b) 2 two) own other
      (omega (arith, (passed _ h b d.due.fine).inside, st.few, own)) (omega (arith, ((passed _ h b d.due.fine).pair two).inside, st.few, other)) (history_short _ _ _ h st) in (
        k.0,
        sym was ∙ full,
        stamped_receive st.valid st.few small refl held d _ (c.deref.ensures.0 ∙ c.entries.ensures) a.1 was two _ c.mark.result k.1 _ told,
      );
}

pub returns-else-eq : goal.returns-else-eq
returns-else-eq g c = record {
  same = (refl, (refl, refl));
  kept = λ h st b small d.
      let a = c.append.ensures st.keeps in
      let held = stands_holds _ _ _ h st in
      let was = c.in_ok-append.was in
      let full = answered st.valid st.few small refl held d _ (c.deref.ensures.0 ∙ c.entries.ensures) a.1 in (
        a.0,
        sym was ∙ full,
        stamped_plain st.valid st.few small refl held d _ (c.deref.ensures.0 ∙ c.entries.ensures) a.1 was
            (λ two. let is = kind_by d.due two in search rules) _
            (tells_other _ h b st.exchanged (ne_eqb (kind b) 2 (λ two. let is = kind_by d.due two in search rules))),
      );
}
