use Rattle.std.proofs.Common.{◌≡◌, ℕ, ◌<◌, ◌&&◌, ltb, sym, ap, ◌∙◌, arith}
use Rattle.order.specs.Posts.{has}
use Rattle.std.proofs.lemmas.Bool.{and_parts, ltb-true}
use Rattle.station.proofs.Reading.{knows_from}
use Rattle.station.proofs.VectorReading.{full_held, full_covers, full_entry, none_full}
use Rattle.station.proofs.state.Station.latest_full_vector.Goals as goal

pub returns-then-full-eq0 : goal.returns-then-full-eq0
returns-then-full-eq0 g c = record {
  full = λ h st inside held q.
      let e = c.args.event in
      let is = c.latest_full.ensures h st inside held in
      c.nothing.ensures.zero q ∙ sym (none_full _ st.valid e.post e.number _ held is c.if-full-eq0.true q);
}

pub returns : goal.returns
returns g c = record {
  full = λ h st inside held q.
      let e = c.args.event in
      let n = (g.K.Keeper.meaning c.args.self.now.keeper).posts in
      let f = c.latest_full.result in
      let some : 0 < f = omega (arith, c.if-full-eq0.false) in
      let is = c.latest_full.ensures h st inside held in
      let first : (q : ℕ) → has c.first-posts.result.bits q ≡ (ltb q n && ltb q 64) =
      λ q. c.first-posts.ensures.members q ∙ ap (λ (m : ℕ). ltb q m && ltb q 64) (c.posts.ensures st.keeps).0 in
      let known = knows_from n h (record { post = e.post; number = f })
      (record { inside = inside; some = some; most = full_held _ st.valid e.post e.number f held is }) in
      c.kept_entries.ensures.kept h st known
      (λ q t. full_covers _ st.valid e.post e.number f held is some q (ltb-true q n (and_parts _ (ltb q 64) (sym (first q) ∙ t)).0)) q
      ∙ full_entry _ st.valid e.post e.number f held is c.first-posts.result.bits q (first q) st.few;
}
