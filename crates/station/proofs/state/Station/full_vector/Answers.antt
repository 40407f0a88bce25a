use Rattle.std.proofs.Common.{◌≡◌, ℕ, List, cond, ap, ◌∙◌, subst, sym, ◌≤◌, rules, arith}
use Rattle.join.specs.JoinsLemmas.{entry_joined}
use Rattle.join.specs.declared.vector.Vector.{Vector}
use Rattle.cluster.proofs.Covers.{cover_at_posts}
use Rattle.cluster.specs.Clusters.{latest_full}
use Rattle.order.proofs.PostSets.{walked_all}
use Rattle.order.proofs.Vectors.{vec-count}
use Rattle.order.specs.History.{count}
use Rattle.order.specs.Posts.{has, members}
use Rattle.order.specs.Vectors.{vec}
use Rattle.order.specs.Walk.{rest}
use Rattle.std.proofs.lemmas.Bool.{cond-true}
use Rattle.station.proofs.Reading.{known}
use Rattle.station.proofs.VectorReading.{Gathers, came, gathers_all, gathers_more, gathers_none}
use Rattle.station.proofs.state.Station.full_vector.Goals as goal
use Rattle.station.specs.Drafts.{at}

pub loop-post-init : goal.loop-post-init
loop-post-init g c h st p k held cover own =
    gathers_none _ st.valid p k held _
    (λ q. ap (λ (v : Vector). at v q) c.new-all.ensures ∙ own q ∙ ap (λ (b : ℕ). cond (has b q) (vec h p k q) 0) cover)

pub loop-post-preserved : goal.loop-post-preserved
loop-post-preserved g c h st p k held cover own =
    let R = g.P.Policy.rule c.args.self.now.policy in
    let n = (g.K.Keeper.meaning c.args.self.now.keeper).posts in
    let x = c.in-Some.post in
    let xs = c.loop-post.yielded in
    let start : rest c.into_iter-post-iterator.result ≡ members c.args.cover.bits = search rules in
    let t = (came xs _ _ _ c.args.cover.bits x start c.loop-post.yielded_by c.in-Some.ensures.steps.least).0 in
    let entry = c.entry-number.ensures ∙ own x ∙ cond-true _ _ _ t in
    let inside = cover_at_posts R st.valid p k x held (sym (ap (λ (b : ℕ). has b x) cover) ∙ t) in
    let most : c.entry-number.result ≤ count h x = omega (arith, vec-count st.valid p k x held, entry) in
    gathers_more R st.valid p k held xs x (at c.loop-post.all.value) _ (at c.latest_full_vector.result)
    (λ q. c.latest_full_vector.ensures.full h st inside most q ∙ ap (λ (m : ℕ). vec h x (latest_full R n h x m) q) entry)
    (λ q. ap (λ (v : Vector). at v q) c.add.ensures ∙ entry_joined c.loop-post.all.value c.latest_full_vector.result q)
    (c.loop-post.invariant h st p k held cover own)

pub returns : goal.returns
returns g c = record {
  full = λ h st k cover q.
      let e = c.args.event in
      let held = (known _ h e k).most in
      let start : rest c.into_iter-post-iterator.result ≡ members c.args.cover.bits = search rules in
      let all = walked_all c.loop-post.yielded _ _ _ start c.loop-post.yielded_by c.in-None.ensures.steps ∙ ap members cover in
      let own = c.kept_entries-own.ensures.kept h st k (λ q t. sym (ap (λ (b : ℕ). has b q) cover) ∙ t) in
      ap (λ (v : Vector). at v q) c.value.ensures
      ∙ gathers_all _ st.valid e.post e.number held st.few _
      (subst (λ (xs : List ℕ). Gathers (g.P.Policy.rule c.args.self.now.policy) (g.K.Keeper.meaning c.args.self.now.keeper).posts h e.post e.number xs (at c.loop-post.all.value)) all (c.loop-post.invariant h st e.post e.number held cover own)) q;
}
