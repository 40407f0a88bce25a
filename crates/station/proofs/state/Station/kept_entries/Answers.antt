use Rattle.std.proofs.Common.{◌≡◌, ◌++◌, ◌∷◌, [], ℕ, set, ap, ◌∙◌, subst, sym, rules, arith}
use Rattle.keeper.specs.Answers.{ask_entry}
use Rattle.order.proofs.PostSets.{walked_all}
use Rattle.order.specs.Posts.{members}
use Rattle.order.specs.Walk.{rest}
use Rattle.order.specs.Vectors.{vec}
use Rattle.station.proofs.Reading.{known}
use Rattle.station.proofs.VectorReading.{Placed, came, covered_below, placed_all, placed_more, placed_none, read_entry}
use Rattle.station.proofs.state.Station.kept_entries.Goals as goal
use Rattle.std.specs.Result.{result_unwrap_or}

pub loop-post-init : goal.loop-post-init
loop-post-init g c sound = placed_none _ _ _ c.nothing-vector.ensures.zero

pub loop-post-preserved : goal.loop-post-preserved
loop-post-preserved g c sound =
    let bits = c.args.posts.bits in
    let p = c.in-Some.post in
    let xs = c.loop-post.yielded in
    let was = c.loop-post.vector in
    let next = c.in-Some.ensures.steps in
    let start : rest c.into_iter-post-iterator.result ≡ members bits = search rules in
    let f : ℕ → ℕ = λ q. result_unwrap_or (ask_entry (g.K.Keeper.meaning c.args.self.now.keeper) c.args.event q) 0 in
    let is : c.set.new.self.entries ≡ set was.entries p (f p) = c.set.ensures ∙ ap (set was.entries p) (c.unwrap_or.ensures ∙ ap (λ r. result_unwrap_or r 0) (c.entry.ensures sound)) in
    subst (λ ys. Placed bits f (xs ++ p ∷ []) ys) (sym is)
    (placed_more bits f xs was.entries p (omega (arith, next.bound, was.full)) (came xs _ _ _ bits p start c.loop-post.yielded_by next.least).0 (c.loop-post.invariant sound))

pub returns : goal.returns
returns g c = record {
  kept = λ h st k covers q.
      let bits = c.args.posts.bits in
      let e = c.args.event in
      let start : rest c.into_iter-post-iterator.result ≡ members bits = search rules in
      let all = walked_all c.loop-post.yielded _ _ bits start c.loop-post.yielded_by c.in-None.ensures.steps in
      let f : ℕ → ℕ = λ q. result_unwrap_or (ask_entry (g.K.Keeper.meaning c.args.self.now.keeper) e q) 0 in
      placed_all bits f (vec h e.post e.number) c.loop-post.vector.entries
      (λ q t. covered_below _ _ _ h st e q (known _ h e k).most (covers q t))
      (subst (λ xs. Placed bits f xs c.loop-post.vector.entries) all (c.loop-post.invariant st.keeps))
      (λ q t. ap (λ r. result_unwrap_or r 0) (read_entry _ _ _ h st e q (known _ h e k) (covers q t))) q;
}
