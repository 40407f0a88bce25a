use Rattle.std.proofs.Common.{◌≡◌, ℕ, ◌∷◌, Err, sym, ap, ◌∙◌, subst, subst₂}
use Rattle.cluster.specs.declared.partition.Partition.{Partition}
use Rattle.order.specs.History.{Valid}
use Rattle.order.specs.Posts.{size}
use Rattle.std.proofs.lemmas.Result.{MatchResult-at_err, MatchResult-at_ok, err_from_is_err_and}
use Rattle.station.proofs.Standing.{took_entered, took_refused}
use Rattle.station.proofs.state.Station.enter.Goals as goal
use Rattle.station.specs.Drafts.{Drafted}
use Rattle.station.specs.Entries.{Groups, Stamped}
use Rattle.station.specs.Stands.{Took}

pub returns-in_err-keep : goal.returns-in_err-keep
returns-in_err-keep g c h st b small d =
    let same = c.keep.ensures.same in
    let k = c.keep.ensures.kept h st b small d in
    let was = c.in_err-keep.was in
    let left = MatchResult-at_err _ _ _ was k.2 in
    let p = err_from_is_err_and c.from_residual.result c.from_residual.ensures.1 in
    subst (λ r. Took g.P.Policy g.K.Keeper c.args.self.now c.keep.new.self h b r) (sym (p.1 ∙ ap Err p.2))
    (took_refused _ _ c.args.self.now c.keep.new.self h b st d.due.fine same.0 same.1.1 k.0 _ (sym was ∙ k.1) left.0 same.1.0 left.1)

pub returns : goal.returns
returns g c h st b small d =
    let same = c.keep.ensures.same in
    let k = c.keep.ensures.kept h st b small d in
    let was = c.in_ok-keep.was in
    let also = c.regroup.ensures.same in
    let R = g.P.Policy.rule c.args.self.now.policy in
    let n = (g.K.Keeper.meaning c.args.self.now.keeper).posts in
    let stamped = MatchResult-at_ok _ _ tt was k.2 in
    let posts : c.keep.new.self.partition.posts ≡ n = ap (λ (x : Partition). x.posts) same.1.0 ∙ st.parts in
    let groups : Groups R n h c.keep.new.self.partition = subst (λ (x : Partition). Groups R n h x) (sym same.1.0) (record { parts = st.parts; grouped = st.grouped }) in
    let regrouped = subst (λ (x : ℕ). Valid x h → Drafted R x h b c.args.draft → Groups R x h c.keep.new.self.partition → Groups R x (b ∷ h) c.regroup.new.self.partition) posts (c.regroup.ensures.grouped R h b) in
    let count = c.size_of.ensures ∙ ap size d.cover_is in
    took_entered _ _ c.args.self.now c.regroup.new.self h b st d.due.fine (also.0 ∙ same.0) (also.1.1.1 ∙ same.1.1)
    (subst (λ x. g.K.Keeper.sound x) (sym also.1.0) k.0) small (sym was ∙ k.1)
    (subst₂ (λ x t. Stamped R n h b (g.K.Keeper.meaning c.args.self.now.keeper) (g.K.Keeper.meaning x) t) (sym also.1.0) (sym also.1.1.0) stamped)
    (regrouped st.valid d groups) _ (λ i. record { outcome = d.outcome_is i; entries = count i })
