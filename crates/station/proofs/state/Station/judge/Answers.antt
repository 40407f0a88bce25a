use Rattle.std.proofs.Common.{sym, rules}
use denote.Enum.Bare.{same_true}
use Rattle.order.specs.contracts.event.Kind.{the_type}
use Rattle.std.proofs.lemmas.Result.{err_from_is_err_and}
use Rattle.station.proofs.Judged.{no_receive, out_of_turn, partner_accepts, partner_refuses, read_refused}
use Rattle.station.proofs.state.Station.judge.Goals as goal

pub returns-in_err-record : goal.returns-in_err-record
returns-in_err-record g c h st =
    let p = err_from_is_err_and c.from_residual.result c.from_residual.ensures.1 in
    rw (p.1, p.2) (read_refused _ _ h _ (c.posts.ensures st.keeps).0 _ c.in_err-record.ensures.ground)

pub returns-then-ne : goal.returns-then-ne
returns-then-ne g c h st =
    let read = c.in_ok-record.ensures in
    out_of_turn _ _ h _ (c.posts.ensures st.keeps).0 _ read.ground read.value _ (c.count.ensures h st) _ c.checked_sub.ensures c.if-ne.ensures

pub returns-in_err-judge_partner : goal.returns-in_err-judge_partner
returns-in_err-judge_partner g c h st =
    let read = c.in_ok-record.ensures in
    let receive = same_true the_type (search rules) _ _ (sym c.if-eq.ensures) in
    let p = err_from_is_err_and c.from_residual-in_err-judge_partner.result c.from_residual-in_err-judge_partner.ensures.1 in
    rw (p.1, p.2) (partner_refuses _ _ h _ (c.posts.ensures st.keeps).0 _ read.ground read.value _ (c.count.ensures h st) _ c.checked_sub.ensures c.if-ne.ensures receive
    _ (c.judge_partner.ensures h st) _ c.in_err-judge_partner.was)

pub returns-in_ok-judge_partner : goal.returns-in_ok-judge_partner
returns-in_ok-judge_partner g c h st =
    let read = c.in_ok-record.ensures in
    let receive = same_true the_type (search rules) _ _ (sym c.if-eq.ensures) in
    partner_accepts _ _ h _ (c.posts.ensures st.keeps).0 _ read.ground read.value _ (c.count.ensures h st) _ c.checked_sub.ensures c.if-ne.ensures receive
    _ (c.judge_partner.ensures h st) _ c.in_ok-judge_partner.was

pub returns-else-eq : goal.returns-else-eq
returns-else-eq g c h st =
    let read = c.in_ok-record.ensures in
    no_receive _ _ h _ (c.posts.ensures st.keeps).0 _ read.ground read.value _ (c.count.ensures h st) _ c.checked_sub.ensures c.if-ne.ensures (λ e. search rules)
