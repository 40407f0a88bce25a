use Rattle.piles.proofs.Visiting.{first_refused, second_refused, both, told, never, second_kept, exit}
use Rattle.piles.proofs.visit.Goals as goal
use Rattle.piles.specs.Visits.{plan, stamp_for, seen_of, Reports}

pub returns-in_err-one : goal.returns-in_err-one
returns-in_err-one g c = λ s.
    let m = g.K.Keeper.meaning c.args.keeper.now in
    let is = g.K.Keeper.meaning c.put_in.new.keeper in
    let a = plan c.args.first in
    let b = plan c.args.second in
    let put = c.in_err-one.ensures s in
    (put.0, exit c.from_residual.result _ (λ r. Reports m a b c.args.asked r) c.from_residual.ensures.1 (first_refused m is a b c.args.asked _ put.1))

pub returns-in_err-two : goal.returns-in_err-two
returns-in_err-two g c = λ s.
    let m = g.K.Keeper.meaning c.args.keeper.now in
    let is = g.K.Keeper.meaning c.put_in.new.keeper in
    let end = g.K.Keeper.meaning c.put_in-2.new.keeper in
    let a = plan c.args.first in
    let b = plan c.args.second in
    let put = c.in_ok-one.ensures s in
    let next = c.in_err-two.ensures put.0 in (
      next.0,
      exit c.from_residual-in_err-two.result _ (λ r. Reports m a b c.args.asked r) c.from_residual-in_err-two.ensures.1
          (second_refused m is end a b c.args.asked c.in_ok-one.one _ put.1 next.1),
    )

pub returns-in_err-mark : goal.returns-in_err-mark
returns-in_err-mark g c = λ s.
    let m = g.K.Keeper.meaning c.args.keeper.now in
    let is = g.K.Keeper.meaning c.put_in.new.keeper in
    let end = g.K.Keeper.meaning c.put_in-2.new.keeper in
    let a = plan c.args.first in
    let b = plan c.args.second in
    let one = c.in_ok-one.one in
    let put = c.in_ok-one.ensures s in
    let next = c.in_ok-two.ensures put.0 in
    let all = both m is end a b one c.in_ok-two.two put.1 next.1 in
    absurd (never end a.post one.number (stamp_for a) (λ _. tt) _ all.first_held (c.in_err-mark.ensures next.0).1.answer)

pub returns-in_err-see-2 : goal.returns-in_err-see-2
returns-in_err-see-2 g c = λ s.
    let m = g.K.Keeper.meaning c.args.keeper.now in
    let is = g.K.Keeper.meaning c.put_in.new.keeper in
    let end = g.K.Keeper.meaning c.put_in-2.new.keeper in
    let last = g.K.Keeper.meaning c.mark.new.self in
    let a = plan c.args.first in
    let b = plan c.args.second in
    let one = c.in_ok-one.one in
    let two = c.in_ok-two.two in
    let put = c.in_ok-one.ensures s in
    let next = c.in_ok-two.ensures put.0 in
    let marked = c.in_ok-mark.ensures next.0 in
    let all = both m is end a b one two put.1 next.1 in
    let held = second_kept m end last a b (is.space b.post) one two all marked.1.leaves in
    absurd (never last b.post two.number (stamp_for b) (λ x. seen_of x c.args.asked) _ held (c.in_err-see-2.ensures marked.0))

pub returns : goal.returns
returns g c = λ s.
    let m = g.K.Keeper.meaning c.args.keeper.now in
    let is = g.K.Keeper.meaning c.put_in.new.keeper in
    let end = g.K.Keeper.meaning c.put_in-2.new.keeper in
    let last = g.K.Keeper.meaning c.mark.new.self in
    let a = plan c.args.first in
    let b = plan c.args.second in
    let one = c.in_ok-one.one in
    let two = c.in_ok-two.two in
    let put = c.in_ok-one.ensures s in
    let next = c.in_ok-two.ensures put.0 in
    let marked = c.in_ok-mark.ensures next.0 in
    let all = both m is end a b one two put.1 next.1 in
    (marked.0, told m end last a b c.args.asked (is.space b.post) one two _ _ all marked.1.leaves (c.in_ok-see.ensures marked.0) (c.in_ok-see-2.ensures marked.0))
