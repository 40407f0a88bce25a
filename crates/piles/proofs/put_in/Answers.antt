use Rattle.piles.proofs.Visiting.{puts}
use Rattle.piles.proofs.put_in.Goals as goal
use Rattle.piles.specs.Visits.{plan}

pub returns : goal.returns
returns g c = λ s.
    let was = g.K.Keeper.meaning c.args.keeper.now in
    let is = g.K.Keeper.meaning c.append.new.self in
    let a = plan c.args.draft in
    let made = c.in_ok-append.ensures s in (
      made.0,
      puts was is a c.in_ok-before.before c.in_ok-after.after c.in_ok-number.number c.saturating_sub.result made.1
          (c.in_ok-before.ensures s) (c.in_ok-after.ensures made.0) (c.in_ok-number.ensures made.0) c.saturating_sub.ensures,
    )
