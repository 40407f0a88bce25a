use Rattle.std.proofs.Common.{◌≡◌, ◌-◌, get_or, ap, sym, ◌∙◌, arith}
use Rattle.std.proofs.lemmas.Bool.Decides.{nat_tests}
use Rattle.std.proofs.lemmas.List.{get_or-map}
use Rattle.pool.specs.Layout.{stamp_at}
use Rattle.pool.specs.Stack.{places_of}
use Rattle.pool.proofs.Pool.find.Goals as goal

pub returns : goal.returns
returns c =
    let e = c.args.event in
    let ps = places_of c.args.self.now.index c.args.self.now.cells.now e.post in
    let i = c.loop.invariant.walked in
    let is : c.loop.place ≡ get_or ps (e.number - 1) 0 = i.1 ∙ ap (λ n. get_or ps n 0) (omega arith) in
    record {
      known = grind (arith, nat_tests, c.in_ok-locate.ensures);
      some = omega arith;
      within = omega (arith, i.0);
      is = is;
      stamp = get_or-map (stamp_at c.args.self.now.cells.now) ps (e.number - 1) 0 _ (omega (arith, i.0)) ∙ ap (stamp_at c.args.self.now.cells.now) (sym is);
    }
