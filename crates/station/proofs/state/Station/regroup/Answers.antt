use Rattle.std.proofs.Common.{sym, refl, ap, ◌∙◌, rules}
use Rattle.cluster.specs.Partitions.{clusters, joined}
use Rattle.cluster.specs.contracts.outcome.Outcome.{the_type}
use denote.Enum.Bare.{same_true}
use Rattle.order.specs.declared.«record».Record.{Record}
use Rattle.station.proofs.Entered.{groups_merged, groups_same}
use Rattle.station.proofs.state.Station.regroup.Goals as goal

pub returns-then-eq : goal.returns-then-eq
returns-then-eq g c = record {
  same = (refl, (refl, (refl, refl)));
  grouped = λ R h b v d w.
      let e = c.merge-self.ensures in
      let was = c.args.self.now.partition in
      groups_merged R _ h b d.due.fine was w (sym d.outcome_is ∙ same_true the_type (search rules) _ _ (sym c.if-eq.ensures)) c.merge-self.result e.posts
      (λ q. e.clusters q ∙ ap (λ (x : Record). joined (clusters was) x.event.post x.partner.post q) d.due.is);
}

pub returns-else-eq : goal.returns-else-eq
returns-else-eq g c = record {
  same = (refl, (refl, (refl, refl)));
  grouped = λ R h b v d w. groups_same R _ h b d.due.fine c.args.self.now.partition w (λ m. let is = d.outcome_is ∙ m in search rules);
}
