use Rattle.std.proofs.Common.{sym}
use Rattle.station.proofs.Opened.{found_none, stands_opened}
use Rattle.station.proofs.state.Station.open.Goals as goal

pub returns-clause-stands : goal.returns-clause-stands
returns-clause-stands g c sound unused =
    let posts = c.posts.ensures sound in
    stands_opened _ _ _ c.posts.result (sym posts.0) posts.1 (found_none (g.K.Keeper.meaning c.args.keeper) _ (c.is_used-barred.ensures.used sound) unused) sound unused
    c.new.ensures c.open-partition.ensures.posts c.open-partition.ensures.clusters
