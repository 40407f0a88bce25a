use Rattle.std.proofs.Common.{◌≡◌, ℕ, ◌≤◌, cond}
use Rattle.cluster.specs.Clusters.{cover_at}
use Rattle.order.specs.History.{count}
use Rattle.order.specs.Posts.{has}
use Rattle.order.specs.Vectors.{vec}
use Rattle.station.proofs.VectorReading.{Gathers}
use Rattle.station.proofs.state.Station.full_vector.Given as goal
use Rattle.station.specs.Drafts.{at}
use Rattle.station.specs.Stands.{Wherever}

-- of any event with this cover and these kept entries
abbrev pub invariant-loop-post : goal.invariant-loop-post
invariant-loop-post g l = Wherever g.P.Policy g.K.Keeper l.self (λ R n h. (p k : ℕ) → k ≤ count h p → l.fn.cover.bits ≡ cover_at R n h p k
    → ((q : ℕ) → at l.own q ≡ cond (has l.fn.cover.bits q) (vec h p k q) 0) → Gathers R n h p k l.yielded (at l.all.value))
