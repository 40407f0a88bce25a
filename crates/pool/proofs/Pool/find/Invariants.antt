use Rattle.std.proofs.Common.{◌≡◌, ◌-◌, ◌<◌, ◌≤◌, length, get_or}
use Rattle.pool.specs.Stack.{places_of}
use Rattle.pool.proofs.Pool.find.Given as goal

-- the walk stands at the stamp that many links before the newest
abbrev pub invariant-loop : goal.invariant-loop
invariant-loop l = record {
  some : 0 < l.fn.event.number;
  few : l.counter ≤ l.end;
  walked
      : (l.end ≤ length (places_of l.self.index l.self.cells.now l.fn.event.post))
      × (l.place ≡ get_or (places_of l.self.index l.self.cells.now l.fn.event.post) (l.end - (l.counter - l.fn.event.number) - 1) 0);
}
