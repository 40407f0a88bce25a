-- What playing turns leaves, of a station that stands at a history.
use Rattle.std.specs.Prelude.{◌≡◌, List, [], ◌∷◌}
use Rattle.cluster.specs.declared.policy.Policy.{Ghosts as OfPolicy}
use Rattle.keeper.specs.declared.Keeper.{Ghosts as OfKeeper}
use Rattle.order.specs.History.{History}
use Rattle.runs.specs.Calls.{Call, Reply, after}
use Rattle.runs.specs.Runs.{Says, Run}
use Rattle.station.specs.Stands.{Stands}
use Rattle.station.specs.declared.state.Station.{Station}

-- after one turn
pub record Played {P K : Type 0} (policy : OfPolicy P) (keeper : OfKeeper K) (was is : Station P K) (h : History) (c : Call) (a : Reply) : Type 0 where
  pub says : Says (policy.rule was.policy) (keeper.meaning was.keeper).posts h (keeper.meaning was.keeper).space c a (keeper.meaning is.keeper).space
  pub stands : Stands policy keeper is (after c a h)
  pub same_policy : is.policy ≡ was.policy
  pub same_posts : (keeper.meaning is.keeper).posts ≡ (keeper.meaning was.keeper).posts

-- the history after calls, by what was answered
abbrev pub after_all : List Call → List Reply → History → History
after_all [] xs h = h
after_all (c ∷ cs) [] h = h
after_all (c ∷ cs) (a ∷ xs) h = after_all cs xs (after c a h)

-- after turns one after the other
pub record Replayed {P K : Type 0} (policy : OfPolicy P) (keeper : OfKeeper K) (was is : Station P K) (h : History) (cs : List Call) (xs : List Reply) : Type 0 where
  pub run : Run (policy.rule was.policy) (keeper.meaning was.keeper).posts h (keeper.meaning was.keeper).space cs xs
  pub stands : Stands policy keeper is (after_all cs xs h)
  pub same_policy : is.policy ≡ was.policy
  pub same_posts : (keeper.meaning is.keeper).posts ≡ (keeper.meaning was.keeper).posts
