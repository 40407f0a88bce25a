-- How a station stands to a history: what it keeps is what the history gives.
use Rattle.std.specs.Prelude.{◌≡◌, ℕ, ◌<◌, ◌≤◌, false, IfErr, Result}
use Rattle.cluster.specs.Clusters.{cluster}
use Rattle.cluster.specs.Kept.{kept}
use Rattle.cluster.specs.Partitions.{clusters}
use Rattle.cluster.specs.Rules.{Rule}
use Rattle.cluster.specs.Counts.{Tells}
use Rattle.cluster.specs.declared.policy.Policy.{Ghosts as OfPolicy}
use Rattle.keeper.specs.Piles.{Pile, held_count, stamp_of}
use Rattle.keeper.specs.declared.Keeper.{Ghosts as OfKeeper}
use Rattle.order.specs.History.{History, Valid, count}
use Rattle.order.specs.Records.{Bytes, post}
use Rattle.station.specs.Feeds.{Feeds, after_feed, feed_records}
use Rattle.station.specs.Takes.{takes, after_take, Moves}
use Rattle.station.specs.declared.faults.FeedFault.{FeedFault}
use Rattle.station.specs.declared.faults.TakeFault.{TakeFault}
use Rattle.station.specs.declared.faults.Taken.{Taken}
use Rattle.station.specs.declared.state.Station.{Station}

-- `policy` and `keeper`, here and below, are what a function knows of P and K by their bounds, `P.Policy` and `K.Keeper`.
pub record Stands {P K : Type 0} (policy : OfPolicy P) (keeper : OfKeeper K) (s : Station P K) (h : History) : Type 0 where
  pub open_to_all : s.barred ≡ false
  pub keeps : keeper.sound s.keeper
  pub few : (keeper.meaning s.keeper).posts ≤ 64
  pub valid : Valid (keeper.meaning s.keeper).posts h
  pub counts : (p : ℕ) → p < (keeper.meaning s.keeper).posts → held_count (keeper.meaning s.keeper) p ≡ count h p
  pub small : (p : ℕ) → p < (keeper.meaning s.keeper).posts → count h p ≤ 65535
  pub stamps : (p k : ℕ) → p < (keeper.meaning s.keeper).posts → 0 < k → k ≤ count h p
      → stamp_of (keeper.meaning s.keeper) p k ≡ kept (policy.rule s.policy) (keeper.meaning s.keeper).posts h p k
  pub parts : s.partition.posts ≡ (keeper.meaning s.keeper).posts
  pub exchanged : Tells s.exchanges h
  pub grouped : (p : ℕ) → p < (keeper.meaning s.keeper).posts → clusters s.partition p ≡ cluster (policy.rule s.policy) h p

-- What holds of a station at whatever history it stands, by its policy's rule, its number of posts and that history.
abbrev pub Wherever : {P K : Type 0} → OfPolicy P → OfKeeper K → Station P K → (Rule → ℕ → History → Type 0) → Type 0
Wherever policy keeper s Holds = (h : History) → Stands policy keeper s h → Holds (policy.rule s.policy) (keeper.meaning s.keeper).posts h

-- The station is as it was, and so is all that its keeper means.
pub record Unchanged {P K : Type 0} (meaning : K → Pile) (was is : Station P K) : Type 0 where
  pub same_pile : meaning is.keeper ≡ meaning was.keeper
  pub same_partition : is.partition ≡ was.partition
  pub same_exchanges : is.exchanges ≡ was.exchanges

-- What a take answers and leaves, of a station that stands at a history.
pub record Took {P K : Type 0} (policy : OfPolicy P) (keeper : OfKeeper K) (was is : Station P K) (h : History) (b : Bytes) (r : Result Taken TakeFault) : Type 0 where
  pub answer : r ≡ takes (policy.rule was.policy) (keeper.meaning was.keeper).posts h ((keeper.meaning was.keeper).space (post b)) b
  pub stands : Stands policy keeper is (after_take h b r)
  pub moves : Moves (post b) (keeper.meaning was.keeper).space r (keeper.meaning is.keeper).space
  pub same_policy : is.policy ≡ was.policy
  pub same_posts : (keeper.meaning is.keeper).posts ≡ (keeper.meaning was.keeper).posts
  pub refused : IfErr r (λ _. Unchanged keeper.meaning was is)

-- No post has a stamp.
abbrev pub Unused : Pile → Type 0
Unused m = (p : ℕ) → p < m.posts → held_count m p ≡ 0

-- What a feed answers and leaves, of a station that stands at a history.
pub record Fed {P K : Type 0} (policy : OfPolicy P) (keeper : OfKeeper K) (was is : Station P K) (h : History) (bytes : Bytes) (r : Result ℕ FeedFault) : Type 0 where
  pub feeds : Feeds (policy.rule was.policy) (keeper.meaning was.keeper).posts (feed_records bytes) 0 h (keeper.meaning was.keeper).space r (keeper.meaning is.keeper).space
  pub stands : Stands policy keeper is (after_feed h bytes r)
  pub same_policy : is.policy ≡ was.policy
  pub same_posts : (keeper.meaning is.keeper).posts ≡ (keeper.meaning was.keeper).posts
