-- Calls with their arguments and what is answered, by contents.
use Rattle.std.specs.Prelude.{◌≡◌, ℕ, List, Err, Result}
use Rattle.order.specs.History.{History}
use Rattle.order.specs.Records.{Bytes}
use Rattle.order.specs.declared.event.Event.{Event}
use Rattle.order.specs.declared.posts.PostSet.{PostSet}
use Rattle.station.specs.Faults.{take_ground, feed_ground}
use Rattle.station.specs.Feeds.{after_feed}
use Rattle.station.specs.Takes.{after_take}
use Rattle.station.specs.declared.asks.AskFault.{AskFault}
use Rattle.station.specs.declared.asks.AskFault.TheVariants.{Barred as AskBarred}
use Rattle.station.specs.declared.asks.Relation.{Relation}
use Rattle.station.specs.declared.faults.FeedFault.{FeedFault}
use Rattle.station.specs.declared.faults.FeedFault.TheVariants.{Take}
use Rattle.station.specs.declared.faults.TakeFault.{TakeFault}
use Rattle.station.specs.declared.faults.TakeFault.TheVariants.{Barred}
use Rattle.station.specs.declared.faults.Taken.{Taken}

pub data Call : Type 0 where
  take : Bytes → Call
  feed : Bytes → Call
  relate : Event → Event → Call
  reach : Event → ℕ → Call
  -- the events, and the slice beforehand
  horizon : List Event → List ℕ → Call
  heard : List Event → Call
  cluster : ℕ → Call

pub data Reply : Type 0 where
  took : Result Taken TakeFault → Reply
  fed : Result ℕ FeedFault → Reply
  related : Result Relation AskFault → Reply
  reached : Result ℕ AskFault → Reply
  -- with the slice afterwards
  wrote : Result (Unit {0}) AskFault → List ℕ → Reply
  heard_of : Result PostSet AskFault → Reply
  clustered : Result PostSet AskFault → Reply

-- the refusal of a call by a station that was opened over stamps
abbrev pub barred : Call → Reply
barred (take r) = took (Err Barred)
barred (feed bytes) = fed (Err (Take 0 Barred))
barred (relate e f) = related (Err AskBarred)
barred (reach e p) = reached (Err AskBarred)
barred (horizon es slice) = wrote (Err AskBarred) slice
barred (heard es) = heard_of (Err AskBarred)
barred (cluster p) = clustered (Err AskBarred)

-- The history after a call, by what was answered.
abbrev pub after : Call → Reply → History → History
after (take r) (took a) h = after_take h r a
after (take r) (fed a) h = h
after (take r) (related a) h = h
after (take r) (reached a) h = h
after (take r) (wrote a s) h = h
after (take r) (heard_of a) h = h
after (take r) (clustered a) h = h
after (feed bytes) (took a) h = h
after (feed bytes) (fed a) h = after_feed h bytes a
after (feed bytes) (related a) h = h
after (feed bytes) (reached a) h = h
after (feed bytes) (wrote a s) h = h
after (feed bytes) (heard_of a) h = h
after (feed bytes) (clustered a) h = h
after (relate e f) a h = h
after (reach e p) a h = h
after (horizon es slice) a h = h
after (heard es) a h = h
after (cluster p) a h = h

-- a refusal for want of space
pub data ForSpace : Reply → Type 0 where
  in_take : {f : TakeFault} → take_ground f ≡ 12 → ForSpace (took (Err f))
  in_feed : {f : FeedFault} → feed_ground f ≡ 12 → ForSpace (fed (Err f))
