-- The ground of each refusal, and what is given with it.
use Rattle.std.specs.Prelude.{ℕ}
use Rattle.order.specs.Reads.{ground}
use Rattle.station.specs.declared.asks.AskFault.{AskFault}
use Rattle.station.specs.declared.asks.AskFault.TheVariants.{Barred as AskBarred, SliceLength, NoEvents, NotHeld, UnknownPost}
use Rattle.station.specs.declared.faults.FeedFault.{FeedFault}
use Rattle.station.specs.declared.faults.FeedFault.TheVariants.{Ragged, Take}
use Rattle.station.specs.declared.faults.TakeFault.{TakeFault}
use Rattle.station.specs.declared.faults.TakeFault.TheVariants.{Barred, Record, OutOfTurn, PartnerNotHeld, PartnerNotSend, AlreadyReceived, Keeper}

abbrev pub take_ground : TakeFault → ℕ
take_ground Barred = 1
take_ground (Record f) = ground f
take_ground OutOfTurn = 8
take_ground PartnerNotHeld = 9
take_ground PartnerNotSend = 10
take_ground AlreadyReceived = 11
take_ground (Keeper f) = 12

abbrev pub feed_ground : FeedFault → ℕ
feed_ground Ragged = 2
feed_ground (Take place f) = take_ground f

-- the byte place of the refused record; 0 for grounds 1 and 2
abbrev pub feed_place : FeedFault → ℕ
feed_place Ragged = 0
feed_place (Take place f) = place

abbrev pub ask_ground : AskFault → ℕ
ask_ground AskBarred = 1
ask_ground SliceLength = 13
ask_ground NoEvents = 14
ask_ground (NotHeld place) = 15
ask_ground UnknownPost = 16
