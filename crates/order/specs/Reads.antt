-- What reading a record gives.
use Rattle.std.specs.Prelude.{◌≡◌, ℕ, ◌<◌, ◌≤◌, cond, not, ◌&&◌, Ok, Err, Result, MatchResult, ◌==◌, nat_lt}
use Rattle.order.specs.declared.event.Event.{Event}
use Rattle.order.specs.declared.event.Kind.{Kind}
use Rattle.order.specs.declared.event.Kind.TheVariants.{Local, Send, Receive}
use Rattle.order.specs.declared.«record».Record.{Record}
use Rattle.order.specs.declared.«record».RecordFault.{RecordFault}
use Rattle.order.specs.declared.«record».RecordFault.TheVariants.{WrongLength, UnknownKind, UnknownPost, StrayBytes, WrongPartner}
use Rattle.order.specs.Records.{Bytes, event, kind, kind_named, partner}

-- r is the kind with this code, and refused above 2
abbrev pub KindRead : ℕ → Result Kind RecordFault → Type 0
KindRead code r = MatchResult r (λ k. (code ≤ 2) × (k ≡ kind_named code)) (λ f. (2 < code) × (f ≡ UnknownKind))

abbrev pub record_of : Bytes → Record
record_of r = record { event = event r; kind = kind_named (kind r); partner = partner r }

-- the number of the ground that a fault stands for
abbrev pub ground : RecordFault → ℕ
ground WrongLength = 3
ground UnknownKind = 4
ground UnknownPost = 5
ground StrayBytes = 6
ground WrongPartner = 7

-- the ground of a refusal, or 0
abbrev pub refused : {A : Type 0} → Result A RecordFault → ℕ
refused (Ok _) = 0
refused (Err e) = ground e

-- the ground that refuses the partner of an event that is no receive, or 0
abbrev pub blank_form : Event → ℕ
blank_form e = cond (e.post == 0 && e.number == 0) 0 6

-- the ground that refuses the partner of an event of this kind at post p, one of n, or 0
abbrev pub partner_form : Kind → Event → ℕ → ℕ → ℕ
partner_form Local e p n = blank_form e
partner_form Send e p n = blank_form e
partner_form Receive e p n = cond (nat_lt e.post n && not (e.post == p)) 0 7

-- the same of what stands past the number: the spare byte and the partner
abbrev pub tail_form : Kind → ℕ → Event → ℕ → ℕ → ℕ
tail_form k spare e p n = cond (spare == 0) (partner_form k e p n) 6
