-- A record is eight bytes: post, kind, number (two bytes), partner post, spare, partner number (two bytes).
-- Two-byte numbers have the high byte first.
use Rattle.std.specs.Prelude.{ℕ, ◌+◌, ◌*◌, Bool, cond, not, ◌&&◌, ◌||◌, List, length, ◌==◌, nat_le, nat_lt, slice_index}
use Rattle.order.specs.declared.event.Event.{Event}
use Rattle.order.specs.declared.event.Kind.{Kind}
use Rattle.order.specs.declared.event.Kind.TheVariants.{Local, Send, Receive}

abbrev pub Bytes : Type 0
Bytes = List ℕ

-- the two-byte number at place i
abbrev pub two_bytes : Bytes → ℕ → ℕ
two_bytes r i = slice_index r i * 256 + slice_index r (i + 1)

unfoldable pub post : Bytes → ℕ
post r = slice_index r 0

-- 0 local, 1 send, 2 receive
unfoldable pub kind : Bytes → ℕ
kind r = slice_index r 1

unfoldable pub number : Bytes → ℕ
number r = two_bytes r 2

unfoldable pub partner_post : Bytes → ℕ
partner_post r = slice_index r 4

unfoldable pub spare : Bytes → ℕ
spare r = slice_index r 5

unfoldable pub partner_number : Bytes → ℕ
partner_number r = two_bytes r 6

-- the event that a record reports
abbrev pub event : Bytes → Event
event r = record { post = post r; number = number r }

-- the send that a receive names
abbrev pub partner : Bytes → Event
partner r = record { post = partner_post r; number = partner_number r }

abbrev pub code : Kind → ℕ
code Local = 0
code Send = 1
code Receive = 2

-- the kind with this code
abbrev pub kind_named : ℕ → Kind
kind_named code = cond (code == 0) Local (cond (code == 1) Send Receive)

abbrev pub receives : Bytes → Bool
receives r = kind r == 2

-- the spare byte is 0, and so are the partner fields of what is no receive
abbrev pub filled : Bytes → Bool
filled r = spare r == 0 && (receives r || (partner_post r == 0 && partner_number r == 0))

-- a receive's partner is at another of the n posts
abbrev pub apart : ℕ → Bytes → Bool
apart n r = nat_lt (partner_post r) n && not (partner_post r == post r)

-- The ground on which a station of n posts refuses the form of a record, or 0.
unfoldable pub form : ℕ → Bytes → ℕ
form n r =
    cond (not (length r == 8)) 3
    (cond (nat_lt 2 (kind r)) 4
    (cond (nat_le n (post r)) 5
    (cond (not (filled r)) 6
    (cond (receives r && not (apart n r)) 7 0))))
