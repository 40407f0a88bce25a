-- Where a stamp is, and where the next goes.
use Rattle.std.specs.Prelude.{◌≡◌, ℕ, ◌+◌, ◌-◌, ◌<◌, ◌≤◌, List, length, Ok, Err, Result, slice_index}
use Rattle.order.specs.declared.event.Event.{Event}
use Rattle.keeper.specs.Answers.{ask_append, ask_mark}
use Rattle.keeper.specs.Piles.{price, stamp_of}
use Rattle.keeper.specs.declared.fault.KeeperFault.{KeeperFault}
use Rattle.pool.specs.Layout.{stamp_at}
use Rattle.pool.specs.Stack.{places_of, latest_of, pile}
use Rattle.pool.specs.declared.Index.{Index}

-- A held event's stamp is at this place.
pub record Found (ix : Index) (cells : List ℕ) (e : Event) (place : ℕ) : Type 0 where
  pub known : e.post < ix.posts
  pub some : 0 < e.number
  pub within : e.number ≤ length (places_of ix cells e.post)
  pub is : place ≡ slice_index (places_of ix cells e.post) (e.number - 1)
  pub stamp : stamp_of (pile ix cells) e.post e.number ≡ stamp_at cells place

-- The place of an event's stamp, or why there is none.
abbrev pub Finds : Index → List ℕ → Event → Result ℕ KeeperFault → Type 0
Finds ix cells e (Ok place) = Found ix cells e place
Finds ix cells e (Err fault) = Err fault ≡ ask_mark (pile ix cells) e

-- A stamp of post p with this cover and n entries goes in, up to this place.
pub record Room (ix : Index) (cells : List ℕ) (p cover n end : ℕ) : Type 0 where
  pub admitted : Ok tt ≡ ask_append (pile ix cells) p cover n
  pub known : p < 64
  pub numbers : (latest_of ix.latest p).count < 65535
  pub is : end ≡ ix.used + price n
  pub holds : end ≤ length cells

-- Where it would end, or why it doesn't go in.
abbrev pub Rooms : Index → List ℕ → ℕ → ℕ → ℕ → Result ℕ KeeperFault → Type 0
Rooms ix cells p cover n (Ok end) = Room ix cells p cover n end
Rooms ix cells p cover n (Err fault) = Err fault ≡ ask_append (pile ix cells) p cover n
