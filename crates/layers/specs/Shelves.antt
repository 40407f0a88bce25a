-- What a shelf remembers, and when that agrees with the keeper below.
use Rattle.std.specs.Prelude.{◌≡◌, ℕ, ◌<◌, true, cond, List, ◌++◌, length, take, drop, IfSome, Some, None, Ok, Err, Option, Result, ◌==◌, nat_lt, slice_index_or, slice_set}
use Rattle.keeper.specs.Answers.{ask_kind, ask_marked, ask_cover, ask_full, ask_entry}
use Rattle.keeper.specs.Piles.{Pile, Stamp, held_count, stamp_of, entry_of}
use Rattle.layers.specs.declared.shelf.Shelf.{Shelf}
use Rattle.layers.specs.declared.shelf.Slot.{Slot}
use Rattle.order.specs.Posts.{has, size}
use Rattle.order.specs.declared.event.Event.{Event}
use Rattle.keeper.specs.declared.fault.KeeperFault.{KeeperFault}
use Rattle.keeper.specs.declared.fault.KeeperFault.TheVariants.{NotCovered}

-- A list with these entries from the front on, as far as there is room.
abbrev pub over_front : List ℕ → List ℕ → List ℕ
over_front into entries = take (length into) (entries ++ drop (length entries) into)

-- The stamp that a slot holds: of its 64 entries as many as the cover has posts.
abbrev pub stamp_in : Slot → Stamp
stamp_in s = record { kind = s.header.kind; marked = s.marked; cover = s.header.cover.bits; full = s.header.full; entries = take (size s.header.cover.bits) s.entries }

abbrev pub entry_in : Slot → ℕ → Result ℕ KeeperFault
entry_in s q = cond (has s.header.cover.bits q) (Ok (entry_of (stamp_in s) q)) (Err NotCovered)

-- what is remembered for post p; there are slots for the posts below 64
abbrev pub slot_of : List (Option Slot) → ℕ → Option Slot
slot_of slots p = cond (nat_lt p 64) (slice_index_or slots p None) None

-- the slot of an event, where it is the one that is remembered for its post
abbrev pub if_number : Option Slot → ℕ → Option Slot
if_number None k = None
if_number (Some s) k = cond (s.number == k) (Some s) None

abbrev pub found : List (Option Slot) → Event → Option Slot
found slots e = if_number (slot_of slots e.post) e.number

abbrev pub with_mark : Slot → Slot
with_mark s = record { number = s.number; marked = true; header = s.header; entries = s.entries }

-- the table with this slot for post p
abbrev pub put_at : List (Option Slot) → ℕ → Slot → List (Option Slot)
put_at slots p s = cond (nat_lt p 64) (slice_set slots p (Some s)) slots

abbrev pub marked_at : Option Slot → List (Option Slot) → ℕ → List (Option Slot)
marked_at None slots p = slots
marked_at (Some s) slots p = put_at slots p (with_mark s)

-- A slot holds the latest stamp of post p.
pub record Latest (m : Pile) (p : ℕ) (s : Slot) : Type 0 where
  pub known : p < m.posts
  pub some : 0 < s.number
  pub last : s.number ≡ held_count m p
  pub stamp : stamp_of m p s.number ≡ stamp_in s

-- What is remembered of any post is its latest stamp.
pub record Agrees (m : Pile) (slots : List (Option Slot)) : Type 0 where
  pub width : length slots ≡ 64
  pub each : (p : ℕ) → IfSome (slot_of slots p) (λ s. Latest m p s)

-- A slot answers each question about the event as the pile does.
pub record Tells (m : Pile) (e : Event) (s : Slot) : Type 0 where
  pub kind : ask_kind m e ≡ Ok s.header.kind
  pub mark : ask_marked m e ≡ Ok s.marked
  pub cover : ask_cover m e ≡ Ok s.header.cover
  pub full : ask_full m e ≡ Ok s.header.full
  pub entry : (q : ℕ) → ask_entry m e q ≡ entry_in s q

-- A shelf means what the keeper below means.
abbrev pub shelf_meaning : {K : Type 0} → (K → Pile) → Shelf K → Pile
shelf_meaning meaning s = meaning s.below

pub record ShelfSound {K : Type 0} (sound : K → Type 0) (meaning : K → Pile) (s : Shelf K) : Type 0 where
  pub below : sound s.below
  pub agrees : Agrees (meaning s.below) s.table.slots
