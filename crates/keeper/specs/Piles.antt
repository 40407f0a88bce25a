-- What a keeper means: stamps and space for each post.
use Rattle.std.specs.Prelude.{◌≡◌, ℕ, ◌+◌, ◌-◌, Bool, true, false, cond, List, [], length, nat_le, slice_index, slice_index_or}
use Rattle.order.specs.Posts.{below}
use Rattle.order.specs.declared.event.Kind.{Kind}
use Rattle.order.specs.declared.event.Kind.TheVariants.{Local}

-- What is kept of an event.
pub record Stamp : Type 0 where
  pub kind : Kind
  -- for a send: already received
  pub marked : Bool
  -- the posts whose entries are kept, as the bits of a set
  pub cover : ℕ
  -- the number of the post's latest full event up to this one, or 0; an event is full if its cover is all posts
  pub full : ℕ
  -- the full vector's entries for the covered posts, ascending
  pub entries : List ℕ

-- The meaning of a keeper: a number of posts, and for each post its stamps, the oldest first, and its space in cells.
pub record Pile : Type 0 where
  pub posts : ℕ
  pub stamps : ℕ → List Stamp
  pub space : ℕ → ℕ

-- The price of a stamp in cells, by its number of entries.
abbrev pub price : ℕ → ℕ
price entries = entries + 8

abbrev pub no_stamp : Stamp
no_stamp = record { kind = Local; marked = false; cover = 0; full = 0; entries = [] }

abbrev pub held_count : Pile → ℕ → ℕ
held_count m p = length (m.stamps p)

-- stamp k of post p, from 1 on
abbrev pub stamp_of : Pile → ℕ → ℕ → Stamp
stamp_of m p k = slice_index_or (m.stamps p) (k - 1) no_stamp

-- a stamp's entry for post q, which stands at q's place among the covered posts
abbrev pub entry_of : Stamp → ℕ → ℕ
entry_of s q = slice_index s.entries (length (below q s.cover))

abbrev pub with_mark : Stamp → Stamp
with_mark s = record { kind = s.kind; marked = true; cover = s.cover; full = s.full; entries = s.entries }

-- No post has a stamp.
abbrev pub Empty : Pile → Type 0
Empty m = (p : ℕ) → m.stamps p ≡ []

-- A pile as it is opened: no stamps, and each post with its space.
abbrev pub fresh : ℕ → (ℕ → ℕ) → Pile
fresh posts space = record { posts = posts; stamps = λ _. []; space = space }

-- A keeper opened for more than 64 posts is opened for none.
abbrev pub opened : ℕ → ℕ
opened posts = cond (nat_le posts 64) posts 0
