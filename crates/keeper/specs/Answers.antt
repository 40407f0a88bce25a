-- What a keeper answers, by its meaning; the failures stand in the order in which they are looked for.
use Rattle.std.specs.Prelude.{ℕ, Bool, cond, ◌&&◌, length, Ok, Err, Result, ◌==◌, nat_le, nat_lt}
use Rattle.order.specs.Posts.{has, below, size}
use Rattle.order.specs.declared.event.Event.{Event}
use Rattle.order.specs.declared.event.Kind.{Kind}
use Rattle.order.specs.declared.posts.PostSet.{PostSet}
use Rattle.keeper.specs.Piles.{Pile, Stamp, price, held_count, stamp_of, entry_of}
use Rattle.keeper.specs.declared.fault.KeeperFault.{KeeperFault}
use Rattle.keeper.specs.declared.fault.KeeperFault.TheVariants.{UnknownPost, BadCover, Full, NoSpace, NotHeld, NotCovered}

-- a question about a post
abbrev pub of_post : {A : Type 0} → ℕ → ℕ → A → Result A KeeperFault
of_post posts p answer = cond (nat_lt p posts) (Ok answer) (Err UnknownPost)

-- a question about stamp k of post p, which has this count
abbrev pub of_stamp : {A : Type 0} → ℕ → ℕ → ℕ → ℕ → Result A KeeperFault → Result A KeeperFault
of_stamp posts count p k answer = cond (nat_lt p posts) (cond (nat_lt 0 k && nat_le k count) answer (Err NotHeld)) (Err UnknownPost)

abbrev pub ask_count : Pile → ℕ → Result ℕ KeeperFault
ask_count m p = of_post m.posts p (held_count m p)

abbrev pub ask_space : Pile → ℕ → Result ℕ KeeperFault
ask_space m p = of_post m.posts p (m.space p)

-- a held stamp's field
abbrev pub ask_stamp : {A : Type 0} → Pile → Event → (Stamp → Result A KeeperFault) → Result A KeeperFault
ask_stamp m e field = of_stamp m.posts (held_count m e.post) e.post e.number (field (stamp_of m e.post e.number))

abbrev pub ask_kind : Pile → Event → Result Kind KeeperFault
ask_kind m e = ask_stamp m e (λ s. Ok s.kind)

abbrev pub ask_marked : Pile → Event → Result Bool KeeperFault
ask_marked m e = ask_stamp m e (λ s. Ok s.marked)

abbrev pub ask_cover : Pile → Event → Result PostSet KeeperFault
ask_cover m e = ask_stamp m e (λ s. Ok (record { bits = s.cover }))

abbrev pub ask_full : Pile → Event → Result ℕ KeeperFault
ask_full m e = ask_stamp m e (λ s. Ok s.full)

-- a held stamp's entry for post q
abbrev pub ask_entry : Pile → Event → ℕ → Result ℕ KeeperFault
ask_entry m e q = ask_stamp m e (λ s. cond (has s.cover q) (Ok (entry_of s q)) (Err NotCovered))

-- the cover has only the keeper's posts, and as many as there are entries
abbrev pub fits : ℕ → ℕ → ℕ → Bool
fits posts cover entries = length (below posts cover) == entries && size cover == entries

-- whether a stamp with this cover and so many entries goes in: by the number of posts, the post's count and its space
abbrev pub admission : ℕ → ℕ → ℕ → ℕ → ℕ → ℕ → Result (Unit {0}) KeeperFault
admission posts count space p cover entries =
    cond (nat_lt p posts)
    (cond (fits posts cover entries)
    (cond (nat_lt count 65535)
    (cond (nat_le (price entries) space) (Ok tt) (Err (NoSpace (price entries) space)))
    (Err Full))
    (Err BadCover))
    (Err UnknownPost)

abbrev pub ask_append : Pile → ℕ → ℕ → ℕ → Result (Unit {0}) KeeperFault
ask_append m p cover entries = admission m.posts (held_count m p) (m.space p) p cover entries

abbrev pub ask_mark : Pile → Event → Result (Unit {0}) KeeperFault
ask_mark m e = ask_stamp m e (λ _. Ok tt)
