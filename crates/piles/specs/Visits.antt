-- What a visit to a pile answers.
use Rattle.std.specs.Prelude.{◌≡◌, ℕ, ◌+◌, ◌-◌, ◌≤◌, cond, List, length, Ok, Err, Result, MatchResult, ◌==◌}
use Rattle.keeper.specs.Answers.{admission, ask_append}
use Rattle.keeper.specs.Moves.{Appended, unmarked}
use Rattle.keeper.specs.Piles.{Pile, Stamp, price, held_count, entry_of, with_mark}
use Rattle.keeper.specs.declared.admit.Header.{Header}
use Rattle.keeper.specs.declared.fault.KeeperFault.{KeeperFault}
use Rattle.keeper.specs.declared.fault.KeeperFault.TheVariants.{NotCovered}
use Rattle.order.specs.Posts.{has}
use Rattle.piles.specs.declared.Draft.{Draft}
use Rattle.piles.specs.declared.Put.{Put}
use Rattle.piles.specs.declared.Seen.{Seen}
use Rattle.piles.specs.declared.Report.{Report}

-- A stamp to put in: its post, its header and its entries.
pub record Plan : Type 0 where
  pub post : ℕ
  pub header : Header
  pub entries : List ℕ

-- what a draft puts in
abbrev pub plan : Draft → Plan
plan draft = record { post = draft.post; header = draft.header; entries = draft.entries.now }

abbrev pub stamp_for : Plan → Stamp
stamp_for a = unmarked a.header a.entries

abbrev pub cost : Plan → ℕ
cost a = price (length a.entries)

abbrev pub then : {A B : Type 0} → Result A KeeperFault → Result B KeeperFault → Result B KeeperFault
then (Ok _) r = r
then (Err f) r = Err f

-- what is told of a stamp, with its entry for post q
abbrev pub seen_of : Stamp → ℕ → Seen
seen_of s q =
    record {
      header = record { kind = s.kind; cover = record { bits = s.cover }; full = s.full };
      marked = s.marked;
      entry = cond (has s.cover q) (Ok (entry_of s q)) (Err NotCovered);
    }

-- a stamp that went in has the post's next number, and its post has paid the price
abbrev pub put_of : ℕ → Plan → Put
put_of count a = record { number = count + 1; paid = cost a }

abbrev pub whether : Pile → Plan → Result (Unit {0}) KeeperFault
whether m a = ask_append m a.post a.header.cover.bits (length a.entries)

pub record Puts (was is : Pile) (a : Plan) (r : Result Put KeeperFault) : Type 0 where
  pub answer : r ≡ then (whether was a) (Ok (put_of (held_count was a.post) a))
  pub leaves : MatchResult r (λ _. Appended was is a.post (stamp_for a)) (λ _. is ≡ was)

-- the count of b's post when a has gone in
abbrev pub count_with : Pile → Plan → Plan → ℕ
count_with m a b = held_count m b.post + cond (a.post == b.post) 1 0

-- The space of b's post when a has gone in: at its own post less by the price, elsewhere by up to the price.
pub record Left (m : Pile) (a b : Plan) (space : ℕ) : Type 0 where
  pub falls : space ≤ m.space b.post
  pub at_most : m.space b.post ≤ space + cost a
  pub own : a.post ≡ b.post → space ≡ m.space b.post - cost a

-- Two stamps are put in, the first is marked, and both are read: each is told as it went in, and the first as marked.
abbrev pub report_of : Pile → Plan → Plan → ℕ → Report
report_of m a b q =
    record {
      first = record { put = put_of (held_count m a.post) a; seen = seen_of (with_mark (stamp_for a)) q };
      second = record { put = put_of (count_with m a b) b; seen = seen_of (stamp_for b) q };
    }

-- The same, where this much space is left for the second.
abbrev pub report : Pile → ℕ → Plan → Plan → ℕ → Result Report KeeperFault
report m space a b q =
    then (whether m a)
    (then (admission m.posts (count_with m a b) space b.post b.header.cover.bits (length b.entries)) (Ok (report_of m a b q)))

-- Both stamps go in, however much of the second's space the first takes.
pub record Ready (m : Pile) (a b : Plan) : Type 0 where
  pub first : whether m a ≡ Ok tt
  pub second : admission m.posts (count_with m a b) (m.space b.post - cost a) b.post b.header.cover.bits (length b.entries) ≡ Ok tt

pub record Reports (m : Pile) (a b : Plan) (q : ℕ) (r : Result Report KeeperFault) : Type 0 where
  pub answer : (space : ℕ) × Left m a b space × (r ≡ report m space a b q)
  pub ready : Ready m a b → r ≡ Ok (report_of m a b q)
