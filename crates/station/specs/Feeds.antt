-- What a feed answers, and what it leaves: a take of each record in order, up to the first that fails.
use Rattle.std.specs.Prelude.{◌≡◌, ℕ, zero, suc, ◌*◌, ◌/◌, List, [], ◌∷◌, length, take, drop, Ok, Err, Result}
use Rattle.cluster.specs.Rules.{Rule}
use Rattle.keeper.specs.Piles.{price}
use Rattle.order.specs.History.{History}
use Rattle.order.specs.Records.{Bytes, post}
use Rattle.station.specs.Takes.{takes, Pays}
use Rattle.station.specs.declared.faults.FeedFault.{FeedFault}
use Rattle.station.specs.declared.faults.FeedFault.TheVariants.{Ragged, Take}
use Rattle.station.specs.declared.faults.TakeFault.{TakeFault}
use Rattle.station.specs.declared.faults.Taken.{Taken}

-- the first k records of a feed
abbrev pub records : ℕ → Bytes → List Bytes
records zero bytes = []
records (suc k) bytes = take 8 bytes ∷ records k (drop 8 bytes)

-- all records of a feed
abbrev pub feed_records : Bytes → List Bytes
feed_records bytes = records (length bytes / 8) bytes

-- What is answered of the records that are left after k were taken, and how space moves meanwhile.
pub data Feeds (P : Rule) (n : ℕ) : List Bytes → ℕ → History → (ℕ → ℕ) → Result ℕ FeedFault → (ℕ → ℕ) → Type 0 where
  done : {k : ℕ} {h : History} {was : ℕ → ℕ} → Feeds P n [] k h was (Ok k) was
  stops : {k : ℕ} {h : History} {was : ℕ → ℕ} {r : Bytes} {rs : List Bytes} {f : TakeFault}
      → takes P n h (was (post r)) r ≡ Err f → Feeds P n (r ∷ rs) k h was (Err (Take (8 * k) f)) was
  goes : {k : ℕ} {h : History} {was now is : ℕ → ℕ} {r : Bytes} {rs : List Bytes} {t : Taken} {a : Result ℕ FeedFault}
      → takes P n h (was (post r)) r ≡ Ok t → Pays (post r) (price t.entries) was now
      → Feeds P n rs (suc k) (r ∷ h) now a is → Feeds P n (r ∷ rs) k h was a is

-- how many records a feed took, by its answer
abbrev pub taken_of : Result ℕ FeedFault → ℕ
taken_of (Ok k) = k
taken_of (Err Ragged) = 0
taken_of (Err (Take place f)) = place / 8

-- a history with further records taken, in their order
abbrev pub fed : History → List Bytes → History
fed h [] = h
fed h (r ∷ rs) = fed (r ∷ h) rs

-- the history after a feed
abbrev pub after_feed : History → Bytes → Result ℕ FeedFault → History
after_feed h bytes a = fed h (records (taken_of a) bytes)
