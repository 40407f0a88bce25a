-- The seven-event shift: what a station of four posts answers to seven records, and to questions after them.
use Rattle.std.specs.Prelude.{◌≡◌, ℕ, zero, suc, ◌+◌, ◌-◌, ◌^◌, ◌≤◌, List, [], ◌∷◌, length, Ok, Err, slice_index_or}
use Rattle.cluster.specs.Clusters.{cover}
use Rattle.cluster.specs.Kept.{kept}
use Rattle.cluster.specs.Rules.{Rule, fit}
use Rattle.cluster.specs.declared.outcome.Outcome.{Outcome}
use Rattle.cluster.specs.declared.outcome.Outcome.TheVariants.{Plain, Merged, Across}
use Rattle.keeper.specs.Piles.{price}
use Rattle.keeper.specs.declared.fault.KeeperFault.TheVariants.{NoSpace}
use Rattle.order.specs.History.{History, Valid}
use Rattle.order.specs.Posts.{size}
use Rattle.order.specs.Records.{Bytes, post, number}
use Rattle.order.specs.declared.event.Event.{Event}
use Rattle.station.specs.Asks.{relates, reaches, horizons, horizon_slice, hears, clusters_at}
use Rattle.station.specs.Faults.{take_ground}
use Rattle.station.specs.Takes.{takes}
use Rattle.station.specs.declared.asks.Relation.TheVariants.{Before, After, Concurrent}
use Rattle.station.specs.declared.faults.TakeFault.{TakeFault}
use Rattle.station.specs.declared.faults.TakeFault.TheVariants.{Keeper}

-- the seven records, in the order in which they are taken
abbrev pub seven : List Bytes
seven =
    (0 ∷ 1 ∷ 0 ∷ 1 ∷ 0 ∷ 0 ∷ 0 ∷ 0 ∷ [])
    ∷ (1 ∷ 2 ∷ 0 ∷ 1 ∷ 0 ∷ 0 ∷ 0 ∷ 1 ∷ [])
    ∷ (1 ∷ 1 ∷ 0 ∷ 2 ∷ 0 ∷ 0 ∷ 0 ∷ 0 ∷ [])
    ∷ (2 ∷ 2 ∷ 0 ∷ 1 ∷ 1 ∷ 0 ∷ 0 ∷ 2 ∷ [])
    ∷ (2 ∷ 1 ∷ 0 ∷ 2 ∷ 0 ∷ 0 ∷ 0 ∷ 0 ∷ [])
    ∷ (3 ∷ 2 ∷ 0 ∷ 1 ∷ 2 ∷ 0 ∷ 0 ∷ 2 ∷ [])
    ∷ (0 ∷ 0 ∷ 0 ∷ 2 ∷ 0 ∷ 0 ∷ 0 ∷ 0 ∷ [])
    ∷ []

-- the record that comes after the first k
abbrev pub next : ℕ → Bytes
next k = slice_index_or seven k []

-- the history once the first k of them are taken
abbrev pub first : ℕ → History
first zero = []
first (suc k) = next k ∷ first k

abbrev pub all : History
all = first 7

-- event k of post p
abbrev pub at : ℕ → ℕ → Event
at p k = record { post = p; number = k }

-- a set of posts as bits
abbrev pub set_of : List ℕ → ℕ
set_of [] = 0
set_of (p ∷ ps) = 2 ^ p + set_of ps

-- first contact with a limit
pub record FirstContact (limit : ℕ) (P : Rule) : Type 0 where
  pub limits : P.limit ≡ limit
  pub answers : (a b exchanges : ℕ) → P.says a b exchanges ≡ fit limit a b

-- the cells that the records of a history cost
abbrev pub spent : Rule → History → ℕ
spent P [] = 0
spent P (r ∷ h) = spent P h + price (size (cover P 4 h r))

-- From a pool of so many cells, the record after the first k is taken with this outcome, and these entries are kept.
pub record GoesIn (P : Rule) (cells k : ℕ) (outcome : Outcome) (entries : List ℕ) : Type 0 where
  pub answer : takes P 4 (first k) (cells - spent P (first k)) (next k) ≡ Ok (record { outcome = outcome; entries = length entries })
  pub keeps : (kept P 4 (first (suc k)) (post (next k)) (number (next k))).entries ≡ entries

-- After the seven a record is refused on this ground, whatever the space.
pub record Refused (P : Rule) (ground : ℕ) (r : Bytes) : Type 0 where
  pub fault : TakeFault
  pub answer : (space : ℕ) → takes P 4 all space r ≡ Err fault
  pub on : take_ground fault ≡ ground

-- Four posts, first contact with limit 2.
pub record Shift (P : Rule) : Type 0 where
  pub record_1 : GoesIn P 70 0 Plain (1 ∷ [])
  pub record_2 : GoesIn P 70 1 Merged (1 ∷ 1 ∷ [])
  pub record_3 : GoesIn P 70 2 Plain (1 ∷ 2 ∷ [])
  pub record_4 : GoesIn P 70 3 Across (1 ∷ 2 ∷ 1 ∷ 0 ∷ [])
  pub record_5 : GoesIn P 70 4 Plain (2 ∷ [])
  pub record_6 : GoesIn P 70 5 Merged (2 ∷ 1 ∷ [])
  pub record_7 : GoesIn P 70 6 Plain (2 ∷ 0 ∷ [])
  pub full : spent P all ≡ 70
  pub cluster_3 : clusters_at P 4 all 3 ≡ Ok (record { bits = set_of (2 ∷ 3 ∷ []) })
  -- with a pool of 69 cells
  pub short : takes P 4 (first 6) (69 - spent P (first 6)) (next 6) ≡ Err (Keeper (NoSpace 10 9))
  -- post 2 receives (0,1), which (1,1) has received
  pub received_before : Refused P 11 (2 ∷ 2 ∷ 0 ∷ 3 ∷ 0 ∷ 0 ∷ 0 ∷ 1 ∷ [])
  -- post 1 receives (3,1), which is a receive
  pub no_send : Refused P 10 (1 ∷ 2 ∷ 0 ∷ 3 ∷ 3 ∷ 0 ∷ 0 ∷ 1 ∷ [])

-- What is asked after the seven, which no policy has a part in.
pub record Questions : Type 0 where
  pub valid : Valid 4 all
  pub reach_0 : reaches 4 all (at 3 1) 0 ≡ Ok 1
  pub reach_1 : reaches 4 all (at 3 1) 1 ≡ Ok 2
  pub before : relates 4 all (at 0 1) (at 3 1) ≡ Ok Before
  pub after : relates 4 all (at 3 1) (at 0 1) ≡ Ok After
  pub concurrent : relates 4 all (at 0 2) (at 3 1) ≡ Ok Concurrent
  pub itself : relates 4 all (at 0 1) (at 0 1) ≡ Ok Concurrent
  pub horizon : horizons 4 all (at 0 2 ∷ at 3 1 ∷ []) 4 ≡ Ok tt
  pub horizon_writes : (slice : List ℕ) → horizon_slice 4 all (at 0 2 ∷ at 3 1 ∷ []) (Ok tt) slice ≡ 2 ∷ 2 ∷ 2 ∷ 1 ∷ []
  pub heard : hears 4 all (at 0 2 ∷ []) ≡ Ok (record { bits = set_of (0 ∷ []) })

pub record SevenEventShift : Type 0 where
  pub shift : (P : Rule) → FirstContact 2 P → Shift P
  pub questions : Questions
  pub limit_3 : (P : Rule) → FirstContact 3 P → GoesIn P 70 3 Merged (1 ∷ 2 ∷ 1 ∷ [])
  -- there are such policies
  pub contact : (limit : ℕ) → 1 ≤ limit → limit ≤ 64 → (P : Rule) × FirstContact limit P
