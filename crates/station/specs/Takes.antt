-- What a take answers, and what it leaves, by the history, the policy's meaning and the space of the record's post.
use Rattle.std.specs.Prelude.{◌≡◌, ℕ, ◌+◌, ◌≤◌, true, false, cond, ◌∷◌, Ok, Err, Result, ◌==◌, nat_le}
use Rattle.cluster.specs.Clusters.{outcome, cover}
use Rattle.cluster.specs.Rules.{Rule}
use Rattle.keeper.specs.Piles.{price}
use Rattle.keeper.specs.declared.fault.KeeperFault.TheVariants.{NoSpace}
use Rattle.order.specs.History.{History, ground, partner_ground}
use Rattle.order.specs.Posts.{size}
use Rattle.order.specs.Reads.{record_of}
use Rattle.order.specs.Records.{Bytes}
use Rattle.order.specs.declared.«record».Record.{Record}
use Rattle.order.specs.declared.«record».RecordFault.TheVariants.{WrongLength, UnknownKind, UnknownPost, StrayBytes, WrongPartner}
use Rattle.station.specs.declared.faults.TakeFault.{TakeFault}
use Rattle.station.specs.declared.faults.TakeFault.TheVariants.{OutOfTurn, PartnerNotHeld, PartnerNotSend, AlreadyReceived, Keeper}
use Rattle.station.specs.declared.faults.TakeFault.TheVariants.{Record as IllFormed}
use Rattle.station.specs.declared.faults.Taken.{Taken}

-- the refusal on each ground from 3 to 11
abbrev pub refusal : ℕ → TakeFault
refusal g =
    cond (g == 3) (IllFormed WrongLength)
    (cond (g == 4) (IllFormed UnknownKind)
    (cond (g == 5) (IllFormed UnknownPost)
    (cond (g == 6) (IllFormed StrayBytes)
    (cond (g == 7) (IllFormed WrongPartner)
    (cond (g == 8) OutOfTurn
    (cond (g == 9) PartnerNotHeld
    (cond (g == 10) PartnerNotSend AlreadyReceived)))))))

-- what a ground comes to: a refusal, or at 0 an answer
unfoldable pub verdict : {A : Type 0} → ℕ → A → Result A TakeFault
verdict g answer = elim (g == 0) [ true ↦ Ok answer | false ↦ Err (refusal g) ]

-- what is found of a record before anything is decided on its stamp
abbrev pub judged : ℕ → History → Bytes → Result Record TakeFault
judged n h r = verdict (ground n h r) (record_of r)

-- what is found of a receive's partner
abbrev pub partner_judged : History → Bytes → Result (Unit {0}) TakeFault
partner_judged h r = verdict (partner_ground h r) tt

-- The answer of a take: the first ground that refuses the record, else a lack of space, else what the cluster rule
-- makes of it and the size of its cover.
abbrev pub takes : Rule → ℕ → History → ℕ → Bytes → Result Taken TakeFault
takes P n h space r =
    let g = ground n h r in
    elim (g == 0) [
      | true ↦
          let entries = size (cover P n h r) in
          elim (nat_le (price entries) space) [
            | true ↦ Ok (record { outcome = outcome P h r; entries = entries })
            | false ↦ Err (Keeper (NoSpace (price entries) space))
          ]
      | false ↦ Err (refusal g)
    ]

-- the history after a take
abbrev pub after_take : History → Bytes → Result Taken TakeFault → History
after_take h r (Ok t) = r ∷ h
after_take h r (Err f) = h

-- How space moves when post p pays a price: its own falls by exactly that, and every other by at most that.
pub record Pays (p price : ℕ) (was is : ℕ → ℕ) : Type 0 where
  pub own : is p + price ≡ was p
  pub falls : (q : ℕ) → is q ≤ was q
  pub at_most : (q : ℕ) → was q ≤ is q + price

-- how space moves over a take: not at all if it is refused
abbrev pub Moves : ℕ → (ℕ → ℕ) → Result Taken TakeFault → (ℕ → ℕ) → Type 0
Moves p was (Ok t) is = Pays p (price t.entries) was is
Moves p was (Err f) is = is ≡ was
