-- What append and mark answer and leave.
use Rattle.std.specs.Prelude.{◌≡◌, ℕ, ◌+◌, ◌-◌, ◌≤◌, false, List, [], ◌∷◌, ◌++◌, length, Result, MatchResult, ◌≢◌, slice_set}
use Rattle.order.specs.declared.event.Event.{Event}
use Rattle.keeper.specs.Answers.{ask_append, ask_mark}
use Rattle.keeper.specs.Piles.{Pile, Stamp, price, stamp_of, with_mark}
use Rattle.keeper.specs.declared.admit.Header.{Header}
use Rattle.keeper.specs.declared.fault.KeeperFault.{KeeperFault}

-- What an append leaves: the stamp at the end of the post's list, and the price paid. How far the space of the
-- other posts falls, up to the price, is the keeper's own.
pub record Appended (was is : Pile) (p : ℕ) (s : Stamp) : Type 0 where
  pub same_posts : is.posts ≡ was.posts
  pub own : is.stamps p ≡ was.stamps p ++ s ∷ []
  pub others : (q : ℕ) → (q ≢ p) → is.stamps q ≡ was.stamps q
  pub paid : is.space p + price (length s.entries) ≡ was.space p
  pub falls : (q : ℕ) → is.space q ≤ was.space q
  pub at_most : (q : ℕ) → was.space q ≤ is.space q + price (length s.entries)

-- What a mark leaves: stamp k of post p marked, and all else as it was.
pub record Marked (was is : Pile) (p k : ℕ) : Type 0 where
  pub same_posts : is.posts ≡ was.posts
  pub own : is.stamps p ≡ slice_set (was.stamps p) (k - 1) (with_mark (stamp_of was p k))
  pub others : (q : ℕ) → (q ≢ p) → is.stamps q ≡ was.stamps q
  pub same_space : (q : ℕ) → is.space q ≡ was.space q

-- a stamp as it goes in
abbrev pub unmarked : Header → List ℕ → Stamp
unmarked header entries = record { kind = header.kind; marked = false; cover = header.cover.bits; full = header.full; entries = entries }

pub record Appends (was is : Pile) (p : ℕ) (header : Header) (entries : List ℕ) (r : Result (Unit {0}) KeeperFault) : Type 0 where
  pub answer : r ≡ ask_append was p header.cover.bits (length entries)
  pub leaves : MatchResult r (λ _. Appended was is p (unmarked header entries)) (λ _. is ≡ was)

pub record Marks (was is : Pile) (e : Event) (r : Result (Unit {0}) KeeperFault) : Type 0 where
  pub answer : r ≡ ask_mark was e
  pub leaves : MatchResult r (λ _. Marked was is e.post e.number) (λ _. is ≡ was)
