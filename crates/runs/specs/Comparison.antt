-- The comparison of two stations.
use Rattle.std.specs.Prelude.{◌≡◌, ℕ, ◌<◌, ◌⊎◌, ◌↔◌, List, [], ◌∷◌, map, Ok, Result}
use Rattle.cluster.specs.Rules.{Rule, SameRule}
use Rattle.keeper.specs.Piles.{Pile, held_count}
use Rattle.order.specs.History.{History, Held, Chain, Agree}
use Rattle.order.specs.declared.event.Event.{Event}
use Rattle.runs.specs.Calls.{Call, Reply, ForSpace, barred}
use Rattle.runs.specs.Calls.Call.{relate}
use Rattle.runs.specs.Calls.Reply.{related}
use Rattle.runs.specs.Runs.{Asked, Run}
use Rattle.station.specs.Stands.{Unused}
use Rattle.station.specs.declared.asks.AskFault.{AskFault}
use Rattle.station.specs.declared.asks.Relation.{Relation}
use Rattle.station.specs.declared.asks.Relation.TheVariants.{Before, After, Concurrent}

-- The answer to relate is the one that the chains give.
pub record ByChains (h : History) (e f : Event) (a : Result Relation AskFault) : Type 0 where
  pub before : (a ≡ Ok Before) ↔ Chain h e f
  pub after : (a ≡ Ok After) ↔ Chain h f e
  pub concurrent : (a ≡ Ok Concurrent) ↔ ((Chain h e f → ⊥) × (Chain h f e → ⊥))

-- Both relate alike any two events that both hold, if each event that both hold was taken from equal bytes: after
-- any turns of the one and any of the other.
abbrev pub RelateAlike : List Call → List Reply → List Call → List Reply → Type 0
RelateAlike cs xs ds ys =
    (e f : Event) (a b : Result Relation AskFault) (g h : History)
    → Asked (relate e f) (related a) g [] cs xs → Asked (relate e f) (related b) h [] ds ys
    → Agree g h → Held g e → Held h e → Held g f → Held h f
    → (a ≡ b) × ByChains g e f a

-- Answers that are alike turn by turn, before the first in which either refuses for space.
pub data AlikeUntilSpace : List Reply → List Reply → Type 0 where
  end : AlikeUntilSpace [] []
  space : {a b : Reply} {xs ys : List Reply} → ForSpace a ⊎ ForSpace b → AlikeUntilSpace (a ∷ xs) (b ∷ ys)
  alike : {a b : Reply} {xs ys : List Reply} → a ≡ b → AlikeUntilSpace xs ys → AlikeUntilSpace (a ∷ xs) (b ∷ ys)

-- Some post has a stamp.
abbrev pub Used : Pile → Type 0
Used m = (p : ℕ) × (p < m.posts) × (0 < held_count m p)

-- From its opening over a pile, a station answered calls: over an unused pile as they are laid down, over a used one by
-- the refusal of each.
pub record Each (P : Rule) (m : Pile) (cs : List Call) (xs : List Reply) : Type 0 where
  pub unused : Unused m → Run P m.posts [] m.space cs xs
  pub used : Used m → xs ≡ map barred cs

-- Two stations are opened alike: policies of equal meaning, and piles for the same number of posts, both unused or both
-- used.
pub record OpenedAlike (P Q : Rule) (m n : Pile) : Type 0 where
  pub same_rule : SameRule P Q
  pub same_posts : m.posts ≡ n.posts
  pub both : (Unused m × Unused n) ⊎ (Used m × Used n)

-- The comparison of two stations over piles without stamps: no premise is left.
pub record Compared (P Q : Rule) (m n : Pile) (cs ds : List Call) (xs ys : List Reply) : Type 0 where
  pub relate : RelateAlike cs xs ds ys
  pub equal_turns : SameRule P Q → m.posts ≡ n.posts → cs ≡ ds → AlikeUntilSpace xs ys
  pub each : Run P m.posts [] m.space cs xs × Run Q n.posts [] n.space ds ys
