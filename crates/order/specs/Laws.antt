-- The theorems on happened-before, for every history that a station can have.
use Rattle.std.specs.Prelude.{◌≡◌, ℕ, ◌<◌, ◌≤◌, true, ◌↔◌}
use Rattle.order.specs.History.{History, Taken, Held, Step, Chain, Reaches, Entry, Valid, Agree, held, kind_at, received}
use Rattle.order.specs.Records.{Bytes, kind, number, event, partner}
use Rattle.order.specs.Vectors.{vec}
use Rattle.order.specs.declared.event.Event.{Event}

-- What the grounds test by numbers is what the records say: which events are held, of what kind they are,
-- and which have been received.
pub record TestsTell : Type 0 where
  pub holding : (n : ℕ) (h : History) → Valid n h → (e : Event) → Held h e ↔ (held h e.post e.number ≡ true)
  pub kinds : (n : ℕ) (h : History) → Valid n h → (r : Bytes) → Taken r h → kind_at h (event r).post (event r).number ≡ kind r
  pub receiving : (h : History) (e : Event) → ((r : Bytes) × Taken r h × (kind r ≡ 2) × (partner r ≡ e)) ↔ (received h e.post e.number ≡ true)

-- The vector's entry is the count of the events of that post that are the event itself or happened before it,
-- and nothing else is.
abbrev pub VectorCounts : Type 0
VectorCounts =
    (n : ℕ) (h : History) → Valid n h → (f : Event) → Held h f → (q c : ℕ) → Entry h f q c ↔ (c ≡ vec h f.post f.number q)

-- An event is f or a chain leads from it to f exactly when its number is at most f's entry for its post.
abbrev pub NumberDecides : Type 0
NumberDecides =
    (n : ℕ) (h : History) → Valid n h → (e f : Event) → Held h e → Held h f → Reaches h e f ↔ (e.number ≤ vec h f.post f.number e.post)

-- Chains join.
abbrev pub ChainsJoin : Type 0
ChainsJoin = (h : History) (e f g : Event) → Chain h e f → Chain h f g → Chain h e g

-- No chain leads from an event to itself.
abbrev pub NoCycle : Type 0
NoCycle = (n : ℕ) (h : History) → Valid n h → (e : Event) → Chain h e e → ⊥

-- Every predecessor of a held event is held: the earlier events of its post, a receive's send,
-- and whatever a chain leads from.
pub record PredecessorsHeld : Type 0 where
  pub of_post : (n : ℕ) (h : History) → Valid n h → (r : Bytes) → Taken r h → (e : Event) → e.post ≡ (event r).post → 0 < e.number → e.number < number r → Held h e
  pub of_receive : (n : ℕ) (h : History) → Valid n h → (r : Bytes) → Taken r h → kind r ≡ 2 → Step h (partner r) (event r)
  pub of_chain : (h : History) (e f : Event) → Chain h e f → Held h e

-- In two histories in which each event that both hold was taken from equal bytes, a chain leads from e to f in one
-- exactly when it does in the other, for e and f that both hold.
abbrev pub HistoriesAgree : Type 0
HistoriesAgree =
    (m n : ℕ) (g h : History) → Valid m g → Valid n h → Agree g h
    → (e f : Event) → Held g e → Held h e → Held g f → Held h f → Chain g e f ↔ Chain h e f
