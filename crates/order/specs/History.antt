-- A history is the list of the records that a station has taken, as bytes, the newest first.
-- Held events, happened-before and the histories that a station can have are read from it alone.
use Rattle.std.specs.Prelude.{◌≡◌, ℕ, suc, ◌<◌, Bool, false, cond, not, ◌&&◌, ◌||◌, ◌⊎◌, List, [], ◌∷◌, ◌==◌, nat_le, nat_lt}
use Rattle.order.specs.Records.{Bytes, post, kind, number, event, partner, partner_post, partner_number, receives, form}
use Rattle.order.specs.declared.event.Event.{Event}

abbrev pub History : Type 0
History = List Bytes

-- r is one of the records taken
pub data Taken (r : Bytes) : History → Type 0 where
  newest : {h : History} → Taken r (r ∷ h)
  earlier : {h : History} {s : Bytes} → Taken r h → Taken r (s ∷ h)

-- r is the record from which e was taken
pub record TakenFrom (h : History) (r : Bytes) (e : Event) : Type 0 where
  pub taken : Taken r h
  pub names : event r ≡ e

-- An event is held once its record has been taken.
abbrev pub Held : History → Event → Type 0
Held h e = (r : Bytes) × TakenFrom h r e

-- e and f are of one post, and f is the later
pub record Later (h : History) (e f : Event) : Type 0 where
  pub from : Held h e
  pub to : Held h f
  pub one_post : e.post ≡ f.post
  pub less : e.number < f.number

-- e is a send, and f is the receive that names it
pub record Delivered (h : History) (e f : Event) : Type 0 where
  pub sent : Bytes
  pub send : TakenFrom h sent e
  pub sends : kind sent ≡ 1
  pub received : Bytes
  pub receive : TakenFrom h received f
  pub receiving : kind received ≡ 2
  pub from : partner received ≡ e

abbrev pub Step : History → Event → Event → Type 0
Step h e f = Later h e f ⊎ Delivered h e f

-- Happened-before: a list of two or more held events, each next to the one before by a step.
pub data Chain (h : History) : Event → Event → Type 0 where
  one : {e f : Event} → Step h e f → Chain h e f
  more : {e g f : Event} → Chain h e g → Step h g f → Chain h e f

-- e is f, or happened before it
abbrev pub Reaches : History → Event → Event → Type 0
Reaches h e f = (e ≡ f) ⊎ Chain h e f

-- exactly c of the records of a history have P
pub data Tally (P : Bytes → Type 0) : History → ℕ → Type 0 where
  none : Tally P [] 0
  counted : {r : Bytes} {h : History} {c : ℕ} → P r → Tally P h c → Tally P (r ∷ h) (suc c)
  passed : {r : Bytes} {h : History} {c : ℕ} → (P r → ⊥) → Tally P h c → Tally P (r ∷ h) c

-- c is f's entry for post q: how many events of q are f itself or happened before it
abbrev pub Entry : History → Event → ℕ → ℕ → Type 0
Entry h f q c = Tally (λ r. (post r ≡ q) × Reaches h (event r) f) h c

-- how many events of post p are held
unfoldable pub count : History → ℕ → ℕ
count [] p = 0
count (r ∷ h) p = cond (post r == p) (suc (count h p)) (count h p)

-- whether r is the record of event k of post p
abbrev pub is_of : Bytes → ℕ → ℕ → Bool
is_of r p k = post r == p && number r == k

-- the kind of event k of post p, or 0 where it is not held
unfoldable pub kind_at : History → ℕ → ℕ → ℕ
kind_at [] p k = 0
kind_at (r ∷ h) p k = cond (is_of r p k) (kind r) (kind_at h p k)

-- whether a receive that names event k of post p has been taken
unfoldable pub received : History → ℕ → ℕ → Bool
received [] p k = false
received (r ∷ h) p k = (receives r && (partner_post r == p && partner_number r == k)) || received h p k

-- whether event k of post p is held, by its number
abbrev pub held : History → ℕ → ℕ → Bool
held h p k = nat_lt 0 k && nat_le k (count h p)

-- the ground on which a receive's partner is refused, or 0
unfoldable pub partner_ground : History → Bytes → ℕ
partner_ground h r =
    cond (not (held h (partner_post r) (partner_number r))) 9
    (cond (not (kind_at h (partner_post r) (partner_number r) == 1)) 10
    (cond (received h (partner_post r) (partner_number r)) 11 0))

-- The ground, 3 to 11, on which a record is refused by a station of n posts with this history, or 0.
unfoldable pub ground : ℕ → History → Bytes → ℕ
ground n h r =
    cond (not (form n r == 0)) (form n r)
    (cond (not (number r == suc (count h (post r)))) 8
    (cond (receives r) (partner_ground h r) 0))

-- The histories that a station of n posts can have: no record is refused after the ones before it.
pub data Valid (n : ℕ) : History → Type 0 where
  start : Valid n []
  taken : {r : Bytes} {h : History} → Valid n h → ground n h r ≡ 0 → Valid n (r ∷ h)

-- each event that both hold was taken from equal bytes
abbrev pub Agree : History → History → Type 0
Agree g h = (r s : Bytes) → Taken r g → Taken s h → event r ≡ event s → r ≡ s
