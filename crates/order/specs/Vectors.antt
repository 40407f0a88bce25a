-- The full vector of an event by the recursion of Fidge and Mattern: a post's own entry rises by one with each
-- event, and a receive takes the larger of the entries of its post's preceding event and of its send.
use Rattle.std.specs.Prelude.{ℕ, suc, max, Bool, true, false, ◌&&◌, [], ◌∷◌, ◌==◌}
use Rattle.order.specs.History.{History, count}
use Rattle.order.specs.Records.{Bytes, post, partner_post, partner_number, receives}

-- whether event k of post p is the one that r adds to h
abbrev pub is_new : Bytes → History → ℕ → ℕ → Bool
is_new r h p k = post r == p && k == suc (count h p)

-- the entry for post q of event k of post p; 0 where it is not held
unfoldable pub vec : History → ℕ → ℕ → ℕ → ℕ
vec [] p k q = 0
vec (r ∷ h) p k q =
    elim (is_new r h p k) [
      | true ↦ elim (p == q) [
        | true ↦ k
        | false ↦ max (vec h p (count h p) q) (elim (receives r) [ true ↦ vec h (partner_post r) (partner_number r) q | false ↦ 0 ])
      ]
      | false ↦ vec h p k q
    ]
