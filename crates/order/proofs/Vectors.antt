-- The vectors of a history.
use Rattle.std.proofs.Common.{◌≡◌, ℕ, suc, ◌<◌, ◌≤◌, max, Bool, true, false, eqb, ◌⊎◌, [], ◌∷◌, refl, ap, ◌∙◌, subst, subst₂, inl, inr, arith}
use Rattle.std.proofs.lemmas.Bool.{eq-eqb, ne_eqb, cases_eq, cases_lt, and_from, and_right, true≢false, false≢true}
use Rattle.order.specs.History.{History, Valid, count, ground}
use Rattle.order.specs.History.Valid.{start, taken}
use Rattle.order.specs.Records.{Bytes, post, kind, partner_post, partner_number, receives}
use Rattle.order.specs.Vectors.{is_new, vec}
use Rattle.order.proofs.Held.{passed, count_own, count_other, count_grows}

-- what a record brings to post q's entry from its send; nothing unless it is a receive
unfoldable pub brought : Bytes → History → ℕ → ℕ
brought r h q = elim (receives r) [ true ↦ vec h (partner_post r) (partner_number r) q | false ↦ 0 ]

-- An event of a history is the newest or one of those before it.
pub data At (r : Bytes) (h : History) : ℕ → ℕ → Type 0 where
  new : At r h (post r) (suc (count h (post r)))
  old : {p k : ℕ} → k ≤ count h p → At r h p k

pub at : (r : Bytes) (h : History) (p k : ℕ) → k ≤ count (r ∷ h) p → At r h p k
at r h p k within =
    elim (cases_lt (count h p) k) [
      | inl above ↦ elim (cases_eq (post r) p) [
        | inl same ↦ let next : suc (count h (post r)) ≡ k = omega (arith, ap (count h) same, ap (count (r ∷ h)) same, count_own r h) in subst₂ (λ (q m : ℕ). At r h q m) same next new
        | inr ne ↦ absurd (omega (arith, count_other r h p ne))
      ]
      | inr below ↦ old below
    ]

-- a choice by a test whose answer is known
pub when : {A : Type 0} (b : Bool) (x y : A) → b ≡ true → (elim b as (λ _. A) [ true ↦ x | false ↦ y ]) ≡ x
when true x y e = refl
when false x y e = absurd (false≢true e)

pub unless : {A : Type 0} (b : Bool) (x y : A) → b ≡ false → (elim b as (λ _. A) [ true ↦ x | false ↦ y ]) ≡ y
unless true x y e = absurd (true≢false e)
unless false x y e = refl

pub newest_is_new : (r : Bytes) (h : History) → is_new r h (post r) (suc (count h (post r))) ≡ true
newest_is_new r h = and_from _ _ (eq-eqb (post r) (post r) refl) (eq-eqb (suc (count h (post r))) (suc (count h (post r))) refl)

pub held_not_new : (r : Bytes) (h : History) (p k : ℕ) → k ≤ count h p → is_new r h p k ≡ false
held_not_new r h p k within = and_right (eqb (post r) p) (eqb k (suc (count h p))) (ne_eqb k (suc (count h p)) (omega arith))

pub vec_own : (r : Bytes) (h : History) → vec (r ∷ h) (post r) (suc (count h (post r))) (post r) ≡ suc (count h (post r))
unfolding vec
vec_own r h = when _ _ _ (newest_is_new r h) ∙ when _ _ _ (eq-eqb (post r) (post r) refl)

pub vec_other : (r : Bytes) (h : History) (q : ℕ) → (post r ≡ q → ⊥)
    → vec (r ∷ h) (post r) (suc (count h (post r))) q ≡ max (vec h (post r) (count h (post r)) q) (brought r h q)
unfolding vec brought
vec_other r h q ne = when _ _ _ (newest_is_new r h) ∙ unless _ _ _ (ne_eqb (post r) q ne)

pub vec_old : (r : Bytes) (h : History) (p k q : ℕ) → k ≤ count h p → vec (r ∷ h) p k q ≡ vec h p k q
unfolding vec
vec_old r h p k q within = unless _ _ _ (held_not_new r h p k within)

pub vec_empty : (p k q : ℕ) → vec [] p k q ≡ 0
unfolding vec
vec_empty p k q = refl

pub vec_none : (h : History) (p q : ℕ) → vec h p 0 q ≡ 0
unfolding vec
vec_none [] p q = refl
vec_none (r ∷ h) p q = vec_old r h p 0 q (omega arith) ∙ vec_none h p q

-- an event with an entry above 0 has a number above 0
pub vec_some : (h : History) (p k q m : ℕ) → 0 < m → m ≤ vec h p k q → 0 < k
vec_some h p k q m some within = elim (cases_eq k 0) [
  | inl e ↦ absurd (omega (arith, vec_none h p q, ap (λ (x : ℕ). vec h p x q) e))
  | inr ne ↦ omega arith
]

pub brought_by : (r : Bytes) (h : History) (q : ℕ) → kind r ≡ 2 → brought r h q ≡ vec h (partner_post r) (partner_number r) q
unfolding brought
brought_by r h q two = when _ _ _ (eq-eqb (kind r) 2 two)

pub brought_none : (r : Bytes) (h : History) (q : ℕ) → (kind r ≡ 2 → ⊥) → brought r h q ≡ 0
unfolding brought
brought_none r h q ne = unless _ _ _ (ne_eqb (kind r) 2 ne)

-- an event's own entry is its number
pub vec_self : (h : History) (p k : ℕ) → k ≤ count h p → vec h p k p ≡ k
unfolding vec count
vec_self [] p k within = omega arith
vec_self (r ∷ h) p k within = go p k (at r h p k within) (vec_self h p k)
  where
    go : (p k : ℕ) → At r h p k → (k ≤ count h p → vec h p k p ≡ k) → vec (r ∷ h) p k p ≡ k
    go _ _ new ih = vec_own r h
    go p k (old below) ih = vec_old r h p k p below ∙ ih below

-- an entry counts held events only
pub vec-count : {n : ℕ} {h : History} → Valid n h → (p k q : ℕ) → k ≤ count h p → vec h p k q ≤ count h q
unfolding vec
vec-count start p k q within = omega arith
vec-count {n} (taken {r = r} {h = h} v g) p k q within = go p k (at r h p k within) (λ p k w. vec-count v p k q w)
  where
    brought_count : ((p k : ℕ) → k ≤ count h p → vec h p k q ≤ count h q) → brought r h q ≤ count h q
    brought_count ih = elim (cases_eq (kind r) 2) [
      | inl two ↦ omega (arith, brought_by r h q two, ih (partner_post r) (partner_number r) ((passed n h r g).pair two).most)
      | inr ne ↦ omega (arith, brought_none r h q ne)
    ]

    go : (p k : ℕ) → At r h p k → ((p k : ℕ) → k ≤ count h p → vec h p k q ≤ count h q) → vec (r ∷ h) p k q ≤ count (r ∷ h) q
    go _ _ new ih = elim (cases_eq (post r) q) [
      | inl same ↦ subst (λ (x : ℕ). vec (r ∷ h) (post r) (suc (count h (post r))) x ≤ count (r ∷ h) x) same (omega (arith, vec_own r h, count_own r h))
      | inr ne ↦ omega (arith, vec_other r h q ne, count_other r h q ne, brought_count ih, ih (post r) (count h (post r)) (omega arith))
    ]
    go p k (old below) ih = omega (arith, vec_old r h p k q below, ih p k below, count_grows r h q)

-- The newest event knows all that its post's preceding event knows, and all that its send knows.
pub previous_below : (r : Bytes) (h : History) (q : ℕ) → vec h (post r) (count h (post r)) q ≤ vec (r ∷ h) (post r) (suc (count h (post r))) q
previous_below r h q = elim (cases_eq (post r) q) [
  | inl same ↦ subst (λ (x : ℕ). vec h (post r) (count h (post r)) x ≤ vec (r ∷ h) (post r) (suc (count h (post r))) x) same
      (omega (arith, vec_own r h, vec_self h (post r) (count h (post r)) (omega arith)))
  | inr ne ↦ omega (arith, vec_other r h q ne)
]

pub send_below : {n : ℕ} (r : Bytes) (h : History) (q : ℕ) → Valid n h → ground n h r ≡ 0 → kind r ≡ 2
    → vec h (partner_post r) (partner_number r) q ≤ vec (r ∷ h) (post r) (suc (count h (post r))) q
send_below {n} r h q v g two = elim (cases_eq (post r) q) [
  | inl same ↦ subst (λ (x : ℕ). vec h (partner_post r) (partner_number r) x ≤ vec (r ∷ h) (post r) (suc (count h (post r))) x) same
      (omega (arith, vec_own r h, vec-count v (partner_post r) (partner_number r) (post r) ((passed n h r g).pair two).most))
  | inr ne ↦ omega (arith, vec_other r h q ne, brought_by r h q two)
]

-- Where the newest event's entry for another post comes from.
pub entry_from : (r : Bytes) (h : History) (q m : ℕ) → (post r ≡ q → ⊥) → m ≤ vec (r ∷ h) (post r) (suc (count h (post r))) q → 0 < m
    → (m ≤ vec h (post r) (count h (post r)) q) ⊎ ((kind r ≡ 2) × (m ≤ vec h (partner_post r) (partner_number r) q))
entry_from r h q m ne within some =
    elim (cases_lt (vec h (post r) (count h (post r)) q) m) [
      | inl above ↦ elim (cases_eq (kind r) 2) [
        | inl two ↦ inr (two, omega (arith, vec_other r h q ne, brought_by r h q two))
        | inr no_receive ↦ absurd (omega (arith, vec_other r h q ne, brought_none r h q no_receive))
      ]
      | inr inside ↦ inl inside
    ]

-- What an event has reached, it knows all of.
pub vec_closed : {n : ℕ} {h : History} → Valid n h → (p k q m s : ℕ) → k ≤ count h p → m ≤ vec h p k q → vec h q m s ≤ vec h p k s
vec_closed start p k q m s within reached = omega (arith, vec_empty q m s)
vec_closed {n} (taken {r = r} {h = h} v g) p k q m s within reached = go p k (at r h p k within) reached (λ p k q m w i. vec_closed v p k q m s w i)
  where
    last : ℕ
    last = count h (post r)

    own : (m : ℕ) → m ≤ suc last → ((q m : ℕ) → m ≤ vec h (post r) last q → vec h q m s ≤ vec h (post r) last s)
        → vec (r ∷ h) (post r) m s ≤ vec (r ∷ h) (post r) (suc last) s
    own m within ih = elim (cases_lt last m) [
      | inl above ↦ let e : m ≡ suc last = omega arith in omega (arith, ap (λ (x : ℕ). vec (r ∷ h) (post r) x s) e)
      | inr below ↦ omega (arith, vec_old r h (post r) m s below, ih (post r) m (omega (arith, vec_self h (post r) last (omega arith))), previous_below r h s)
    ]

    other : (q m : ℕ) → 0 < m → (post r ≡ q → ⊥) → m ≤ vec (r ∷ h) (post r) (suc last) q
        → ((p k q m : ℕ) → k ≤ count h p → m ≤ vec h p k q → vec h q m s ≤ vec h p k s) → vec (r ∷ h) q m s ≤ vec (r ∷ h) (post r) (suc last) s
    other q m some ne i ih = elim (entry_from r h q m ne i some) [
      | inl j ↦ omega (arith, vec_old r h q m s (omega (arith, vec-count v (post r) last q (omega arith))), ih (post r) last q m (omega arith) j, previous_below r h s)
      | inr j ↦
          let most = ((passed n h r g).pair j.0).most in
          let pp = partner_post r in
          let pn = partner_number r in
          omega (arith, vec_old r h q m s (omega (arith, j.1, vec-count v pp pn q most)), ih pp pn q m most j.1, send_below r h s v g j.0)
    ]

    go : (p k : ℕ) → At r h p k → m ≤ vec (r ∷ h) p k q → ((p k q m : ℕ) → k ≤ count h p → m ≤ vec h p k q → vec h q m s ≤ vec h p k s)
        → vec (r ∷ h) q m s ≤ vec (r ∷ h) p k s
    go _ _ new i ih = elim (cases_eq (post r) q) [
      | inl same ↦
          let i' : m ≤ suc last = omega (arith, vec_own r h, ap (vec (r ∷ h) (post r) (suc last)) same) in
          subst (λ (x : ℕ). vec (r ∷ h) x m s ≤ vec (r ∷ h) (post r) (suc last) s) same (own m i' (λ q m j. ih (post r) last q m (omega arith) j))
      | inr ne ↦ elim (cases_lt 0 m) [
        | inl some ↦ other q m some ne i ih
        | inr zero ↦ let e : m ≡ 0 = omega arith in omega (arith, ap (λ (x : ℕ). vec (r ∷ h) q x s) e, vec_none (r ∷ h) q s)
      ]
    ]
    go p k (old below) i ih =
        let i' : m ≤ vec h p k q = omega (arith, vec_old r h p k q below) in
        omega (arith, vec_old r h p k s below, vec_old r h q m s (omega (arith, vec-count v p k q below)), ih p k q m below i')
