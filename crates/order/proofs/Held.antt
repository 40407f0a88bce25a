-- What the grounds leave, and events by their records and by their numbers.
use Rattle.std.proofs.Common.{◌≡◌, ℕ, zero, suc, ◌+◌, ◌*◌, ◌<◌, ◌≤◌, false, [], ◌∷◌, length, sym, refl, ap, ◌∙◌, subst, inl, inr, arith}
use Rattle.std.proofs.lemmas.Bool.{cases_Bool, eq-eqb, ne_eqb, eqb-true, cond-true, cond-false, cases_eq, cases_lt, and_parts}
use Rattle.std.proofs.lemmas.Bool.Decides.{nat_tests}
use Rattle.order.specs.History.{History, Taken, Held, Valid, count, kind_at, received, is_of, partner_ground, ground}
use Rattle.order.specs.History.Taken.{newest, earlier}
use Rattle.order.specs.History.Valid.{start, taken}
use Rattle.order.specs.Records.{Bytes, post, kind, number, event, partner_post, partner_number, form}
use Rattle.order.specs.declared.event.Event.{Event}

-- what a receive's partner is, once no ground refuses the receive
pub record Partnered (n : ℕ) (h : History) (r : Bytes) : Type 0 where
  pub inside : partner_post r < n
  pub apart : partner_post r ≡ post r → ⊥
  pub some : 0 < partner_number r
  pub most : partner_number r ≤ count h (partner_post r)
  pub sends : kind_at h (partner_post r) (partner_number r) ≡ 1
  pub fresh : received h (partner_post r) (partner_number r) ≡ false

-- what a record is that no ground refuses
pub record Passed (n : ℕ) (h : History) (r : Bytes) : Type 0 where
  pub next : number r ≡ suc (count h (post r))
  pub inside : post r < n
  pub known : kind r ≤ 2
  pub pair : kind r ≡ 2 → Partnered n h r

pub passed : (n : ℕ) (h : History) (r : Bytes) → ground n h r ≡ 0 → Passed n h r
unfolding ground form partner_ground
passed n h r g = record {
  next = grind (arith, nat_tests);
  inside = grind (arith, nat_tests);
  known = grind (arith, nat_tests);
  pair = λ two. record {
    inside = grind (arith, nat_tests);
    apart = λ e. grind (arith, nat_tests);
    some = grind (arith, nat_tests);
    most = grind (arith, nat_tests);
    sends = grind (arith, nat_tests);
    fresh = grind (arith, nat_tests);
  };
}

pub count_none : (p : ℕ) → count [] p ≡ 0
unfolding count
count_none p = refl

pub count_own : (r : Bytes) (h : History) → count (r ∷ h) (post r) ≡ suc (count h (post r))
unfolding count
count_own r h = cond-true _ _ _ (eq-eqb (post r) (post r) refl)

pub count_other : (r : Bytes) (h : History) (p : ℕ) → (post r ≡ p → ⊥) → count (r ∷ h) p ≡ count h p
unfolding count
count_other r h p ne = cond-false _ _ _ (ne_eqb (post r) p ne)

pub count_grows : (r : Bytes) (h : History) (p : ℕ) → count h p ≤ count (r ∷ h) p
count_grows r h p = elim (cases_eq (post r) p) [
  | inl e ↦ subst (λ (x : ℕ). count h x ≤ count (r ∷ h) x) e (omega (arith, count_own r h))
  | inr ne ↦ omega (arith, count_other r h p ne)
]

-- a taken record's number is one of its post's
pub taken_number : {n : ℕ} {h : History} {r : Bytes} → Valid n h → Taken r h → (0 < number r) × (number r ≤ count h (post r))
taken_number start t = elim t [ ]
taken_number {n} (taken {r = s} {h = h} v g) newest = omega (arith, (passed n h s g).next, count_own s h)
taken_number {r = r} (taken {r = s} {h = h} v g) (earlier t) =
    let both = taken_number v t in omega (arith, both.0, both.1, count_grows s h (post r))

pub held_number : {n : ℕ} {h : History} (e : Event) → Valid n h → Held h e → (0 < e.number) × (e.number ≤ count h e.post)
held_number {n} {h} e v held = subst (λ (f : Event). (0 < f.number) × (f.number ≤ count h f.post)) held.1.names (taken_number v held.1.taken)

event_path : (r : Bytes) {p k : ℕ} → post r ≡ p → number r ≡ k → event r ≡ record { post = p; number = k }
event_path r a b = λ i. record { post = a i; number = b i }

-- each number of a post up to its count is a held event's
pub find : {n : ℕ} {h : History} (p k : ℕ) → Valid n h → 0 < k → k ≤ count h p → Held h (record { post = p; number = k })
find p k start some most = absurd (omega (arith, count_none p))
find {n} p k (taken {r = r} {h = h} v g) some most =
    elim (cases_lt (count h p) k) [
      | inl above ↦ elim (cases_eq (post r) p) [
        | inl same ↦ (r, record { taken = newest; names = event_path r same (omega (arith, (passed n h r g).next, ap (count h) same, ap (count (r ∷ h)) same, count_own r h)) })
        | inr ne ↦ absurd (omega (arith, count_other r h p ne))
      ]
      | inr within ↦ let below = find p k v some within in (below.0, record { taken = earlier below.1.taken; names = below.1.names })
    ]

pub holds : {n : ℕ} {h : History} (e : Event) → Valid n h → 0 < e.number → e.number ≤ count h e.post → Held h e
holds e v = find e.post e.number v

not_newest : {n : ℕ} {h : History} (r : Bytes) {s : Bytes} → Valid n h → ground n h r ≡ 0 → Taken s h → post r ≡ post s → number r ≡ number s → ⊥
not_newest {n} {h} r {s} v g t p k = omega (arith, (passed n h r g).next, (taken_number v t).1, ap (count h) p)

-- an event has one record
pub taken_once : {n : ℕ} {h : History} {r s : Bytes} → Valid n h → Taken r h → Taken s h → post r ≡ post s → number r ≡ number s → r ≡ s
taken_once start t u p k = elim t [ ]
taken_once (taken v g) newest newest p k = refl
taken_once {r = r} (taken v g) newest (earlier u) p k = absurd (not_newest r v g u p k)
taken_once {s = s} (taken v g) (earlier t) newest p k = absurd (not_newest s v g t (sym p) (sym k))
taken_once (taken v g) (earlier t) (earlier u) p k = taken_once v t u p k

pub kind_of_taken : {n : ℕ} {h : History} {r : Bytes} → Valid n h → Taken r h → kind_at h (post r) (number r) ≡ kind r
unfolding kind_at
kind_of_taken start t = elim t [ ]
kind_of_taken {r = r} (taken {r = s} v g) newest = rw (eq-eqb (post r) (post r) refl, eq-eqb (number r) (number r) refl)
kind_of_taken {n} {r = r} (taken {r = s} {h = h} v g) (earlier t) =
    elim (cases_Bool (is_of s (post r) (number r))) [
      | inl e ↦ let parts = and_parts _ _ e in absurd (not_newest s v g t (eqb-true _ _ parts.0) (eqb-true _ _ parts.1))
      | inr e ↦ cond-false _ _ _ e ∙ kind_of_taken v t
    ]

-- how many events the posts below n have
unfoldable pub total : History → ℕ → ℕ
total h zero = 0
total h (suc n) = total h n + count h n

total_none : (n : ℕ) → total [] n ≡ 0
unfolding total
total_none zero = refl
total_none (suc n) = omega (arith, total_none n, count_none n)

total_past : (r : Bytes) (h : History) (n : ℕ) → n ≤ post r → total (r ∷ h) n ≡ total h n
unfolding total
total_past r h zero past = refl
total_past r h (suc n) past = omega (arith, total_past r h n (omega arith), count_other r h n (λ e. omega arith))

total_more : (r : Bytes) (h : History) (n : ℕ) → post r < n → total (r ∷ h) n ≡ suc (total h n)
unfolding total
total_more r h zero inside = absurd (omega arith)
total_more r h (suc n) inside = elim (cases_eq (post r) n) [
  | inl e ↦ omega (arith, total_past r h n (omega arith), count_own r h, ap (count (r ∷ h)) e, ap (count h) e)
  | inr ne ↦ omega (arith, total_more r h n (omega arith), count_other r h n ne)
]

-- each record is an event of one of the n posts
pub total-length : {n : ℕ} {h : History} → Valid n h → total h n ≡ length h
total-length {n} start = total_none n
total-length {n} (taken {r = r} {h = h} v g) = omega (arith, total_more r h n (passed n h r g).inside, total-length v)

pub total_most : (h : History) (n m : ℕ) → ((p : ℕ) → p < n → count h p ≤ m) → total h n ≤ n * m
unfolding total
total_most h zero m each = omega arith
total_most h (suc n) m each = omega (arith, total_most h n m (λ p l. each p (omega arith)), each n (omega arith))

-- so with at most m events at each post there are at most n times m records
pub length_most : {n : ℕ} {h : History} → Valid n h → (m : ℕ) → ((p : ℕ) → p < n → count h p ≤ m) → length h ≤ n * m
length_most {n} {h} v m each = omega (arith, total-length v, total_most h n m each)
