-- Chains against vectors, and the theorems on happened-before.
use Rattle.std.proofs.Common.{◌≡◌, ℕ, suc, ◌<◌, ◌≤◌, min, true, eqb, [], ◌∷◌, sym, refl, ap, ◌∙◌, subst, subst₂, inl, inr, arith}
use Rattle.std.proofs.lemmas.Bool.{cases_eq, cases_lt, false≢true, or_cases, or_left, or_right, and_parts, and_from, eqb-true, eq-eqb, lt-ltb, le-leb, ltb-true, leb-true}
use Rattle.order.specs.History.{History, Taken, TakenFrom, Held, Delivered, Step, Chain, Reaches, Tally, Entry, Valid, Agree, count, kind_at, received, ground}
use Rattle.order.specs.History.Chain.{one, more}
use Rattle.order.specs.History.Taken.{newest, earlier}
use Rattle.order.specs.History.Tally.{none, counted, passed as skipped}
use Rattle.order.specs.History.Valid.{start, taken}
use Rattle.order.specs.Laws.{VectorCounts, NumberDecides, ChainsJoin, NoCycle, PredecessorsHeld, HistoriesAgree, TestsTell}
use Rattle.order.specs.Records.{Bytes, post, kind, number, event, partner, partner_post, partner_number}
use Rattle.order.specs.Vectors.{vec}
use Rattle.order.specs.declared.event.Event.{Event}
use Rattle.order.proofs.Held.{passed, count_none, count_own, count_other, taken_number, held_number, find, holds, kind_of_taken}
use Rattle.order.proofs.Vectors.{At, at, vec_self, vec_old, vec_closed, vec-count, vec_empty, vec_some, send_below, vec_own, entry_from}
use Rattle.order.proofs.Vectors.At.{new, old}

pub chain_join : ChainsJoin
chain_join h e f g c (one s) = more c s
chain_join h e f g c (more d s) = more (chain_join h e f _ c d) s

-- a longer history keeps what was taken
held_more : (r : Bytes) {h : History} {e : Event} → Held h e → Held (r ∷ h) e
held_more r t = (t.0, record { taken = earlier t.1.taken; names = t.1.names })

from_more : (r : Bytes) {h : History} {s : Bytes} {e : Event} → TakenFrom h s e → TakenFrom (r ∷ h) s e
from_more r t = record { taken = earlier t.taken; names = t.names }

delivered_more : (r : Bytes) {h : History} {e f : Event} → Delivered h e f → Delivered (r ∷ h) e f
delivered_more r d = record {
  sent = d.sent;
  send = from_more r d.send;
  sends = d.sends;
  received = d.received;
  receive = from_more r d.receive;
  receiving = d.receiving;
  from = d.from;
}

step_more : (r : Bytes) {h : History} {e f : Event} → Step h e f → Step (r ∷ h) e f
step_more r (inl l) = inl (record { from = held_more r l.from; to = held_more r l.to; one_post = l.one_post; less = l.less })
step_more r (inr d) = inr (delivered_more r d)

pub chain_more : (r : Bytes) {h : History} {e f : Event} → Chain h e f → Chain (r ∷ h) e f
chain_more r (one s) = one (step_more r s)
chain_more r (more c s) = more (chain_more r c) (step_more r s)

-- the record of a receive names a send before it
pub receive_step : {n : ℕ} {h : History} (r : Bytes) → Valid n h → Taken r h → kind r ≡ 2 → Delivered h (partner r) (event r)
receive_step r start t two = elim t [ ]
receive_step {n} {h = _} r (taken {h = h} v g) newest two =
    let ok = (passed n h r g).pair two in
    let send = find (partner_post r) (partner_number r) v ok.some ok.most in
    record {
      sent = send.0;
      send = from_more r send.1;
      sends = sym (kind_of_taken v send.1.taken) ∙ ap (λ (e : Event). kind_at h e.post e.number) send.1.names ∙ ok.sends;
      received = r;
      receive = record { taken = newest; names = refl };
      receiving = two;
      from = refl;
    }
receive_step r (taken {r = s} v g) (earlier t) two = delivered_more s (receive_step r v t two)

-- From chains to vectors: each step, and so each chain, only adds to what is known.

receive_below : {n : ℕ} {h : History} (r : Bytes) (q : ℕ) → Valid n h → Taken r h → kind r ≡ 2 → vec h (partner_post r) (partner_number r) q ≤ vec h (post r) (number r) q
receive_below r q start t two = elim t [ ]
receive_below {n} {h = _} r q (taken {h = h} v g) newest two =
    let ok = passed n h r g in
    omega (arith, vec_old r h (partner_post r) (partner_number r) q (ok.pair two).most, send_below r h q v g two, ap (λ (k : ℕ). vec (r ∷ h) (post r) k q) ok.next)
receive_below {n} r q (taken {r = s} {h = h} v g) (earlier t) two =
    let d = receive_step r v t two in
    let most = (held_number (partner r) v (d.sent, d.send)).1 in
    omega (arith, vec_old s h (partner_post r) (partner_number r) q most, vec_old s h (post r) (number r) q (taken_number v t).1, receive_below r q v t two)

step_below : {n : ℕ} {h : History} (e f : Event) (q : ℕ) → Valid n h → Step h e f → vec h e.post e.number q ≤ vec h f.post f.number q
step_below {n} {h} e f q v (inl l) =
    let most = (held_number f v l.to).1 in
    vec_closed v f.post f.number e.post e.number q most
    (omega (arith, l.less, vec_self h f.post f.number most, ap (vec h f.post f.number) l.one_post))
step_below {n} {h} e f q v (inr d) =
    subst₂ (λ (x y : Event). vec h x.post x.number q ≤ vec h y.post y.number q) d.from d.receive.names
    (receive_below d.received q v d.receive.taken d.receiving)

pub chain_below : {n : ℕ} {h : History} (e f : Event) (q : ℕ) → Valid n h → Chain h e f → vec h e.post e.number q ≤ vec h f.post f.number q
chain_below e f q v (one s) = step_below e f q v s
chain_below e f q v (more {g = g} c s) = omega (arith, chain_below e g q v c, step_below g f q v s)

-- Whatever a chain leads from is held.
step_from : {h : History} {e f : Event} → Step h e f → Held h e
step_from (inl l) = l.from
step_from (inr d) = (d.sent, d.send)

pub chain_from : (h : History) (e f : Event) → Chain h e f → Held h e
chain_from h e f (one s) = step_from s
chain_from h e f (more {g = g} c s) = chain_from h e g c

pub reaches_number : {n : ℕ} {h : History} (e f : Event) → Valid n h → Held h e → Reaches h e f → e.number ≤ vec h f.post f.number e.post
reaches_number {n} {h} e f v held (inl same) =
    subst (λ (x : Event). e.number ≤ vec h x.post x.number e.post) same (omega (arith, vec_self h e.post e.number (held_number e v held).1))
reaches_number {n} {h} e f v held (inr c) =
    omega (arith, vec_self h e.post e.number (held_number e v held).1, chain_below e f e.post v c)

-- From vectors to chains.

abbrev ev : ℕ → ℕ → Event
ev p k = record { post = p; number = k }

onward : {h : History} {e g f : Event} → Reaches h e g → Step h g f → Chain h e f
onward {h} {e} {g} {f} (inl same) s = one (subst (λ (x : Event). Step h x f) (sym same) s)
onward (inr c) s = more c s

reaches_more : (r : Bytes) {h : History} {e f : Event} → Reaches h e f → Reaches (r ∷ h) e f
reaches_more r (inl same) = inl same
reaches_more r (inr c) = inr (chain_more r c)

-- the step from an earlier event of a post to a later one
post_step : {n : ℕ} {h : History} (p j k : ℕ) → Valid n h → 0 < j → j < k → k ≤ count h p → Step h (ev p j) (ev p k)
post_step p j k v some less most = inl (record { from = find p j v some (omega arith); to = find p k v (omega arith) most; one_post = refl; less = less })

pub number_reaches : {n : ℕ} {h : History} → Valid n h → (p k q m : ℕ) → k ≤ count h p → 0 < m → m ≤ vec h p k q → Reaches h (ev q m) (ev p k)
number_reaches start p k q m within some reached = absurd (omega (arith, vec_empty p k q))
number_reaches {n} (taken {r = r} {h = h} v g) p k q m within some reached = go p k (at r h p k within) reached (λ p k w i. number_reaches v p k q m w some i)
  where
    last : ℕ
    last = count h (post r)

    whole : Valid n (r ∷ h)
    whole = taken v g

    newest_named : event r ≡ ev (post r) (suc last)
    newest_named = λ i. ev (post r) ((passed n h r g).next i)

    own : (m : ℕ) → 0 < m → m ≤ suc last → Reaches (r ∷ h) (ev (post r) m) (ev (post r) (suc last))
    own m some most = elim (cases_lt last m) [
      | inl above ↦ let e : m ≡ suc last = omega arith in inl (λ i. ev (post r) (e i))
      | inr below ↦ inr (one (post_step (post r) m (suc last) whole some (omega arith) (omega (arith, count_own r h))))
    ]

    other : (q m : ℕ) → 0 < m → (post r ≡ q → ⊥) → m ≤ vec (r ∷ h) (post r) (suc last) q
        → ((p k : ℕ) → k ≤ count h p → m ≤ vec h p k q → Reaches h (ev q m) (ev p k)) → Reaches (r ∷ h) (ev q m) (ev (post r) (suc last))
    other q m some ne i ih = elim (entry_from r h q m ne i some) [
      | inl j ↦
          let before = vec_some h (post r) last q m some j in
          inr (onward (reaches_more r (ih (post r) last (omega arith) j)) (post_step (post r) last (suc last) whole before (omega arith) (omega (arith, count_own r h))))
      | inr j ↦
          let step : Step (r ∷ h) (partner r) (ev (post r) (suc last)) = subst (λ (x : Event). Step (r ∷ h) (partner r) x) newest_named (inr (receive_step r whole newest j.0)) in
          inr (onward (reaches_more r (ih (partner_post r) (partner_number r) ((passed n h r g).pair j.0).most j.1)) step)
    ]

    go : (p k : ℕ) → At r h p k → m ≤ vec (r ∷ h) p k q → ((p k : ℕ) → k ≤ count h p → m ≤ vec h p k q → Reaches h (ev q m) (ev p k)) → Reaches (r ∷ h) (ev q m) (ev p k)
    go _ _ new i ih = elim (cases_eq (post r) q) [
      | inl same ↦
          let i' : m ≤ suc last = omega (arith, vec_own r h, ap (vec (r ∷ h) (post r) (suc last)) same) in
          subst (λ (x : ℕ). Reaches (r ∷ h) (ev x m) (ev (post r) (suc last))) same (own m some i')
      | inr ne ↦ other q m some ne i ih
    ]
    go p k (old below) i ih = reaches_more r (ih p k below (omega (arith, vec_old r h p k q below)))

pub number_decides : NumberDecides
number_decides n h v e f he hf =
    (reaches_number e f v he, number_reaches v f.post f.number e.post e.number (held_number f v hf).1 (held_number e v he).0)

-- The newest event has no successor, and what leads to an earlier one lies in the history before.

step_old : {n : ℕ} {h : History} (r : Bytes) (e f : Event) → Valid n h → ground n h r ≡ 0 → f.number ≤ count h f.post → Step (r ∷ h) e f → Step h e f
step_old {n} {h} r e f v g most (inl l) =
    let e_some = (held_number e (taken v g) l.from).0 in
    let e_most : e.number ≤ count h e.post = omega (arith, most, l.less, ap (count h) l.one_post) in
    inl (record { from = holds e v e_some e_most; to = holds f v (omega (arith, l.less)) most; one_post = l.one_post; less = l.less })
step_old {n} {h} r e f v g most (inr d) = go d.received d.receive.taken d.receive.names d.receiving d.from
  where
    go : (s : Bytes) → Taken s (r ∷ h) → event s ≡ f → kind s ≡ 2 → partner s ≡ e → Step h e f
    go _ newest named two from = absurd (omega (arith, (passed n h r g).next, subst (λ (x : Event). x.number ≤ count h x.post) (sym named) most))
    go s (earlier t) named two from = subst₂ (λ (x y : Event). Step h x y) from named (inr (receive_step s v t two))

chain_old : {n : ℕ} {h : History} (r : Bytes) (e f : Event) → Valid n h → ground n h r ≡ 0 → f.number ≤ count h f.post → Chain (r ∷ h) e f → Chain h e f
chain_old r e f v g most (one s) = one (step_old r e f v g most s)
chain_old r e f v g most (more {g = x} c s) =
    let s' = step_old r x f v g most s in
    more (chain_old r e x v g (held_number x v (step_from s')).1 c) s'

newest_last : {n : ℕ} {h : History} (r : Bytes) (f : Event) → Valid n h → ground n h r ≡ 0 → Step (r ∷ h) (ev (post r) (suc (count h (post r)))) f → ⊥
newest_last {n} {h} r f v g (inl l) =
    omega (arith, l.less, (held_number f (taken v g) l.to).1, ap (count (r ∷ h)) l.one_post, count_own r h)
newest_last {n} {h} r f v g (inr d) = go d.received d.receive.taken d.receiving d.from
  where
    go : (s : Bytes) → Taken s (r ∷ h) → kind s ≡ 2 → partner s ≡ ev (post r) (suc (count h (post r))) → ⊥
    go _ newest two from = ((passed n h r g).pair two).apart (ap (λ (x : Event). x.post) from)
    go s (earlier t) two from =
        let back = receive_step s v t two in
        let most = (held_number (partner s) v (back.sent, back.send)).1 in
        omega (arith, subst (λ (x : Event). x.number ≤ count h x.post) from most)

-- a chain begins with a step
first_step : {h : History} {e f : Event} → Chain h e f → (g : Event) × Step h e g
first_step {f = f} (one s) = (f, s)
first_step (more c s) = first_step c

acyclic : {n : ℕ} {h : History} → Valid n h → (p k : ℕ) → Chain h (ev p k) (ev p k) → ⊥
acyclic {n} start p k c = omega (arith, held_number {n = n} (ev p k) start (chain_from [] (ev p k) (ev p k) c), count_none p)
acyclic {n} (taken {r = r} {h = h} v g) p k c =
    go p k (at r h p k (held_number (ev p k) (taken v g) (chain_from (r ∷ h) (ev p k) (ev p k) c)).1) c (acyclic v p k)
  where
    go : (p k : ℕ) → At r h p k → Chain (r ∷ h) (ev p k) (ev p k) → (Chain h (ev p k) (ev p k) → ⊥) → ⊥
    go _ _ new c ih = let s = first_step c in newest_last r s.0 v g s.1
    go p k (old below) c ih = ih (chain_old r (ev p k) (ev p k) v g below c)

pub no_cycle : NoCycle
no_cycle n h v e c = acyclic v e.post e.number c

pub predecessors_held : PredecessorsHeld
predecessors_held = record {
  of_post = λ n h v r t e same some less. holds e v some (omega (arith, (taken_number v t).1, ap (count h) same));
  of_receive = λ n h v r t two. inr (receive_step r v t two);
  of_chain = chain_from;
}

-- Two histories.

agree_step : {m n : ℕ} {g h : History} (e f : Event) → Valid m g → Valid n h → Agree g h → Held h f → Step g e f → Step h e f
agree_step {m} {n} {g} {h} e f vg vh same hf (inl l) =
    let e_some = (held_number e vg l.from).0 in
    let f_most = (held_number f vh hf).1 in
    inl (record { from = holds e vh e_some (omega (arith, f_most, l.less, ap (count h) l.one_post)); to = hf; one_post = l.one_post; less = l.less })
agree_step {m} {n} {g} {h} e f vg vh same hf (inr d) =
    let s = hf.0 in
    let r≡s = same d.received s d.receive.taken hf.1.taken (d.receive.names ∙ sym hf.1.names) in
    let there = receive_step s vh hf.1.taken (sym (ap kind r≡s) ∙ d.receiving) in
    subst₂ (λ (x y : Event). Step h x y) (sym (ap partner r≡s) ∙ d.from) hf.1.names (inr there)

pub chain_agrees : {m n : ℕ} {g h : History} (e f : Event) → Valid m g → Valid n h → Agree g h → Held h f → Chain g e f → Chain h e f
chain_agrees e f vg vh same hf (one s) = one (agree_step e f vg vh same hf s)
chain_agrees e f vg vh same hf (more {g = x} c s) =
    let s' = agree_step x f vg vh same hf s in
    more (chain_agrees e x vg vh same (step_from s') c) s'

pub histories_agree : HistoriesAgree
histories_agree m n g h vg vh same e f ge he gf hf =
    (chain_agrees e f vg vh same hf, chain_agrees e f vh vg (λ r s t u x. sym (same s r u t (sym x))) gf)

-- Counting.

pub tally_unique : {P : Bytes → Type 0} {h : History} {c d : ℕ} → Tally P h c → Tally P h d → c ≡ d
tally_unique none none = refl
tally_unique (counted p t) (counted q u) = ap suc (tally_unique t u)
tally_unique (counted p t) (skipped q u) = absurd (q p)
tally_unique (skipped p t) (counted q u) = absurd (p q)
tally_unique (skipped p t) (skipped q u) = tally_unique t u

tally_map : {P Q : Bytes → Type 0} {h : History} {c : ℕ} → ((r : Bytes) → Taken r h → P r → Q r) → ((r : Bytes) → Taken r h → Q r → P r) → Tally P h c → Tally Q h c
tally_map to fro none = none
tally_map to fro (counted {r = r} p t) = counted (to r newest p) (tally_map (λ s u. to s (earlier u)) (λ s u. fro s (earlier u)) t)
tally_map to fro (skipped {r = r} p t) = skipped (λ q. p (fro r newest q)) (tally_map (λ s u. to s (earlier u)) (λ s u. fro s (earlier u)) t)

-- of the events of post q, those with a number up to k
tally_numbers : {n : ℕ} {h : History} → Valid n h → (q k : ℕ) → Tally (λ r. (post r ≡ q) × (number r ≤ k)) h (min k (count h q))
tally_numbers start q k = subst (λ (c : ℕ). Tally (λ r. (post r ≡ q) × (number r ≤ k)) [] c) (omega (arith, count_none q)) none
tally_numbers {n} (taken {r = r} {h = h} v g) q k = go (tally_numbers v q k)
  where
    P : Bytes → Type 0
    P r = (post r ≡ q) × (number r ≤ k)

    go : Tally P h (min k (count h q)) → Tally P (r ∷ h) (min k (count (r ∷ h) q))
    go below = elim (cases_eq (post r) q) [
      | inl same ↦
          let next : number r ≡ suc (count h q) = (passed n h r g).next ∙ ap (λ (x : ℕ). suc (count h x)) same in
          let more_of : count (r ∷ h) q ≡ suc (count h q) = sym (ap (count (r ∷ h)) same) ∙ count_own r h ∙ ap (λ (x : ℕ). suc (count h x)) same in
          elim (cases_lt k (number r)) [
            | inl above ↦ subst (λ (c : ℕ). Tally P (r ∷ h) c) (omega arith) (skipped {r = r} (λ w. omega (arith, w.1)) below)
            | inr within ↦ subst (λ (c : ℕ). Tally P (r ∷ h) c) (omega arith) (counted {r = r} (same, within) below)
          ]
      | inr ne ↦ subst (λ (c : ℕ). Tally P (r ∷ h) c) (omega (arith, count_other r h q ne)) (skipped {r = r} (λ w. ne w.0) below)
    ]

pub vector_counts : VectorCounts
vector_counts n h v f hf q c = (λ t. tally_unique t counts, λ e. subst (λ (x : ℕ). Entry h f q x) (sym e) counts)
  where
    most : vec h f.post f.number q ≤ count h q
    most = vec-count v f.post f.number q (held_number f v hf).1

    counts : Entry h f q (vec h f.post f.number q)
    counts = subst (λ (x : ℕ). Entry h f q x) (omega (arith, most)) (tally_map
        (λ r t w. (
          w.0,
          number_reaches v f.post f.number (post r) (number r) (held_number f v hf).1 (taken_number v t).0
              (subst (λ (x : ℕ). number r ≤ vec h f.post f.number x) (sym w.0) w.1),
        ))
        (λ r t w. (w.0, subst (λ (x : ℕ). number r ≤ vec h f.post f.number x) w.0 (reaches_number (event r) f v (r, record { taken = t; names = refl }) w.1)))
        (tally_numbers v q (vec h f.post f.number q)))

-- What the tests of the grounds tell.

received_taken : (h : History) (p k : ℕ) → received h p k ≡ true → (r : Bytes) × Taken r h × (kind r ≡ 2) × (partner r ≡ ev p k)
unfolding received
received_taken [] p k e = absurd (false≢true e)
received_taken (r ∷ h) p k e =
    elim (or_cases _ _ e) [
      | inl here ↦
          let parts = and_parts _ _ here in
          let names = and_parts (eqb (partner_post r) p) (eqb (partner_number r) k) parts.1 in
          let same_post = eqb-true (partner_post r) p names.0 in
          let same_number = eqb-true (partner_number r) k names.1 in
          (r, newest, eqb-true _ _ parts.0, λ i. ev (same_post i) (same_number i))
      | inr there ↦ let t = received_taken h p k there in (t.0, earlier t.1, t.2, t.3)
    ]

taken_received : (r : Bytes) {h : History} → Taken r h → kind r ≡ 2 → received h (partner_post r) (partner_number r) ≡ true
unfolding received
taken_received r newest two =
    or_left _ _ (and_from _ _ (eq-eqb (kind r) 2 two) (and_from _ _ (eq-eqb (partner_post r) (partner_post r) refl) (eq-eqb (partner_number r) (partner_number r) refl)))
taken_received r (earlier t) two = or_right _ _ (taken_received r t two)

pub tests_tell : TestsTell
tests_tell = record {
  holding = λ n h v e. (
    λ t. let both = held_number e v t in and_from _ _ (lt-ltb 0 e.number both.0) (le-leb e.number (count h e.post) both.1),
    λ t. let both = and_parts _ _ t in holds e v (ltb-true 0 e.number both.0) (leb-true e.number (count h e.post) both.1),
  );
  kinds = λ n h v r t. kind_of_taken v t;
  receiving = λ h e. (
    λ t. subst (λ (x : Event). received h x.post x.number ≡ true) t.3 (taken_received t.0 t.1 t.2),
    received_taken h e.post e.number,
  );
}
