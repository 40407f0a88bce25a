-- What a table of exchanges tells of a history, and that its sum over two clusters is their exchanges.
use Rattle.std.proofs.Common.{◌≡◌, ℕ, zero, suc, ◌+◌, ◌-◌, ◌^◌, ◌<◌, ◌≤◌, true, false, cond, ◌&&◌, eqb, ltb, ◌⊎◌, List, [], ◌∷◌, length, get_or, replicate, map, fold, sum, sym, refl, ap, ◌∙◌, inl, inr, add-one, arith}
use Rattle.std.proofs.lemmas.List.{get_or-replicate}
use Rattle.std.proofs.lemmas.List.FromFn.{sum_by-map-range_with_len_more}
use Rattle.std.proofs.lemmas.List.Sums.{sum_by-cons}
use Rattle.std.specs.List.{range_with_len}
use Rattle.std.proofs.lemmas.Bool.{and_parts, cond_both, ltb-true, eqb-true}
use Rattle.std.proofs.lemmas.Bool.Decides.{nat_tests}
use Rattle.order.specs.History.{History}
use Rattle.order.specs.Records.{Bytes, post, partner_post, receives}
use Rattle.cluster.specs.Clusters.{crosses, exchanges}
use Rattle.cluster.specs.declared.exchanges.Exchanges.{Exchanges}
use Rattle.cluster.specs.Counts.{Tells, arrivals, arrives, capped, linked, linked_count, noted, pair_sum, row_sum, sum_below, told}

-- ---- sums

sum_same : (n : ℕ) (f g : ℕ → ℕ) → ((k : ℕ) → f k ≡ g k) → sum_below n f ≡ sum_below n g
unfolding sum_below
sum_same zero f g e = refl
sum_same (suc n) f g e = omega (arith, sum_same n f g e, e n)

sum_zero : (n : ℕ) (f : ℕ → ℕ) → ((k : ℕ) → f k ≡ 0) → sum_below n f ≡ 0
unfolding sum_below
sum_zero zero f e = refl
sum_zero (suc n) f e = omega (arith, sum_zero n f e, e n)

sum_add : (n : ℕ) (f g : ℕ → ℕ) → sum_below n (λ k. f k + g k) ≡ sum_below n f + sum_below n g
unfolding sum_below
sum_add zero f g = refl
sum_add (suc n) f g = omega (arith, sum_add n f g)

-- a sum in which one place counts
sum_one : (n x v : ℕ) → sum_below n (λ k. cond (eqb x k) v 0) ≡ cond (ltb x n) v 0
unfolding sum_below
sum_one zero x v = grind (arith, nat_tests)
sum_one (suc n) x v = let ih = sum_one n x v in grind (arith, nat_tests)

-- ---- the chains: a sum that stops at the largest count

-- each term may be cut to what a count holds, or not
fold_capped
    : (f g : ℕ → ℕ) → ((x : ℕ) → capped (f x) ≡ capped (g x)) → (xs : List ℕ) (s : ℕ) → fold (λ a x. capped (a + x)) (capped s) (map f xs) ≡ capped (s + sum (map g xs))
fold_capped f g same [] s = omega arith
fold_capped f g same (x ∷ xs) s =
    ap (λ a. fold (λ a x. capped (a + x)) a (map f xs)) (omega (arith, same x)) ∙ fold_capped f g same xs (s + g x) ∙ omega (arith, sum_by-cons (λ n. n) (g x) (map g xs))

sum_range : (n : ℕ) (f : ℕ → ℕ) → sum (map f (range_with_len 0 n)) ≡ sum_below n f
unfolding sum_below
sum_range zero f = refl
sum_range (suc n) f = omega (arith, ap (λ k. sum (map f (range_with_len 0 k))) (add-one n), sum_by-map-range_with_len_more (λ x. x) f 0 n n (omega arith), sum_range n f)

chained : (f g : ℕ → ℕ) → ((x : ℕ) → capped (f x) ≡ capped (g x)) → fold (λ a x. capped (a + x)) 0 (map f (range_with_len 0 64)) ≡ capped (sum_below 64 g)
chained f g same = fold_capped f g same (range_with_len 0 64) 0 ∙ omega (arith, sum_range 64 g)

pub chained_row : (f : ℕ → ℕ) → fold (λ a x. capped (a + x)) 0 (map f (range_with_len 0 64)) ≡ capped (sum_below 64 f)
chained_row f = chained f f (λ _. refl)

pub chained_rows : (f : ℕ → ℕ) → fold (λ a x. capped (a + x)) 0 (map (λ p. capped (f p)) (range_with_len 0 64)) ≡ capped (sum_below 64 f)
chained_rows f = chained (λ p. capped (f p)) f (λ x. omega arith)

-- ---- one more receive

-- one for a receive of post p from post q
abbrev one : Bytes → ℕ → ℕ → ℕ
one r p q = cond (arrives r p q) 1 0

pub arrivals_more : (r : Bytes) (h : History) (p q : ℕ) → arrivals (r ∷ h) p q ≡ one r p q + arrivals h p q
unfolding arrivals
arrivals_more r h p q = grind (arith, nat_tests)

exchanges_more : (r : Bytes) (h : History) (a b : ℕ) → exchanges (r ∷ h) a b ≡ cond (crosses a b r) 1 0 + exchanges h a b
unfolding exchanges
exchanges_more r h a b = grind (arith, nat_tests)

pub arrivals_le : (h : History) (p q : ℕ) → arrivals h p q ≤ length h
unfolding arrivals
arrivals_le [] p q = omega arith
arrivals_le (r ∷ h) p q = let ih = arrivals_le h p q in grind (arith, nat_tests)

pub exchanges_le : (h : History) (a b : ℕ) → exchanges h a b ≤ length h
unfolding exchanges
exchanges_le [] a b = omega arith
exchanges_le (r ∷ h) a b = let ih = exchanges_le h a b in grind (arith, nat_tests)

-- ---- the sum over linked pairs

row_same : (f g : ℕ → ℕ → ℕ) (a b p : ℕ) → ((q : ℕ) → f p q ≡ g p q) → row_sum f a b p ≡ row_sum g a b p
unfolding row_sum
row_same f g a b p e = sum_same 64 (linked_count f a b p) (linked_count g a b p) (λ q. ap (λ (x : ℕ). cond (linked a b p q) x 0) (e q))

pub pair_same : (f g : ℕ → ℕ → ℕ) (a b : ℕ) → ((p q : ℕ) → f p q ≡ g p q) → pair_sum f a b ≡ pair_sum g a b
unfolding pair_sum
pair_same f g a b e = sum_same 64 (row_sum f a b) (row_sum g a b) (λ p. row_same f g a b p (e p))

row_add : (f g : ℕ → ℕ → ℕ) (a b p : ℕ) → row_sum (λ x y. f x y + g x y) a b p ≡ row_sum f a b p + row_sum g a b p
unfolding row_sum
row_add f g a b p =
    sum_same 64 (linked_count (λ x y. f x y + g x y) a b p) (λ q. linked_count f a b p q + linked_count g a b p q) (λ q. grind (arith, nat_tests))
    ∙ sum_add 64 (linked_count f a b p) (linked_count g a b p)

pair_add : (f g : ℕ → ℕ → ℕ) (a b : ℕ) → pair_sum (λ x y. f x y + g x y) a b ≡ pair_sum f a b + pair_sum g a b
unfolding pair_sum
pair_add f g a b =
    sum_same 64 (row_sum (λ x y. f x y + g x y) a b) (λ p. row_sum f a b p + row_sum g a b p) (row_add f g a b) ∙ sum_add 64 (row_sum f a b) (row_sum g a b)

-- a receive counts at its own pair alone
row_one : (r : Bytes) (a b p : ℕ) → row_sum (one r) a b p ≡ cond (eqb (post r) p) (cond (ltb (partner_post r) 64) (cond (crosses a b r) 1 0) 0) 0
unfolding row_sum
row_one r a b p =
    let x = post r in
    let y = partner_post r in
    let here : ℕ = cond (eqb x p) (cond (crosses a b r) 1 0) 0 in
    sum_same 64 (linked_count (one r) a b p) (λ q. cond (eqb y q) here 0)
    (λ q. let e = λ (s : eqb x p ≡ true) (t : eqb y q ≡ true). sym (ap (λ (k : ℕ). linked a b k y) (eqb-true x p s) ∙ ap (linked a b p) (eqb-true y q t)) in grind (arith, nat_tests))
    ∙ sum_one 64 y here
    ∙ grind (arith, nat_tests)

pair_one : (r : Bytes) (a b : ℕ) → pair_sum (one r) a b ≡ cond (ltb (post r) 64) (cond (ltb (partner_post r) 64) (cond (crosses a b r) 1 0) 0) 0
unfolding pair_sum
pair_one r a b =
    let v : ℕ = cond (ltb (partner_post r) 64) (cond (crosses a b r) 1 0) 0 in
    sum_same 64 (row_sum (one r) a b) (λ p. cond (eqb (post r) p) v 0) (row_one r a b) ∙ sum_one 64 (post r) v

-- every receive of the history is between posts below 64
abbrev Known : History → Type 0
Known h = (p q : ℕ) → (64 ≤ p) ⊎ (64 ≤ q) → arrivals h p q ≡ 0

known_rest : (r : Bytes) (h : History) → Known (r ∷ h) → Known h
known_rest r h k p q o = omega (arith, arrivals_more r h p q, k p q o)

-- so the newest record counts where it crosses
pair_new : (r : Bytes) (h : History) (a b : ℕ) → Known (r ∷ h) → pair_sum (one r) a b ≡ cond (crosses a b r) 1 0
pair_new r h a b k =
    let x = post r in
    let y = partner_post r in
    let m = arrivals_more r h x y in
    let outside = λ (l : 64 ≤ x). k x y (inl l) in
    let partner_outside = λ (l : 64 ≤ y). k x y (inr l) in
    pair_one r a b ∙ grind (arith, nat_tests)

none_pairs : (a b : ℕ) → pair_sum (arrivals []) a b ≡ exchanges [] a b
unfolding pair_sum row_sum arrivals exchanges
none_pairs a b = sum_zero 64 (row_sum (arrivals []) a b) (λ p. sum_zero 64 (linked_count (arrivals []) a b p) (λ q. grind (arith, nat_tests)))

-- summed over linked pairs, the arrivals of a history are its exchanges: each record adds one exactly when it crosses
pub pair_exchanges : (h : History) (a b : ℕ) → Known h → pair_sum (arrivals h) a b ≡ exchanges h a b
pair_exchanges [] a b k = none_pairs a b
pair_exchanges (r ∷ h) a b k =
    pair_same (arrivals (r ∷ h)) (λ p q. one r p q + arrivals h p q) a b (arrivals_more r h) ∙ pair_add (one r) (arrivals h) a b
    ∙ omega (arith, pair_new r h a b k, pair_exchanges h a b (known_rest r h k), exchanges_more r h a b)

-- ---- the table

pub tells_none : Tells (record { counts = replicate 64 (replicate 64 0) }) []
unfolding arrivals
tells_none p q =
    cond_both (ltb p 64 && ltb q 64) (get_or (get_or (replicate 64 (replicate 64 0)) p []) q 0) 0 (λ x. x ≡ 0)
    (λ t. let both = and_parts (ltb p 64) (ltb q 64) t in
    ap (λ (row : List ℕ). get_or row q 0) (get_or-replicate 64 p (replicate 64 0) [] (ltb-true p 64 both.0)) ∙ get_or-replicate 64 q 0 0 (ltb-true q 64 both.1))
    (λ _. refl)

-- a record that is no receive leaves the counts as they are
pub tells_other : (table : Exchanges) (h : History) (r : Bytes) → Tells table h → receives r ≡ false → Tells table (r ∷ h)
tells_other table h r t f p q = let w = t p q in let a = arrivals_more r h p q in grind (arith, nat_tests)

pub told_known : (table : Exchanges) (h : History) → Tells table h → Known h
told_known table h t p q o = sym (t p q) ∙ grind (arith, nat_tests)

-- what a table that tells a history sums up to
pub told-exchanges : (table : Exchanges) (h : History) (a b : ℕ) → Tells table h → pair_sum (told table) a b ≡ exchanges h a b
told-exchanges table h a b t = pair_same (told table) (arrivals h) a b t ∙ pair_exchanges h a b (told_known table h t)

pub tells_noted
    : (was is : ℕ → ℕ → ℕ) (receiver sender : ℕ) → ((p q : ℕ) → is p q ≡ noted was receiver sender p q) → (h : History) (r : Bytes) → ((p q : ℕ) → was p q ≡ arrivals h p q)
    → receives r ≡ true → post r ≡ receiver → partner_post r ≡ sender → receiver < 64 → sender < 64 → length h < 2 ^ 32 - 1 → (p q : ℕ) → is p q ≡ arrivals (r ∷ h) p q
tells_noted was is receiver sender e h r t v x y l m n p q =
    let i = e p q in
    let w = t p q in
    let a = arrivals_more r h p q in
    let k = arrivals_le h p q in
    grind (arith, nat_tests)
