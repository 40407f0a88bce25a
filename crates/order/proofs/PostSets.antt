-- Laws of sets of posts: who is a member after each change, when two sets are one, and what the list of the members holds.
use Rattle.std.proofs.Common.{◌≡◌, ℕ, zero, suc, ◌+◌, ◌-◌, ◌*◌, ◌/◌, ◌%◌, ◌^◌, ◌<◌, ◌≤◌, min, max, Bool, true, false, cond, ◌&&◌, ◌||◌, eqb, ltb, ◌⊎◌, List, [], ◌∷◌, ◌++◌, length, get_or, take, drop, sym, refl, ap, ◌∙◌, inl, inr, mod-eq_of_lt, pow-suc, sub-add_cancel, add-one, one-add, arith, lit<, pow_pos, pow_mono, pow-add}
use native.Mathlib.Decide.{le_ind}
use native.Mathlib.Nat.{zero-div, div_self, div-eq_of_lt, mod-one}
use lib.Bits.{bit_and, bit_or, and_mask, or_shr, or_step}
use lib.Count.{ones, ones_cat}
use lib.Pow.{pow-lt, shl-shr, mod-pow-add, ones_split, high, ones_lt}
use Rattle.std.proofs.lemmas.Nat.{mod_below, one_shl}
use Rattle.std.proofs.lemmas.List.{get_or_at, append-nil, append_assoc, length-append, length_push, get_or_append_left, get_or_push, take_at, drop_all, drop_more}
use Rattle.std.proofs.lemmas.Bool.{cases_order, cases_lt, cases_Bool, cond_below, lt-ltb, le-ltb, eq-eqb, ne_eqb}
use Rattle.std.proofs.lemmas.Bool.Decides.{nat_tests, eqb_tells}
use Rattle.order.specs.Posts.{has, kept, below, members, size, from}
use Rattle.order.specs.Walk.{rest, Steps}
use Rattle.order.specs.declared.posts.Members.{Members}
use Rattle.std.specs.Iterator.{Yields}

-- ---- members

-- the digit at q is 1 or 0
pub has_digit : (b q : ℕ) → ((has b q ≡ true) × (b / 2 ^ q % 2 ≡ 1)) ⊎ ((has b q ≡ false) × (b / 2 ^ q % 2 ≡ 0))
unfolding has
has_digit b q =
    elim (eqb_tells (b / 2 ^ q % 2) 1) [ inl t ↦ inl t | inr f ↦ inr (f.0, omega (arith, mod_below (b / 2 ^ q) 2 (lit< tt), f.1)) ]

has_at : (b q d : ℕ) → b / 2 ^ q % 2 ≡ d → has b q ≡ eqb d 1
unfolding has
has_at b q d e = ap (λ (n : ℕ). eqb n 1) e

pub has_empty : (q : ℕ) → has 0 q ≡ false
has_empty q = has_at 0 q 0 (ap (λ (n : ℕ). n % 2) (zero-div (2 ^ q)))

-- a number of n digits has no member from n on
pub has_past : (b n q : ℕ) → b < 2 ^ n → n ≤ q → has b q ≡ false
has_past b n q l h =
    let m : b < 2 ^ q = omega (arith, pow_mono h) in
    has_at b q 0 (ap (λ (n : ℕ). n % 2) (div-eq_of_lt m))

-- a member is a post below 64
pub has_bound : (b q : ℕ) → b < 2 ^ 64 → has b q ≡ true → q < 64
has_bound b q l h = elim (cases_lt q 64) [ inl k ↦ k | inr k ↦ let f = has_past b 64 q l k in grind arith ]

or_digit : (x y : ℕ) → bit_or x y % 2 ≡ max (x % 2) (y % 2)
or_digit x y = omega (arith, or_step x y)

max_digit : (d x y : ℕ) → x < 2 → y < 2 → d ≡ max x y → eqb d 1 ≡ (eqb x 1 || eqb y 1)
max_digit d x y a b e = grind (arith, nat_tests)

pub has_union : (a b q : ℕ) → has (bit_or a b) q ≡ (has a q || has b q)
unfolding has
has_union a b q =
    max_digit (bit_or a b / 2 ^ q % 2) (a / 2 ^ q % 2) (b / 2 ^ q % 2) (mod_below (a / 2 ^ q) 2 (lit< tt)) (mod_below (b / 2 ^ q) 2 (lit< tt))
    (ap (λ (n : ℕ). n % 2) (or_shr a b q) ∙ or_digit (a / 2 ^ q) (b / 2 ^ q))

-- n is q and one or more
past_by : (q n : ℕ) → q < n → (j : ℕ) × (suc j + q ≡ n)
past_by q n h = (n - suc q, omega arith)

pub has_single : (p q : ℕ) → has (2 ^ p) q ≡ eqb q p
has_single p q = elim (cases_order q p) [ inl e ↦ same e | inr r ↦ elim r [ inl l ↦ less l | inr g ↦ more g ] ]
  where
    same : q ≡ p → has (2 ^ p) q ≡ eqb q p
    same e = has_at (2 ^ p) q 1 (rw e (ap (λ (n : ℕ). n % 2) (div_self (pow_pos p)))) ∙ sym (eq-eqb q p e)

    less : q < p → has (2 ^ p) q ≡ eqb q p
    less l =
        let j = past_by q p l in
        has_at (2 ^ p) q 0 (ap (λ (n : ℕ). n / 2 ^ q % 2) (ap (λ (n : ℕ). 2 ^ n) (sym j.1) ∙ pow-add 2 (suc j.0) q) ∙ ap (λ (n : ℕ). n % 2) (shl-shr (2 ^ suc j.0) q) ∙ omega (arith, pow-suc 2 j.0))
        ∙ sym (ne_eqb q p (λ e. omega arith))

    more : p < q → has (2 ^ p) q ≡ eqb q p
    more g = has_at (2 ^ p) q 0 (ap (λ (n : ℕ). n % 2) (div-eq_of_lt (pow-lt g))) ∙ sym (ne_eqb q p (λ e. omega arith))

pub has_insert : (b p q : ℕ) → has (bit_or b (2 ^ p)) q ≡ (has b q || eqb q p)
has_insert b p q = has_union b (2 ^ p) q ∙ ap (λ (t : Bool). has b q || t) (has_single p q)

-- the number with its n lowest digits set has the posts below n
pub has_ones : (n q : ℕ) → has (2 ^ n - 1) q ≡ ltb q n
has_ones n q = elim (cases_lt q n) [ inl l ↦ less l | inr g ↦ has_past (2 ^ n - 1) n q (ones_lt n) g ∙ sym (le-ltb q n g) ]
  where
    less : q < n → has (2 ^ n - 1) q ≡ ltb q n
    less l =
        let j = past_by q n l in
        has_at (2 ^ n - 1) q 1
        (ap (λ (m : ℕ). m / 2 ^ q % 2) (ap (λ (m : ℕ). 2 ^ m - 1) (sym j.1) ∙ ones_split (suc j.0) q)
        ∙ ap (λ (m : ℕ). m % 2) (high (2 ^ suc j.0 - 1) q (ones_lt q)) ∙ omega (arith, pow-suc 2 j.0, pow_pos j.0))
        ∙ sym (lt-ltb q n l)

-- ---- the same, as the code computes it

pub has_masked : (b q : ℕ) → eqb (bit_and (b / 2 ^ q) 1) 1 ≡ has b q
unfolding has
has_masked b q = rw (and_mask (b / 2 ^ q) 1) refl

pub has_all : (n q : ℕ) → 64 ≤ n → has 18446744073709551615 q ≡ (ltb q n && ltb q 64)
has_all n q l = let e = has_ones 64 q in grind (arith, nat_tests)

pub has_first : (n q : ℕ) → n < 64 → has ((1 * 2 ^ n) % 2 ^ 64 - 1) q ≡ (ltb q n && ltb q 64)
has_first n q l = let e = has_ones n q in rw one_shl (grind (arith, nat_tests))

pub bits_added : (b p : ℕ) → p < 64 → bit_or b ((1 * 2 ^ p) % 2 ^ 64) ≡ cond (ltb p 64) (bit_or b (2 ^ p)) b
bits_added b p l = ap (bit_or b) (one_shl p 64 l) ∙ cond_below p 64 (bit_or b (2 ^ p)) b l

pub has_added : (b p q : ℕ) → p < 64 → has (bit_or b ((1 * 2 ^ p) % 2 ^ 64)) q ≡ (has b q || (eqb q p && ltb q 64))
has_added b p q l = let e = has_insert b p q in rw one_shl (grind (arith, nat_tests))

-- ---- two sets with the same members are one

one_digit : (a b q : ℕ) → has a q ≡ has b q → a / 2 ^ q % 2 ≡ b / 2 ^ q % 2
one_digit a b q e = grind (arith, has_digit a q, has_digit b q)

pub same_digits : (a b n : ℕ) → ((q : ℕ) → q < n → has a q ≡ has b q) → a % 2 ^ n ≡ b % 2 ^ n
same_digits a b zero h = mod-one a ∙ sym (mod-one b)
same_digits a b (suc n) h =
    let d : a / 2 ^ n % 2 ≡ b / 2 ^ n % 2 = one_digit a b n (h n (omega arith)) in
    let e = same_digits a b n (λ q l. h q (omega arith)) in
    ap (λ (m : ℕ). a % 2 ^ m) (sym (one-add n)) ∙ mod-pow-add a 1 n ∙ rw (d, e) (sym (mod-pow-add b 1 n)) ∙ ap (λ (m : ℕ). b % 2 ^ m) (one-add n)

below_power : (n : ℕ) → n < 2 ^ n
below_power zero = lit< tt
below_power (suc n) = omega (arith, below_power n, pow-suc 2 n)

inside : (a n : ℕ) → a ≤ n → a < 2 ^ n
inside a n l = omega (arith, below_power a, pow_mono l)

pub same_set : (a b : ℕ) → ((q : ℕ) → has a q ≡ has b q) → a ≡ b
same_set a b h =
    sym (mod-eq_of_lt (inside a (a + b) (omega arith))) ∙ same_digits a b (a + b) (λ q _. h q)
    ∙ mod-eq_of_lt (inside b (a + b) (omega arith))

or_three : (x y z : Bool) → ((x || y) || z) ≡ (x || (y || z))
or_three true y z = refl
or_three false y z = refl

pub union_assoc : (a b c : ℕ) → bit_or (bit_or a b) c ≡ bit_or a (bit_or b c)
union_assoc a b c = same_set (bit_or (bit_or a b) c) (bit_or a (bit_or b c)) (λ q. simp has_union (or_three (has a q) (has b q) (has c q)))

-- ---- the members below n

pub below_zero : (b : ℕ) → below 0 b ≡ []
unfolding below
below_zero b = refl

pub below_with : (n b : ℕ) → has b n ≡ true → below (suc n) b ≡ below n b ++ n ∷ []
unfolding below
below_with n b h = rw h refl

pub below_without : (n b : ℕ) → has b n ≡ false → below (suc n) b ≡ below n b
unfolding below
below_without n b h = rw h (append-nil (below n b))

-- one post on, as a loop goes
pub below_more : (n b : ℕ) → below (n + 1) b ≡ below n b ++ kept (has b n) n
unfolding below
below_more n b = ap (λ (m : ℕ). below m b) (add-one n)

pub length_below_more
    : (n b : ℕ) → ((has b n ≡ true) × (length (below (suc n) b) ≡ length (below n b) + 1)) ⊎ ((has b n ≡ false) × (length (below (suc n) b) ≡ length (below n b)))
length_below_more n b =
    elim (cases_Bool (has b n)) [ inl t ↦ inl (t, ap length (below_with n b t) ∙ length_push (below n b) n) | inr f ↦ inr (f, ap length (below_without n b f)) ]

pub below_same : (a b n : ℕ) → ((q : ℕ) → q < n → has a q ≡ has b q) → below n a ≡ below n b
unfolding below
below_same a b zero h = refl
below_same a b (suc n) h = rw (below_same a b n (λ q l. h q (omega arith)), h n (omega arith)) refl

pub length_below_le : (n b : ℕ) → length (below n b) ≤ n
length_below_le zero b = rw below_zero (omega arith)
length_below_le (suc n) b = omega (arith, length_below_more n b, length_below_le n b)

pub below_front : (d m b : ℕ) → (ys : List ℕ) × (below (d + m) b ≡ below m b ++ ys)
below_front zero m b = ([], ap (λ (n : ℕ). below n b) (omega arith) ∙ sym (append-nil (below m b)))
below_front (suc d) m b =
    let r = below_front d m b in
    (r.0 ++ kept (has b (d + m)) (d + m), ap (λ (n : ℕ). below n b) (omega arith) ∙ below_more (d + m) b ∙ rw r.1 (append_assoc (below m b) r.0 (kept (has b (d + m)) (d + m))))

pub below-take : (m n b : ℕ) → m ≤ n → take (length (below m b)) (below n b) ≡ below m b
below-take m n b h =
    let r = below_front (n - m) m b in
    ap (λ (k : ℕ). take (length (below m b)) (below k b)) (sym (sub-add_cancel h)) ∙ rw r.1 (take_at (below m b) r.0 (length (below m b)) refl)

pub length_below_mono : (m n b : ℕ) → m ≤ n → length (below m b) ≤ length (below n b)
length_below_mono m n b h = le_ind (λ (k : ℕ). length (below m b) ≤ length (below k b)) (omega arith) (λ k _ l. omega (arith, length_below_more k b)) n h

-- a member's rank is below the size
pub rank_below : (q n b : ℕ) → q < n → has b q ≡ true → length (below q b) < length (below n b)
rank_below q n b l h = omega (arith, ap length (below_with q b h), length_push (below q b) q, length_below_mono (suc q) n b l)

-- at a member's rank stands that member
pub get_or_rank : (q n b d : ℕ) → q < n → has b q ≡ true → get_or (below n b) (length (below q b)) d ≡ q
get_or_rank q n b d l h =
    let r = below_front (n - suc q) (suc q) b in
    ap (λ (k : ℕ). get_or (below k b) (length (below q b)) d) (sym (sub-add_cancel l)) ∙ rw (r.1, below_with q b h)
    (get_or_append_left (below q b ++ q ∷ []) r.0 d (length (below q b)) (omega (arith, length_push (below q b) q)) ∙ get_or_push (below q b) q d (length (below q b)) refl)

-- what stands at a place is a member below n, and that place is its rank
pub record Placed (n b i p : ℕ) : Type 0 where
  pub within : p < n
  pub member : has b p ≡ true
  pub rank : length (below p b) ≡ i

widen : {n b i p : ℕ} → Placed n b i p → Placed (suc n) b i p
widen w = record { within = omega (arith, w.within); member = w.member; rank = w.rank }

placed_with : (n b i d : ℕ) → (i < length (below n b) → Placed n b i (get_or (below n b) i d)) → has b n ≡ true → i < length (below (suc n) b) → Placed (suc n) b i (get_or (below (suc n) b) i d)
placed_with n b i d h t l =
    let e = below_with n b t in
    elim (cases_lt i (length (below n b))) [
      | inl k ↦ rw (e, get_or_append_left (below n b) (n ∷ []) d i k) (widen (h k))
      | inr k ↦
          let m : length (below n b) ≡ i = omega (arith, ap length e, length_push (below n b) n) in
          rw (e, get_or_push (below n b) n d i m) (record { within = omega arith; member = t; rank = m })
    ]

pub placed : (n b i d : ℕ) → i < length (below n b) → Placed n b i (get_or (below n b) i d)
placed zero b i d l = absurd (omega (arith, ap length (below_zero b), l))
placed (suc n) b i d l =
    let h : i < length (below n b) → Placed n b i (get_or (below n b) i d) = λ k. placed n b i d k in
    elim (cases_Bool (has b n)) [
      | inl t ↦ placed_with n b i d h t l
      | inr f ↦ let e = below_without n b f in rw e (widen (h (omega (arith, ap length e))))
    ]

pub length_below_first : (n b : ℕ) → ((q : ℕ) → has b q ≡ ltb q n) → (k : ℕ) → length (below k b) ≡ min k n
length_below_first n b h zero = omega (arith, ap length (below_zero b))
length_below_first n b h (suc k) = let e = h k in let r = length_below_first n b h k in let m = length_below_more k b in grind (arith, nat_tests)

-- the first n posts are n
pub size_first : (n b : ℕ) → n ≤ 64 → ((q : ℕ) → has b q ≡ (ltb q n && ltb q 64)) → size b ≡ n
size_first n b l h = omega (arith, length_below_first n b (λ q. let e = h q in grind (arith, nat_tests)) 64)

length_below_single : (p k : ℕ) → length (below k (2 ^ p)) ≡ cond (ltb p k) 1 0
length_below_single p zero = let e = ap length (below_zero (2 ^ p)) in grind (arith, nat_tests)
length_below_single p (suc k) =
    let e = has_single p k in
    let r = length_below_single p k in
    let m = length_below_more k (2 ^ p) in
    grind (arith, nat_tests)

pub size_single : (p : ℕ) → p < 64 → size (2 ^ p) ≡ 1
size_single p l = length_below_single p 64 ∙ sym (cond_below p 64 1 0 l)

pub length_below_union : (a b k : ℕ) → length (below k (bit_or a b)) ≤ length (below k a) + length (below k b)
length_below_union a b zero = omega (arith, ap length (below_zero (bit_or a b)))
length_below_union a b (suc k) =
    let e = has_union a b k in
    let r = length_below_union a b k in
    let m = length_below_more k (bit_or a b) in
    let ma = length_below_more k a in
    let mb = length_below_more k b in
    grind (arith, nat_tests)

pub size_union : (a b : ℕ) → size (bit_or a b) ≤ size a + size b
size_union a b = length_below_union a b 64

digit_ones
    : (n b k : ℕ) → k ≡ length (below n b) → ones (b / 2 ^ n % 2) + k ≡ length (below (suc n) b)
unfolding ones
digit_ones n b k e =
    elim (has_digit b n) [
      | inl t ↦ rw (t.1, below_with n b t.0, length_push) (omega arith)
      | inr f ↦ rw (f.1, below_without n b f.0) (omega arith)
    ]

pub ones_below : (n b : ℕ) → ones (b % 2 ^ n) ≡ length (below n b)
unfolding ones
ones_below zero b = ap ones (mod-one b) ∙ sym (ap length (below_zero b))
ones_below (suc n) b =
    ap (λ (m : ℕ). ones (b % 2 ^ m)) (sym (one-add n)) ∙ ap ones (mod-pow-add b 1 n) ∙ ones_cat n (b / 2 ^ n % 2) (b % 2 ^ n) (mod_below b (2 ^ n) (pow_pos n))
    ∙ digit_ones n b (ones (b % 2 ^ n)) (ones_below n b)

pub ones_size : (b : ℕ) → b < 2 ^ 64 → ones b ≡ size b
ones_size b l = ap ones (sym (mod-eq_of_lt l)) ∙ ones_below 64 b

-- a number of n digits has all its members below n
pub below_within : (n m b : ℕ) → b < 2 ^ n → n ≤ m → below m b ≡ below n b
below_within n m b l h = le_ind (λ (k : ℕ). below k b ≡ below n b) refl (λ k j e. below_without k b (has_past b n k l j) ∙ e) m h

pub below_past : (n b : ℕ) → b < 2 ^ 64 → 64 ≤ n → below n b ≡ members b
below_past n b l h = below_within 64 n b l h

pub ones_masked : (b n : ℕ) → n < 64 → ones (bit_and b ((1 * 2 ^ n) % 2 ^ 64 - 1)) ≡ length (below n b)
ones_masked b n l = rw (one_shl, and_mask) (ones_below n b)

pub ones_past : (b n : ℕ) → b < 2 ^ 64 → 64 ≤ n → ones b ≡ length (below n b)
ones_past b n l h = ones_size b l ∙ sym (ap length (below_past n b l h))

-- ---- the members from q on

pub from_zero : (b : ℕ) → from 0 b ≡ members b
unfolding from
from_zero b = ap (λ (xs : List ℕ). drop (length xs) (members b)) (below_zero b)

pub from_past : (q b : ℕ) → 64 ≤ q → from q b ≡ []
unfolding from
from_past q b h = drop_all (length (below q b)) (members b) (length_below_mono 64 q b h)

pub from_with : (q b : ℕ) → q < 64 → has b q ≡ true → from q b ≡ q ∷ from (q + 1) b
unfolding from
from_with q b l h =
    drop_more (members b) (length (below q b)) 0 (rank_below q 64 b l h) ∙ rw (get_or_rank q 64 b 0 l h) (ap (λ (k : ℕ). q ∷ drop k (members b)) (sym (ap (λ (k : ℕ). length (below k b)) (add-one q) ∙ ap length (below_with q b h) ∙ length_push (below q b) q)))

pub from_without : (q b : ℕ) → has b q ≡ false → from q b ≡ from (q + 1) b
unfolding from
from_without q b h = ap (λ (xs : List ℕ). drop (length xs) (members b)) (sym (ap (λ (k : ℕ). below k b) (add-one q) ∙ below_without q b h))

-- ---- a loop over `members`

-- What has come, and then what is still to come, are what was to come at the start.
pub walked : (xs : List ℕ) (s t : Members) → Yields Steps s xs t → rest s ≡ xs ++ rest t
walked [] s t y = ap rest y
walked (x ∷ xs) s t y = y.1.least ∙ ap (λ (ys : List ℕ). x ∷ ys) (walked xs y.0 t y.2)

-- All of the members have come when none is left.
pub walked_all : (xs : List ℕ) (s t : Members) (b : ℕ) → rest s ≡ members b → Yields Steps s xs t → rest t ≡ [] → xs ≡ members b
walked_all xs s t b start y end = sym (append-nil xs) ∙ ap (λ (ys : List ℕ). xs ++ ys) (sym end) ∙ sym (walked xs s t y) ∙ start

-- The one that comes stands in the members at the place that counts those before it.
pub walked_turn
    : (xs : List ℕ) (s t u : Members) (b p : ℕ) → rest s ≡ members b → Yields Steps s xs t → rest t ≡ p ∷ rest u
    → (members b ≡ xs ++ p ∷ rest u) × (length xs < size b) × (get_or (members b) (length xs) 0 ≡ p)
walked_turn xs s t u b p start y now =
    let e : members b ≡ xs ++ p ∷ rest u = sym start ∙ walked xs s t y ∙ ap (λ (ys : List ℕ). xs ++ ys) now in
    (e, omega (arith, ap length e, length-append xs (p ∷ rest u)), ap (λ (ys : List ℕ). get_or ys (length xs) 0) e ∙ get_or_at xs p (rest u) 0 (length xs) refl)
