-- Questions about lists of events: which of them is not held, and what the others reach together.
use Rattle.std.proofs.Common.{◌≡◌, ℕ, zero, suc, ◌+◌, ◌^◌, ◌<◌, ◌≤◌, max, Bool, true, false, cond, ◌&&◌, ◌||◌, eqb, ltb, ◌⊎◌, List, [], ◌∷◌, map, length, get_or, drop, Some, None, Ok, Err, Option, Result, sym, refl, ap, ◌∙◌, subst, inl, inr, add-zero, one-mul, pow-suc, arith}
use lib.Bits.{bit_or, or_shifted_r}
use Rattle.cluster.specs.Kept.{largest}
use Rattle.join.proofs.Folds.{order_free}
use Rattle.join.specs.Folds.{In, joined, SameValues}
use Rattle.join.specs.Folds.In.{here, there}
use Rattle.order.proofs.PostSets.{has_empty, has_insert, same_set}
use Rattle.order.specs.History.{History, Valid}
use Rattle.order.specs.Posts.{has}
use Rattle.order.specs.declared.event.Event.{Event}
use Rattle.order.specs.declared.posts.PostSet.{PostSet}
use Rattle.std.proofs.lemmas.List.{at_drop_more, at_drop_all}
use Rattle.std.proofs.lemmas.Bool.{cases_Bool, cases_eq, cases_lt, cond-true, cond-false, le-ltb, and_left}
use Rattle.std.proofs.lemmas.Bool.Decides.{nat_tests}
use Rattle.std.specs.List.{range_with_len}
use Rattle.std.specs.Result.{IfOk}
use Rattle.station.proofs.Reading.{Known, known}
use Rattle.station.proofs.VectorReading.{vec_past}
use Rattle.station.specs.Asks.{knows, missing, of_list, entry, farthest, gathered, hears, horizons, listed, SameAnswers}
use Rattle.station.specs.Reaches.{HasPosts}
use Rattle.station.specs.declared.asks.AskFault.{AskFault}
use Rattle.station.specs.declared.asks.AskFault.TheVariants.{NotHeld, SliceLength}

-- ---- the posts of a vector

-- an empty set has none of the posts below 0
pub none_below : (bits q x : ℕ) → bits ≡ 0 → has bits q ≡ (ltb q 0 && ltb 0 x)
none_below bits q x z = rw (z, has_empty q, le-ltb q 0 (omega arith)) refl

-- ---- which event is not held

allowed : (b : Bool) (f : AskFault) (u : Unit {0}) → Ok u ≡ cond b (Ok (tt {0})) (Err f) → b ≡ true
allowed true f u e = refl
allowed false f u e = absurd (cc)

stopped : (b : Bool) (f e : AskFault) → Err e ≡ cond b (Ok (tt {0})) (Err f) → (b ≡ false) × (e ≡ f)
stopped true f e is = absurd (cc)
stopped false f e is = (refl, (cc))

cases_option : (o : Option ℕ) → (o ≡ None) ⊎ ((i : ℕ) × (o ≡ Some i))
cases_option None = inl refl
cases_option (Some i) = inr (i, refl)

module _ (n : ℕ) (h : History) where
  -- what is to come decides
  missing_more : (es : List Event) (i : ℕ) (d : Event) → i < length es → knows n h (get_or es i d) ≡ true → missing n h (drop i es) i ≡ missing n h es 0 → missing n h (drop (i + 1) es) (i + 1) ≡ missing n h es 0
  missing_more es i d inside held so =
      sym (cond-true _ _ _ held) ∙ sym (at_drop_more (λ (xs : List Event). missing n h xs i) es i d inside) ∙ so

  missing_here : (es : List Event) (i : ℕ) (d : Event) → i < length es → knows n h (get_or es i d) ≡ false → missing n h (drop i es) i ≡ missing n h es 0 → missing n h es 0 ≡ Some i
  missing_here es i d inside out so =
      sym so ∙ at_drop_more (λ (xs : List Event). missing n h xs i) es i d inside ∙ cond-false _ _ _ out

  missing_none : (es : List Event) (i : ℕ) → length es ≤ i → missing n h (drop i es) i ≡ missing n h es 0 → missing n h es 0 ≡ None
  missing_none es i past so = sym so ∙ at_drop_all (λ (xs : List Event). missing n h xs i) es i past

  list_none : {A : Type 0} (es : List Event) (answer : Result A AskFault) → 0 < length es → missing n h es 0 ≡ None → of_list n h es answer ≡ answer
  list_none [] answer some none = absurd (omega arith)
  list_none {A} (e ∷ es) answer some none = ap (λ (m : Option ℕ). elim m as (λ _. Result A AskFault) [ None ↦ answer | Some place ↦ Err (NotHeld place) ]) none

  list_some : {A : Type 0} (es : List Event) (answer : Result A AskFault) (i : ℕ) → 0 < length es → missing n h es 0 ≡ Some i → of_list n h es answer ≡ Err (NotHeld i)
  list_some [] answer i some out = absurd (omega arith)
  list_some {A} (e ∷ es) answer i some out = ap (λ (m : Option ℕ). elim m as (λ _. Result A AskFault) [ None ↦ answer | Some place ↦ Err (NotHeld place) ]) out

  -- an answer is given where no event is missing
  list_ok : {A : Type 0} (es : List Event) (x y : A) → of_list n h es (Ok x) ≡ Ok y → (0 < length es) × (missing n h es 0 ≡ None) × (x ≡ y)
  list_ok [] x y e = absurd (cc)
  list_ok {A} (e ∷ es) x y ok = elim (cases_option (missing n h (e ∷ es) 0)) [
    | inl none ↦ let z : ◌≡◌ {A = Result A AskFault} (Ok x) (Ok y) = rw (list_none (e ∷ es) (Ok x) (omega arith) none) at ok in (omega arith, none, (cc))
    | inr out ↦ let z : ◌≡◌ {A = Result A AskFault} (Err (NotHeld out.0)) (Ok y) = rw (list_some (e ∷ es) (Ok x) out.0 (omega arith) out.1) at ok in absurd (cc)
  ]

  -- whatever would be answered otherwise, a refusal is the same
  list_err : {A B : Type 0} (es : List Event) (x : A) (y : B) (f : AskFault) → Some f ≡ listed (of_list n h es (Ok x)) → Err f ≡ of_list n h es (Ok y)
  list_err [] x y f e = (cc)
  list_err (e ∷ es) x y f refused = elim (cases_option (missing n h (e ∷ es) 0)) [
    | inl none ↦ let z : ◌≡◌ {A = Option AskFault} (Some f) None = rw (list_none (e ∷ es) (Ok x) (omega arith) none) at refused in absurd (cc)
    | inr out ↦
        let z : ◌≡◌ {A = Option AskFault} (Some f) (Some (NotHeld out.0)) = rw (list_some (e ∷ es) (Ok x) out.0 (omega arith) out.1) at refused in
        rw (list_some (e ∷ es) (Ok y) out.0 (omega arith) out.1) (cc)
  ]

  -- the first of some events that are all held
  head_held : (e : Event) (es : List Event) (i : ℕ) → missing n h (e ∷ es) i ≡ None → knows n h e ≡ true
  head_held e es i none = elim (cases_Bool (knows n h e)) [
    | inl t ↦ t
    | inr f ↦ let s : Some i ≡ None = rw f at none in cc
  ]

  first_held : (es : List Event) (e : Event) → 0 < length es → e ≡ get_or es 0 e → missing n h es 0 ≡ None → knows n h e ≡ true
  first_held [] e some is none = absurd (omega arith)
  first_held (x ∷ es) e some is none = ap (knows n h) is ∙ head_held x es 0 none

pub listed_none : (r : Result (Unit {0}) AskFault) → None ≡ listed r → r ≡ Ok tt
listed_none (Ok tt) e = refl
listed_none (Err f) e = absurd (cc)

-- ---- what they reach

-- with what is to come, a running value reaches as far as all
abbrev Reaches : History → List Event → ℕ → (ℕ → ℕ) → Type 0
Reaches h es i f = (q : ℕ) → max (f q) (farthest h (drop i es) q) ≡ farthest h es q

module _ (h : History) where
  reaches_first : (es : List Event) (e : Event) (f : ℕ → ℕ) → 0 < length es → e ≡ get_or es 0 e → ((q : ℕ) → f q ≡ entry h e q) → Reaches h es 0 f
  reaches_first [] e f some is told q = absurd (omega arith)
  reaches_first (x ∷ es) e f some is told q = omega (arith, told q, ap (λ (y : Event). entry h y q) is)

  reaches_more : (es : List Event) (i : ℕ) (d : Event) (f g : ℕ → ℕ) → i < length es → ((q : ℕ) → g q ≡ max (f q) (entry h (get_or es i d) q)) → Reaches h es i f → Reaches h es (i + 1) g
  reaches_more es i d f g inside joined so q = omega (arith, so q, at_drop_more (λ (xs : List Event). farthest h xs q) es i d inside, joined q)

  reaches_all : (es : List Event) (i : ℕ) (f : ℕ → ℕ) → length es ≤ i → Reaches h es i f → (q : ℕ) → f q ≡ farthest h es q
  reaches_all es i f past so q = omega (arith, so q, at_drop_all (λ (xs : List Event). farthest h xs q) es i past)

-- no event of a kiln of n posts knows of a post from n on
farthest_past : {n : ℕ} {h : History} → Valid n h → (es : List Event) (i q : ℕ) → missing n h es i ≡ None → n ≤ q → farthest h es q ≡ 0
farthest_past v [] i q none past = refl
farthest_past {n} {h} v (e ∷ es) i q none past =
    let t = head_held n h e es i none in
    let k = known n h e t in
    omega (arith, vec_past v e.post e.number q k.most past, farthest_past v es (i + 1) q (sym (cond-true _ _ _ t) ∙ none) past)

-- ---- what is read of them together

-- With what is to come, a running value tells of all the events, unless one of them is not held.
pub record Together {A : Type 0} (tells : A → (ℕ → ℕ) → Type 0) (n : ℕ) (h : History) (es : List Event) (i : ℕ) (x : A) : Type 0 where
  pub missed : missing n h (drop i es) i ≡ missing n h es 0
  pub reached : missing n h es 0 ≡ None → (f : ℕ → ℕ) × (tells x f × Reaches h es i f)

module _ {A : Type 0} (tells : A → (ℕ → ℕ) → Type 0) (n : ℕ) (h : History) (es : List Event) (some : 0 < length es) where
  pub together_first : (e : Event) (x : A) (f : ℕ → ℕ) → e ≡ get_or es 0 e → (Known n h e → (q : ℕ) → f q ≡ entry h e q) → tells x f → Together tells n h es 0 x
  together_first e x f is told read = record {
    missed = refl;
    reached = λ none. (f, (read, reaches_first h es e f some is (told (known n h e (first_held n h es e some is none)))));
  }

  pub together_out : (i : ℕ) (d : Event) (x : A) (f : AskFault) → i < length es → Err f ≡ cond (knows n h (get_or es i d)) (Ok (tt {0})) (Err (NotHeld i))
      → Together tells n h es i x → Some f ≡ listed (of_list n h es (Ok (tt {0})))
  together_out i d x f inside out t =
      let no = stopped _ _ f out in
      ap Some no.1 ∙ sym (ap listed (list_some n h es (Ok tt) i some (missing_here n h es i d inside no.0 t.missed)))

  pub together_more : (join : A → A → A) (joins : (x y : A) (f g : ℕ → ℕ) → tells x f → tells y g → tells (join x y) (λ q. max (f q) (g q)))
      → (i : ℕ) (d : Event) (x y : A) (f : ℕ → ℕ) (u : Unit {0}) → i < length es → Ok u ≡ cond (knows n h (get_or es i d)) (Ok tt) (Err (NotHeld i))
      → (Known n h (get_or es i d) → (q : ℕ) → f q ≡ entry h (get_or es i d) q) → tells y f → Together tells n h es i x → Together tells n h es (i + 1) (join x y)
  together_more join joins i d x y f u inside passed told read t =
      let held = allowed _ _ u passed in
      record {
        missed = missing_more n h es i d inside held t.missed;
        reached = λ none.
            let so = t.reached none in (
              λ q. max (so.0 q) (f q),
              (joins x y so.0 f so.1.0 read, reaches_more h es i d so.0 _ inside (λ q. ap (max (so.0 q)) (told (known n h (get_or es i d) held) q)) so.1.1),
            );
      }

  pub together_all : (i : ℕ) (x : A) → length es ≤ i → Together tells n h es i x → (None ≡ listed (of_list n h es (Ok (tt {0})))) × tells x (farthest h es)
  together_all i x past t =
      let none = missing_none n h es i past t.missed in
      let so = t.reached none in (
        sym (ap listed (list_none n h es (Ok tt) some none)),
        subst (tells x) (λ k q. reaches_all h es i so.0 past so.1.1 q k) so.1.0,
      )

-- ---- the posts that they have heard of

below_power : (n : ℕ) (test : ℕ → Bool) → gathered n test < 2 ^ n
unfolding gathered
below_power zero test = omega arith
below_power (suc n) test = elim (test n) as (λ b. gathered n test + cond b (2 ^ n) 0 < 2 ^ suc n) [
  | true ↦ omega (arith, below_power n test, pow-suc 2 n)
  | false ↦ omega (arith, below_power n test, pow-suc 2 n)
]

has_next : (bits n q : ℕ) → bits < 2 ^ n → has (bits + 2 ^ n) q ≡ (has bits q || eqb q n)
has_next bits n q small =
    let e : bits + 2 ^ n ≡ bit_or bits (2 ^ n) = omega (arith, or_shifted_r 1 n bits small, ap (bit_or bits) (one-mul (2 ^ n))) in
    ap (λ (b : ℕ). has b q) e ∙ has_insert bits n q

has-gathered : (n : ℕ) (test : ℕ → Bool) (q : ℕ) → has (gathered n test) q ≡ (ltb q n && test q)
unfolding gathered
has-gathered zero test q = has_empty q ∙ sym (and_left _ _ (le-ltb q 0 (omega arith)))
has-gathered (suc n) test q = elim (cases_Bool (test n)) [
  | inl t ↦ rw (t, has_next (gathered n test) n q (below_power n test), has-gathered n test q) (elim (cases_eq q n) [
    | inl e ↦ let s : test q ≡ true = ap test e ∙ t in grind (arith, nat_tests)
    | inr ne ↦ grind (arith, nat_tests)
  ])
  | inr f ↦ rw (f, add-zero (gathered n test), has-gathered n test q) (elim (cases_eq q n) [
    | inl e ↦ let s : test q ≡ false = ap test e ∙ f in grind (arith, nat_tests)
    | inr ne ↦ grind (arith, nat_tests)
  ])
]

gathered_by : (n a b q x : ℕ) → n ≤ 64 → has a q ≡ (ltb q 64 && ltb 0 x) → has b q ≡ (ltb q n && ltb 0 x) → (n ≤ q → x ≡ 0) → has a q ≡ has b q
gathered_by n a b q x few l r past = elim (cases_lt q n) [
  | inl inside ↦ grind (arith, nat_tests)
  | inr out ↦ let z = past out in grind (arith, nat_tests)
]

pub hears_so : {n : ℕ} {h : History} → Valid n h → n ≤ 64 → (es : List Event) (r : Result PostSet AskFault)
    → (listed r ≡ listed (of_list n h es (Ok (tt {0})))) × IfOk r (λ s. HasPosts s (farthest h es)) → r ≡ hears n h es
hears_so {n} {h} v few es (Err f) so = list_err n h es tt _ f so.0
hears_so {n} {h} v few es (Ok s) so =
    let all = list_ok n h es tt tt (listed_none _ so.0) in
    let bits : s.bits ≡ gathered n (λ q. ltb 0 (farthest h es q)) = same_set s.bits _ (λ q.
    gathered_by n s.bits _ q (farthest h es q) few (so.1 q) (has-gathered n (λ (q : ℕ). ltb 0 (farthest h es q)) q) (farthest_past v es 0 q all.1)) in
    ap (λ (b : ℕ). Ok (record { bits = b })) bits ∙ sym (list_none n h es _ all.0 all.1)

-- ---- order and repeats make no difference

not_in : {J : Type 0} (x : J) (xs : List J) → In x xs → length xs ≤ 0 → ⊥
not_in x _ here none = omega arith
not_in x _ (there i) none = omega arith

in_map : {J : Type 0} (f : J → ℕ) (x : J) (xs : List J) → In x xs → In (f x) (map f xs)
in_map f x _ here = here
in_map f x _ (there {ys = ys} i) = there (in_map f x ys i)

map_in : {J : Type 0} (f : J → ℕ) (xs : List J) (y : ℕ) → In y (map f xs) → (x : J) × (In x xs × (y ≡ f x))
map_in f [] y i = absurd (not_in y [] i (omega arith))
map_in f (x ∷ xs) _ here = (x, (here, refl))
map_in f (x ∷ xs) y (there i) = let r = map_in f xs y i in (r.0, (there r.1.0, r.1.1))

same_map : {J : Type 0} (f : J → ℕ) (xs ys : List J) → ((x : J) → In x xs → In x ys) → (y : ℕ) → In y (map f xs) → In y (map f ys)
same_map f xs ys same y i = let r = map_in f xs y i in subst (λ (z : ℕ). In z (map f ys)) (sym r.1.1) (in_map f r.0 ys (same r.0 r.1.0))

joined-largest : (x : ℕ) (xs : List ℕ) → joined max x xs ≡ max x (largest xs)
unfolding joined
joined-largest x [] = omega arith
joined-largest x (y ∷ ys) = omega (arith, joined-largest (max x y) ys)

farthest_same : (h : History) (es fs : List Event) → SameValues es fs → (q : ℕ) → farthest h es q ≡ farthest h fs q
farthest_same h [] [] same q = refl
farthest_same h [] (f ∷ fs) same q = absurd (not_in f [] ((same f).1 here) (omega arith))
farthest_same h (e ∷ es) [] same q = absurd (not_in e [] ((same e).0 here) (omega arith))
farthest_same h (e ∷ es) (f ∷ fs) same q =
    let to : Event → ℕ = λ x. entry h x q in
    sym (joined-largest (to e) (map to es))
    ∙ order_free max (λ x y z. omega arith) (λ x y. omega arith) (λ x. omega arith) (to e) (map to es) (to f) (map to fs)
    (λ y. (same_map to (e ∷ es) (f ∷ fs) (λ x. (same x).0) y, same_map to (f ∷ fs) (e ∷ es) (λ x. (same x).1) y))
    ∙ joined-largest (to f) (map to fs)

module _ (n : ℕ) (h : History) where
  all_held : (e : Event) (es : List Event) → In e es → (i : ℕ) → missing n h es i ≡ None → knows n h e ≡ true
  all_held e _ (here {ys = es}) i none = head_held n h e es i none
  all_held e _ (there {y = x} {ys = es} k) i none = all_held e es k (i + 1) (sym (cond-true _ _ _ (head_held n h x es i none)) ∙ none)

  none_missing : (es : List Event) (i : ℕ) → ((e : Event) → In e es → knows n h e ≡ true) → missing n h es i ≡ None
  none_missing [] i held = refl
  none_missing (e ∷ es) i held = cond-true _ _ _ (held e here) ∙ none_missing es (i + 1) (λ x k. held x (there k))

  some_too : (es fs : List Event) → SameValues es fs → 0 < length es → 0 < length fs
  some_too [] fs same some = absurd (omega arith)
  some_too (e ∷ es) fs same some = elim (cases_lt 0 (length fs)) [ inl l ↦ l | inr none ↦ absurd (not_in e fs ((same e).0 here) none) ]

  list_same : {A : Type 0} (es fs : List Event) (x y z : A) → SameValues es fs → x ≡ y → of_list n h es (Ok x) ≡ Ok z → of_list n h fs (Ok y) ≡ Ok z
  list_same es fs x y z same e ok =
      let was = list_ok n h es x z ok in
      list_none n h fs (Ok y) (some_too es fs same was.0) (none_missing fs 0 (λ f i. all_held f es ((same f).1 i) 0 was.1))
      ∙ ap Ok (sym e ∙ was.2)

  horizon_same : (es fs : List Event) (places : ℕ) → SameValues es fs → horizons n h es places ≡ Ok tt → horizons n h fs places ≡ Ok tt
  horizon_same es fs places same ok = elim (cases_Bool (eqb places n)) [
    | inl t ↦ rw t (list_same es fs tt tt tt same refl (rw t at ok))
    | inr f ↦ let z : ◌≡◌ {A = Result (Unit {0}) AskFault} (Err SliceLength) (Ok tt) = rw f at ok in absurd (cc)
  ]

  pub same_answers : (es fs : List Event) → SameValues es fs → SameAnswers n h es fs
  same_answers es fs same =
      let to = farthest_same h es fs same in
      record {
        reach = to;
        horizon = λ places. horizon_same es fs places same;
        slice = λ was i. map (λ (q : ℕ). to q i) (range_with_len 0 n);
        heard = λ s. list_same es fs _ _ s same (λ i. record { bits = gathered n (λ (q : ℕ). ltb 0 (to q i)) });
      }
