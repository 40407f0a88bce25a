-- One stamp in cells: it stays where its cells stay, a mark changes its first cell only, and what is put is what is read.
use Rattle.std.proofs.Common.{◌≡◌, ℕ, ◌+◌, ◌^◌, ◌/◌, ◌%◌, ◌<◌, ◌≤◌, ◌≢◌, Bool, false, eqb, List, [], map, length, get_or, set, sym, refl, ap, ◌∙◌, inl, inr, arith}
use Rattle.std.specs.List.{range_with_len}
use Rattle.std.specs.Int.{w32, w64, to_be_bytes}
use Rattle.std.specs.Simd.{first_chunks}
use Rattle.std.proofs.lemmas.List.FromFn.{length-map-range_with_len, get_or-map-range_with_len, fill_by_all}
use Rattle.std.proofs.lemmas.List.{length-set, get_or-set_same, get_or-set_other, get_or-map, length-map}
use Rattle.std.proofs.lemmas.Nat.{from_be_bytes-to_be_bytes_4, from_be_bytes-to_be_bytes_8}
use Rattle.std.proofs.lemmas.Bool.{cases_eq, eq-eqb}
use Rattle.order.specs.Posts.{size}
use Rattle.order.specs.Records.{code, kind_named}
use Rattle.order.specs.declared.event.Kind.{Kind}
use Rattle.order.specs.declared.event.Kind.TheVariants.{Local, Send, Receive}
use Rattle.keeper.specs.Piles.{Stamp, with_mark}
use Rattle.keeper.specs.Moves.{unmarked}
use Rattle.keeper.specs.declared.admit.Header.{Header}
use Rattle.columns.specs.Cells.{Cell, number_of, word_at, Wrote}
use Rattle.columns.specs.Layout.{stamp_at, Stored, Placed}

-- ---- lists by a function of the index

pub counted_same : {X : Type 0} (f g : ℕ → X) (n : ℕ) → ((k : ℕ) → k < n → g k ≡ f k) → map g (range_with_len 0 n) ≡ map f (range_with_len 0 n)
counted_same f g n same =
    fill_by_all f (map g (range_with_len 0 n)) n (f 0) (length-map-range_with_len g 0 n) (λ k l. get_or-map-range_with_len g 0 n k k (f 0) l (omega arith) ∙ same k l)

-- one place changed
pub counted_set : {X : Type 0} (f g : ℕ → X) (n k : ℕ) (x : X) → k < n → ((i : ℕ) → i < n → (i ≡ k → ⊥) → g i ≡ f i) → g k ≡ x → map g (range_with_len 0 n) ≡ set (map f (range_with_len 0 n)) k x
counted_set f g n k x below others here =
    sym (fill_by_all g (set (map f (range_with_len 0 n)) k x) n (f 0) (simp (length-set, length-map-range_with_len)) (λ i l.
    elim (cases_eq i k) [
      | inl e ↦ rw e (get_or-set_same (map f (range_with_len 0 n)) k x (f 0) (omega (arith, length-map-range_with_len f 0 n)) ∙ sym here)
      | inr ne ↦ get_or-set_other (map f (range_with_len 0 n)) k i x (f 0) ne ∙ get_or-map-range_with_len f 0 n i i (f 0) l (omega arith) ∙ sym (others i l ne)
    ]))

-- ---- a stamp stays

pub word_same : (c d : ℕ → ℕ) (i : ℕ) → ((j : ℕ) → i ≤ j → j < i + 4 → d j ≡ c j) → word_at d i ≡ word_at c i
word_same c d i same =
    omega (arith, same i (omega arith) (omega arith), same (i + 1) (omega arith) (omega arith), same (i + 2) (omega arith) (omega arith), same (i + 2 + 1) (omega arith) (omega arith))

-- the fields of a stamp behind its first cell
abbrev headed : (ℕ → ℕ) → ℕ → ℕ → Stamp
headed c at first =
    record {
      kind = kind_named (first % 256);
      marked = eqb (first / 256) 1;
      cover = word_at c (at + 1);
      full = c (at + 5);
      entries = map (λ i. c (at + 6 + i)) (range_with_len 0 (size (word_at c (at + 1))));
    }

-- stamps are equal by their fields
parts : {k l : Kind} {m n : Bool} {w v f g : ℕ} {xs ys : List ℕ} → k ≡ l → m ≡ n → w ≡ v → f ≡ g → xs ≡ ys → ◌≡◌ {A = Stamp} record { kind = k; marked = m; cover = w; full = f; entries = xs } record { kind = l; marked = n; cover = v; full = g; entries = ys }
parts p q r s t = rw (p, q, r, s, t) refl

-- where all cells of a stamp but its first stay
tail_same : (c d : ℕ → ℕ) (at : ℕ) → ((j : ℕ) → at < j → j < at + 6 + size (word_at c (at + 1)) → d j ≡ c j) → stamp_at d at ≡ headed c at (d at)
unfolding stamp_at
tail_same c d at same =
    let w = word_same c d (at + 1) (λ j l h. same j (omega arith) (omega arith)) in
    parts refl refl w (same (at + 5) (omega arith) (omega arith))
    (ap (λ (n : ℕ). map (λ i. d (at + 6 + i)) (range_with_len 0 (size n))) w
    ∙ counted_same (λ i. c (at + 6 + i)) (λ i. d (at + 6 + i)) (size (word_at c (at + 1))) (λ k h. same (at + 6 + k) (omega arith) (omega arith)))

pub stamp_same : (c d : ℕ → ℕ) (at : ℕ) → ((j : ℕ) → at ≤ j → j < at + 6 + size (word_at c (at + 1)) → d j ≡ c j) → stamp_at d at ≡ stamp_at c at
unfolding stamp_at
stamp_same c d at same =
    tail_same c d at (λ j l h. same j (omega arith) h) ∙ ap (λ (n : ℕ). headed c at n) (same at (omega arith) (omega arith))

-- where the first cell is marked and the others stay
pub stamp_marked : (c d : ℕ → ℕ) (at : ℕ) → d at ≡ 256 + c at % 256 → ((j : ℕ) → (j ≡ at → ⊥) → d j ≡ c j) → stamp_at d at ≡ with_mark (stamp_at c at)
unfolding stamp_at
stamp_marked c d at first same =
    tail_same c d at (λ j l h. same j (λ e. omega arith))
    ∙ parts (ap kind_named same_code) (eq-eqb (d at / 256) 1 (omega arith)) refl refl refl
  where
    same_code : d at % 256 ≡ c at % 256
    same_code = omega arith

-- ---- a stamp put

code_kind : (k : Kind) → kind_named (code k % 256) ≡ k
code_kind Local = refl
code_kind Send = refl
code_kind Receive = refl

code_unmarked : (k : Kind) → eqb (code k / 256) 1 ≡ false
code_unmarked Local = refl
code_unmarked Send = refl
code_unmarked Receive = refl

-- a cell among these, by its index
chunk : (d : ℕ → ℕ) (at i j : ℕ) (cs : List Cell) {c : ℕ → ℕ} → Wrote c d at (map number_of cs) → at + i ≡ j → i < length cs → d j ≡ number_of (get_or cs i [])
chunk d at i j cs w e l = ap d (sym e) ∙ w.there i (omega (arith, length-map cs number_of)) ∙ get_or-map number_of cs i [] 0 l

pub stored
    : (c d₁ d₂ d₃ e : ℕ → ℕ) (at : ℕ) (h : Header) (xs : List ℕ) → h.cover.bits < 2 ^ 64 → d₁ at ≡ code h.kind → ((j : ℕ) → (j ≢ at) → d₁ j ≡ c j)
    → Wrote d₁ d₂ (at + 1) (map number_of (first_chunks 2 4 (to_be_bytes w64 h.cover.bits))) → d₃ (at + 5) ≡ h.full → ((j : ℕ) → (j ≢ at + 5) → d₃ j ≡ d₂ j) → Wrote d₃ e (at + 6) xs
    → size h.cover.bits ≡ length xs → Stored c e at (unmarked h xs)
unfolding stamp_at
stored c d₁ d₂ d₃ e at h xs small kind off₁ cover full off₃ tail sized =
    record {
      stamp =
          parts
          (ap (λ (n : ℕ). kind_named (n % 256)) first ∙ code_kind h.kind)
          (ap (λ (n : ℕ). eqb (n / 256) 1) first ∙ code_unmarked h.kind)
          bits
          (before (at + 5) (omega arith) ∙ full)
          (ap (λ (n : ℕ). map (λ i. e (at + 6 + i)) (range_with_len 0 (size n))) bits
          ∙ ap (λ (n : ℕ). map (λ i. e (at + 6 + i)) (range_with_len 0 n)) sized
          ∙ sym (fill_by_all (λ i. e (at + 6 + i)) xs (length xs) 0 refl (λ k l. sym (tail.there k l))));
      elsewhere = λ j l.
          tail.elsewhere j (elim l [ inl b ↦ inl (omega arith) | inr a ↦ inr a ])
          ∙ off₃ j (λ q. elim l [ inl b ↦ omega arith | inr a ↦ omega arith ])
          ∙ cover.elsewhere j (elim l [ inl b ↦ inl (omega arith) | inr a ↦ inr (omega arith) ])
          ∙ off₁ j (λ q. elim l [ inl b ↦ omega arith | inr a ↦ omega arith ]);
    }
  where
    before : (j : ℕ) → j < at + 6 → e j ≡ d₃ j
    before j l = tail.elsewhere j (inl l)

    first : e at ≡ code h.kind
    first = before at (omega arith) ∙ off₃ at (λ q. omega arith) ∙ cover.elsewhere at (inl (omega arith)) ∙ kind

    cell : (i j : ℕ) → at + 1 + i ≡ j → i < 4 → e j ≡ number_of (get_or (first_chunks 2 4 (to_be_bytes w64 h.cover.bits)) i [])
    cell i j p l = before j (omega arith) ∙ off₃ j (λ q. omega arith) ∙ chunk d₂ (at + 1) i j (first_chunks 2 4 (to_be_bytes w64 h.cover.bits)) cover p l

    bits : word_at e (at + 1) ≡ h.cover.bits
    bits =
        omega (arith, cell 0 (at + 1) (omega arith) (omega arith), cell 1 (at + 1 + 1) (omega arith) (omega arith), cell 2 (at + 1 + 2) (omega arith) (omega arith), cell 3 (at + 1 + 2 + 1) (omega arith) (omega arith), from_be_bytes-to_be_bytes_8 h.cover.bits small)

-- a place put
pub placed : (c d : ℕ → ℕ) (at place : ℕ) → place < 2 ^ 32 → Wrote c d at (map number_of (first_chunks 2 2 (to_be_bytes w32 place))) → Placed c d at place
placed c d at place small w =
    record {
      there =
          omega (arith, chunk d at 0 at (first_chunks 2 2 (to_be_bytes w32 place)) w (omega arith) (omega arith), chunk d at 1 (at + 1) (first_chunks 2 2 (to_be_bytes w32 place)) w refl (omega arith), from_be_bytes-to_be_bytes_4 place small);
      elsewhere = w.elsewhere;
    }
