-- Which stamps a pile holds after an append and after a mark.
use Rattle.std.proofs.Common.{◌≡◌, ℕ, ◌+◌, ◌-◌, ◌<◌, ◌≤◌, ltb, leb, List, [], ◌∷◌, length, get_or, Ok, Result, sym, ap, ◌∙◌, subst, inl, inr, arith}
use Rattle.keeper.specs.Answers.{of_stamp}
use Rattle.keeper.specs.Moves.{Appended, Marked}
use Rattle.keeper.specs.Piles.{Pile, Stamp, held_count, stamp_of, no_stamp, with_mark}
use Rattle.keeper.specs.declared.fault.KeeperFault.{KeeperFault}
use Rattle.std.proofs.lemmas.List.{length_push, length-set, get_or_push, get_or_append_left, get_or-set_same, get_or-set_other}
use Rattle.std.proofs.lemmas.Bool.{cases_eq, and_from, lt-ltb, le-leb}
use Rattle.std.proofs.lemmas.Bool.Decides.{nat_tests}

-- Stamp k of post p is s.
pub record Holds (m : Pile) (p k : ℕ) (s : Stamp) : Type 0 where
  pub known : p < m.posts
  pub some : 0 < k
  pub within : k ≤ held_count m p
  pub stamp : stamp_of m p k ≡ s

-- what is known of a stamp that is found
pub record Located (posts count p k : ℕ) : Type 0 where
  pub known : p < posts
  pub some : 0 < k
  pub within : k ≤ count

pub located : {A : Type 0} (posts count p k : ℕ) (x : A) → Ok x ≡ of_stamp posts count p k (Ok x) → Located posts count p k
located posts count p k x e = record { known = grind (arith, nat_tests); some = grind (arith, nat_tests); within = grind (arith, nat_tests) }

-- a question about a held stamp is answered by that stamp
pub asked
    : {A : Type 0} (m : Pile) (p k : ℕ) (s : Stamp) (field : Stamp → Result A KeeperFault) → Holds m p k s
    → of_stamp m.posts (held_count m p) p k (field (stamp_of m p k)) ≡ field s
asked m p k s field h =
    let known = lt-ltb p m.posts h.known in
    let held = and_from (ltb 0 k) (leb k (held_count m p)) (lt-ltb 0 k h.some) (le-leb k (held_count m p) h.within) in
    rw (known, held) (ap field h.stamp)

-- a post's stamps that stay as they were
pub holds_same : (m n : Pile) (p k : ℕ) (s : Stamp) → n.posts ≡ m.posts → n.stamps p ≡ m.stamps p → Holds m p k s → Holds n p k s
holds_same m n p k s posts same h =
    record {
      known = omega (arith, h.known);
      some = h.some;
      within = omega (arith, h.within, ap length same);
      stamp = ap (λ (xs : List Stamp). get_or xs (k - 1) no_stamp) same ∙ h.stamp;
    }

pub count-append : (was is : Pile) (p : ℕ) (s : Stamp) → Appended was is p s → held_count is p ≡ held_count was p + 1
count-append was is p s a = ap length a.own ∙ length_push (was.stamps p) s

-- the stamp that went in has the next number
pub holds_new : (was is : Pile) (p : ℕ) (s : Stamp) → Appended was is p s → p < was.posts → Holds is p (held_count was p + 1) s
holds_new was is p s a l =
    record {
      known = omega (arith, a.same_posts);
      some = omega arith;
      within = omega (arith, count-append was is p s a);
      stamp =
          ap (λ (xs : List Stamp). get_or xs (held_count was p + 1 - 1) no_stamp) a.own ∙ get_or_push (was.stamps p) s no_stamp (held_count was p + 1 - 1) (omega arith);
    }

pub holds_append
    : (was is : Pile) (p q k : ℕ) (s t : Stamp) → Appended was is p s → Holds was q k t → Holds is q k t
holds_append was is p q k s t a h =
    elim (cases_eq q p) [
      | inl same ↦ subst (λ (x : ℕ). Holds is x k t) (sym same) (own (subst (λ (x : ℕ). Holds was x k t) same h))
      | inr ne ↦ holds_same was is q k t a.same_posts (a.others q ne) h
    ]
  where
    own : Holds was p k t → Holds is p k t
    own h =
        record {
          known = omega (arith, h.known, a.same_posts);
          some = h.some;
          within = omega (arith, h.within, count-append was is p s a);
          stamp =
              ap (λ (xs : List Stamp). get_or xs (k - 1) no_stamp) a.own ∙ get_or_append_left (was.stamps p) (s ∷ []) no_stamp (k - 1) (omega (arith, h.within, h.some)) ∙ h.stamp;
        }

pub count_mark : (was is : Pile) (p k q : ℕ) → Marked was is p k → held_count is q ≡ held_count was q
count_mark was is p k q m =
    elim (cases_eq q p) [
      | inl same ↦ ap (λ (x : ℕ). held_count is x) same ∙ ap length m.own ∙ length-set (was.stamps p) (k - 1) (with_mark (stamp_of was p k)) ∙ ap (λ (x : ℕ). held_count was x) (sym same)
      | inr ne ↦ ap length (m.others q ne)
    ]

-- the stamp that was marked
pub holds_marked : (was is : Pile) (p k : ℕ) (s : Stamp) → Marked was is p k → Holds was p k s → Holds is p k (with_mark s)
holds_marked was is p k s m h =
    record {
      known = omega (arith, h.known, m.same_posts);
      some = h.some;
      within = omega (arith, h.within, count_mark was is p k p m);
      stamp =
          ap (λ (xs : List Stamp). get_or xs (k - 1) no_stamp) m.own
          ∙ get_or-set_same (was.stamps p) (k - 1) (with_mark (stamp_of was p k)) no_stamp (omega (arith, h.within, h.some)) ∙ ap with_mark h.stamp;
    }

-- and every other
pub holds_mark
    : (was is : Pile) (p k q j : ℕ) (t : Stamp) → Marked was is p k → 0 < k → (q ≡ p → j ≡ k → ⊥) → Holds was q j t → Holds is q j t
holds_mark was is p k q j t m some apart h =
    elim (cases_eq q p) [
      | inl same ↦ subst (λ (x : ℕ). Holds is x j t) (sym same) (own (apart same) (subst (λ (x : ℕ). Holds was x j t) same h))
      | inr ne ↦ holds_same was is q j t m.same_posts (m.others q ne) h
    ]
  where
    own : (j ≡ k → ⊥) → Holds was p j t → Holds is p j t
    own ne h =
        record {
          known = omega (arith, h.known, m.same_posts);
          some = h.some;
          within = omega (arith, h.within, count_mark was is p k p m);
          stamp =
              ap (λ (xs : List Stamp). get_or xs (j - 1) no_stamp) m.own
              ∙ get_or-set_other (was.stamps p) (k - 1) (j - 1) (with_mark (stamp_of was p k)) no_stamp (λ e. ne (omega (arith, e, h.some))) ∙ h.stamp;
        }
