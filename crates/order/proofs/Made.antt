-- An array that is made place by place.
use Rattle.std.proofs.Common.{◌≡◌, ℕ, zero, suc, ◌+◌, ◌<◌, ◌≤◌, List, get_or, sym, subst, inl, inr, arith}
use Rattle.std.proofs.lemmas.Bool.{cases_eq}
use Rattle.std.specs.Array.{IsFromFnResultFrom}
use Rattle.std.specs.Fn.{Called}
use denote.Param.Members.{Mut}

-- what each call gives stands at its place, where no call changes what the closure holds
pub made_each
    : {F B : Type 0} (g : Mut F (ℕ × Unit {0}) B) (P : ℕ → B → Type 0) (f : F) → ((k : ℕ) (y : B) (q : F) → Called g f (k, tt) y q → P k y × (q ≡ f))
    → (ys : List B) (n i : ℕ) → IsFromFnResultFrom g f ys i n → (k : ℕ) (d : B) → i ≤ k → k < i + n → P k (get_or ys k d)
made_each g P f step ys zero i made k d low high = absurd (omega arith)
made_each g P f step ys (suc n) i made k d low high =
    let here = step i made.1 made.0 made.3 in
    elim (cases_eq k i) [
      | inl e ↦ subst (λ j. P j (get_or ys j d)) (sym e) (subst (λ y. P i y) (sym (made.2.1 d)) here.0)
      | inr ne ↦ made_each g P f step ys n (i + 1) (subst (λ q. IsFromFnResultFrom g q ys (i + 1) n) here.1 made.4) k d (omega arith) (omega arith)
    ]
