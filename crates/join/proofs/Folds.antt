-- Order and repeats make no difference to what a list joins to: proved once, from the law.
use Rattle.std.proofs.Common.{◌≡◌, List, [], ◌∷◌, sym, refl, ap, ◌∙◌}
use Rattle.join.specs.Folds.{joined, In, SameValues}
use Rattle.join.specs.Folds.In.{here, there}

module _ {J : Type 0} (join : J → J → J) (assoc : (x y z : J) → join (join x y) z ≡ join x (join y z)) (comm : (x y : J) → join x y ≡ join y x) (idem : (x : J) → join x x ≡ x) where
  -- what is joined first may as well be joined last
  pub joined_out : (x y : J) (ys : List J) → joined join (join x y) ys ≡ join x (joined join y ys)
  unfolding joined
  joined_out x y [] = refl
  joined_out x y (z ∷ ys) = ap (λ (w : J). joined join w ys) (assoc x y z) ∙ joined_out x (join y z) ys

  -- a value already there may be joined again
  absorbed_in : (y : J) (ys : List J) → In y ys → (x : J) → join y (joined join x ys) ≡ joined join x ys
  unfolding joined
  absorbed_in y _ (here {ys = zs}) x =
      let out : joined join (join x y) zs ≡ join y (joined join x zs) = ap (λ (w : J). joined join w zs) (comm x y) ∙ joined_out y x zs in
      ap (join y) out ∙ sym (assoc y y (joined join x zs)) ∙ ap (λ (w : J). join w (joined join x zs)) (idem y) ∙ sym out
  absorbed_in y _ (there {y = z} {ys = zs} i) x = absorbed_in y zs i (join x z)

  absorbed : (y x : J) (xs : List J) → In y (x ∷ xs) → join y (joined join x xs) ≡ joined join x xs
  absorbed y _ xs here = sym (joined_out y y xs) ∙ ap (λ (w : J). joined join w xs) (idem y)
  absorbed y x xs (there i) = absorbed_in y xs i x

  absorbed_all : (x : J) (xs : List J) (y : J) (ys : List J) → ((z : J) → In z (y ∷ ys) → In z (x ∷ xs)) → join (joined join y ys) (joined join x xs) ≡ joined join x xs
  unfolding joined
  absorbed_all x xs y [] all = absorbed y x xs (all y here)
  absorbed_all x xs y (z ∷ ys) all =
      ap (λ (w : J). join w (joined join x xs)) (joined_out y z ys)
      ∙ assoc y (joined join z ys) (joined join x xs)
      ∙ ap (join y) (absorbed_all x xs z ys (λ w i. all w (there i)))
      ∙ absorbed y x xs (all y here)

  pub order_free : (x : J) (xs : List J) (y : J) (ys : List J) → SameValues (x ∷ xs) (y ∷ ys) → joined join x xs ≡ joined join y ys
  order_free x xs y ys same =
      sym (absorbed_all x xs y ys (λ z. (same z).1)) ∙ comm (joined join y ys) (joined join x xs) ∙ absorbed_all y ys x xs (λ z. (same z).0)
