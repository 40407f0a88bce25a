-- What a list of values joins to, and lists of the same values.
use Rattle.std.specs.Prelude.{◌≡◌, ◌↔◌, List, [], ◌∷◌}

-- a value joined with each of a list
unfoldable pub joined : {J : Type 0} → (J → J → J) → J → List J → J
joined join x [] = x
joined join x (y ∷ ys) = joined join (join x y) ys

pub data In {J : Type 0} (x : J) : List J → Type 0 where
  here : {ys : List J} → In x (x ∷ ys)
  there : {y : J} {ys : List J} → In x ys → In x (y ∷ ys)

-- two lists name the same values, in whatever order and however often
abbrev pub SameValues : {J : Type 0} → List J → List J → Type 0
SameValues {J} xs ys = (x : J) → In x xs ↔ In x ys

-- Lists of the same values join to one value: order and repeats make no difference.
abbrev pub OrderFree : {J : Type 0} → (J → J → J) → Type 0
OrderFree {J} join = (x : J) (xs : List J) (y : J) (ys : List J) → SameValues (x ∷ xs) (y ∷ ys) → joined join x xs ≡ joined join y ys
