-- Sets of posts, held as the bits of a 64-bit number: bit q is set exactly when post q is a member.
use Rattle.std.specs.Prelude.{ℕ, zero, suc, ◌/◌, ◌%◌, ◌^◌, Bool, true, false, List, [], ◌∷◌, ◌++◌, length, drop, ◌==◌}

-- whether post q is in the set with these bits
unfoldable pub has : ℕ → ℕ → Bool
has bits q = bits / 2 ^ q % 2 == 1

-- q alone, or nothing
abbrev pub kept : Bool → ℕ → List ℕ
kept true q = q ∷ []
kept false q = []

-- the members below n, ascending
unfoldable pub below : ℕ → ℕ → List ℕ
below zero bits = []
below (suc n) bits = below n bits ++ kept (has bits n) n

-- all members, ascending; a post is below 64
abbrev pub members : ℕ → List ℕ
members bits = below 64 bits

abbrev pub size : ℕ → ℕ
size bits = length (members bits)

-- the members from q on, ascending: those that are left when the members below q are done
unfoldable pub from : ℕ → ℕ → List ℕ
from q bits = drop (length (below q bits)) (members bits)
