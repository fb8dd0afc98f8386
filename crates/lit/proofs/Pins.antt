-- Codes and literals that pin the definitions, by computation: each is one on which a neighbouring definition answers otherwise. Assumes nothing.
use Rattle.std.specs.Prelude.{Some, None}
use mathlib.Core.Path.{◌≡◌, refl}
use mathlib.Core.Bool.{true, false}
use Rattle.lit.specs.Code.{is_odd, flipped, variable, literal, halved, doubled, flipped_by}

-- the index 3 and the code 6 name the same variable, and so does the code 7; 0 and 1 are the constant's
pub named : (doubled (variable 3) ≡ Some (literal 6)) × (halved (literal 6) ≡ variable 3) × (halved (literal 7) ≡ variable 3)
    × (halved (literal 0) ≡ variable 0) × (halved (literal 1) ≡ variable 0)
unfolding doubled
named = (refl, refl, refl, refl, refl)

-- a code names its variable negated if it is odd
pub signs : (is_odd 0 ≡ false) × (is_odd 1 ≡ true) × (is_odd 4 ≡ false) × (is_odd 5 ≡ true)
unfolding is_odd
signs = (refl, refl, refl, refl)

-- the largest index whose code fits 32 bits, and the one after it
pub doubled-limit : (doubled (variable 2147483647) ≡ Some (literal 4294967294)) × (doubled (variable 2147483648) ≡ None)
unfolding doubled
doubled-limit = (refl, refl)

-- an entry's low bit is flipped by an odd code and by no other; the variable stays
pub flips : (flipped 6 2 ≡ 6) × (flipped 6 3 ≡ 7) × (flipped 7 2 ≡ 7) × (flipped 7 3 ≡ 6) × (flipped 2 9 ≡ 3)
    × (flipped_by (literal 6) (literal 3) ≡ literal 7) × (flipped_by (literal 7) (literal 8) ≡ literal 7)
unfolding flipped
flips = (refl, refl, refl, refl, refl, refl, refl)
