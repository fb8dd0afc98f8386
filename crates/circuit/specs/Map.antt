-- The map from variables to codes: a list of words, one a variable. Assumes nothing.
use Rattle.lit.specs.declared.Lit.{Lit}
use Rattle.std.specs.Prelude.{ℕ, cond, List, eqb, ltb, get_or, set, Option, Some, None}
use Rattle.lit.specs.Code.{var, flipped, literal}

-- the word that stands for "no image", 2 ^ 32 - 1
abbrev pub no_image : ℕ
no_image = 4294967295

-- the image of a literal c whose variable has the entry e: the entry, with its low bit flipped if c is odd
unfoldable pub entry_image : ℕ → ℕ → Option Lit
entry_image e c = cond (eqb e no_image) None (Some (literal (flipped e c)))

-- the image of a literal in a map: past the map there is none
unfoldable pub image_in : List ℕ → ℕ → Option Lit
image_in m c = entry_image (get_or m (var c) no_image) c

-- the image of a literal in a lent map, of which only the entries 0 to V are the map: past V there is none
unfoldable pub image_of : ℕ → List ℕ → ℕ → Option Lit
image_of top m c = cond (ltb top (var c)) None (image_in m c)

-- the map in which the literal d has the image t
unfoldable pub store : List ℕ → ℕ → ℕ → List ℕ
store m d t = set m (var d) (flipped t d)

-- the code of an image
unfoldable pub code_of : Option Lit → ℕ
code_of None = 0
code_of (Some l) = l.0
