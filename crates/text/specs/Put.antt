-- What a writer leaves in lent bytes. Assumes nothing.
use Rattle.std.specs.Prelude.{ℕ, suc, ◌≡◌, List, [], ◌∷◌, length, set}
use Rattle.place.specs.Place.{further}

-- bytes stored one after the other from a place on, as far as there is room: a store past the end changes nothing
abbrev pub put_all : List ℕ → ℕ → List ℕ → List ℕ
put_all out at [] = out
put_all out at (b ∷ bs) = put_all (set out at b) (suc at) bs

-- what a writer of a text promises of lent bytes, before and after, and of its result: the text from a place on, and the place after it
abbrev pub Puts : List ℕ → ℕ → List ℕ → List ℕ → ℕ → Type 0
Puts out at text after result = (after ≡ put_all out at text) × (result ≡ further at (length text))
