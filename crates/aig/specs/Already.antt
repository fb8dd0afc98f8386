-- What stands for a gate already. Assumes nothing.
use Rattle.std.specs.Prelude.{ℕ, ◌+◌, ◌*◌, ◌<◌, ◌≡◌, true, List, Option, Some, None}
use Rattle.circuit.specs.Walk as walk
use Rattle.aig.specs.declared.shape.Shape.{Shape}
use Rattle.fold.specs.declared.Pair.{Pair}
use Rattle.fold.specs.Fold.{already_of}
use Rattle.aig.specs.declared.trie.Search.{Search}
use Rattle.aig.specs.declared.trie.Search.TheVariants.{Found, Free}
use Rattle.aig.specs.Layout.{links_at, links_of}
use Rattle.aig.specs.Trie.{FreeAt}
use Rattle.aig.specs.Store.{MadeIn}

-- the code of a gate made with the pair
abbrev pub made_before : Shape → List walk.Pair → Pair → Option ℕ
made_before s made p = walk.made_before made (walk.first_code s.sources) p.larger.0 p.smaller.0

-- the same where hashing is on, and else none
abbrev pub made_if : Shape → List walk.Pair → Pair → Option ℕ
made_if s made p = walk.made_if s.hash made (walk.first_code s.sources) p.larger.0 p.smaller.0

-- the code that stands for the pair, as the flags allow it
abbrev pub already_in : Shape → List walk.Pair → Pair → Option ℕ
already_in s made p = walk.or_else (walk.folded_if s.fold p.larger.0 p.smaller.0) (made_if s made p)

-- the pair's two codes
abbrev pub codes : Pair → walk.Pair
codes p = record { larger = p.larger.0; smaller = p.smaller.0 }

-- a place of the scratch words is free for a gate with the pair
pub record FreeIn (s : Shape) (made : List walk.Pair) (p : Pair) (scratch : List ℕ) (place : ℕ) : Type 0 where
  pub at : ℕ
  pub is : place ≡ links_at s + at
  pub free : FreeAt s.vars made (links_of s scratch) (codes p) at

-- a search's answer: the code that is there; or that there is none, and with hashing the place for a gate with the pair
abbrev pub Says : Shape → List walk.Pair → Pair → List ℕ → Option ℕ → Search → Type 0
Says s made p scratch o (Found t) = Some t ≡ already_of o
Says s made p scratch o (Free place) = (None ≡ already_of o) × (s.hash ≡ true → FreeIn s made p scratch place)

-- a pair can be looked for: gates made stand in the lent words, and its codes are below 2V+2
pub record CanSeek (s : Shape) (p : Pair) (out scratch : List ℕ) : Type 0 where
  pub made : List walk.Pair
  pub made_in : MadeIn s made out scratch
  pub larger : p.larger.0 < 2 * s.vars
  pub smaller : p.smaller.0 < 2 * s.vars

-- whatever gates made the lent words hold, the search's answer is what `among` finds among them
abbrev pub Answers : (Shape → List walk.Pair → Pair → Option ℕ) → Shape → Pair → List ℕ → List ℕ → Search → Type 0
Answers among s p out scratch r = (made : List walk.Pair) → MadeIn s made out scratch → Says s made p scratch (among s made p) r
