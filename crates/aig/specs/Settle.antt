-- What settling a gate leaves, on the lent lists. Assumes nothing.
use Rattle.std.specs.Prelude.{ℕ, ◌+◌, ◌<◌, ◌≡◌, Bool, cond, List}
use Rattle.lit.specs.declared.Lit.{Lit}
use Rattle.circuit.specs.Map.{store}
use Rattle.circuit.specs.Walk as walk
use Rattle.aig.specs.declared.shape.Shape.{Shape}
use Rattle.fold.specs.declared.Pair.{Pair}
use Rattle.aig.specs.declared.trie.Search.{Search}
use Rattle.aig.specs.declared.trie.Search.TheVariants.{Found, Free}
use Rattle.aig.specs.declared.walk.Walk.{Walk}
use Rattle.aig.specs.declared.walk.State.{State}
use Rattle.aig.specs.declared.walk.State.TheVariants.{Return}
use Rattle.aig.specs.Trie.{linked}
use Rattle.aig.specs.Already.{already_in, Says, CanSeek}
use Rattle.aig.specs.Store.{with_gate, code_at, MadeIn}

-- the next state, and the lists as they are left
pub record Left : Type 0 where
  pub state : State
  pub map : List ℕ
  pub out : List ℕ
  pub scratch : List ℕ

-- the same of its parts
abbrev pub left : State → List ℕ → List ℕ → List ℕ → Left
left r m o w = record { state = r; map = m; out = o; scratch = w }

-- the numbers that a step hands on
abbrev pub numbers : ℕ → ℕ → Walk
numbers depth made = record { depth = depth; made = made }

-- the scratch words with gate k put in a place, if gates are to be found again
abbrev pub linked_if : Bool → ℕ → ℕ → List ℕ → List ℕ
linked_if on k place ws = cond on (linked k place ws) ws

-- a gate made
abbrev pub appended : Shape → Walk → Lit → Pair → List ℕ → List ℕ → List ℕ → ℕ → Left
appended s w d p m o ws place =
    left (Return (numbers w.depth (w.made + 1))) (store m d.0 (code_at s w.made).0) (with_gate o w.made p) (linked_if s.hash w.made place ws)

-- a gate with the inputs p can be settled: it can be looked for, and there is room for it
pub record CanSettle (s : Shape) (w : Walk) (p : Pair) (o ws : List ℕ) : Type 0 where
  pub seek : CanSeek s p o ws
  pub fits : w.made < s.gates

-- the output d of a gate with the inputs p gets the code that stands for it already, or that of a gate made
abbrev pub settled : Shape → Walk → Lit → Pair → List ℕ → List ℕ → List ℕ → Search → Left
settled s w d p m o ws (Found t) = left (Return w) (store m d.0 t.0) o ws
settled s w d p m o ws (Free place) = appended s w d p m o ws place

-- what a search says decides what is left
pub record Settled (s : Shape) (w : Walk) (d : Lit) (p : Pair) (made : List walk.Pair) (m o ws : List ℕ) (r : Left) : Type 0 where
  pub search : Search
  pub says : Says s made p ws (already_in s made p) search
  pub leaves : r ≡ settled s w d p m o ws search

-- whatever gates made the lent words hold
abbrev pub SettledIn : Shape → Walk → Lit → Pair → List ℕ → List ℕ → List ℕ → Left → Type 0
SettledIn s w d p m o ws r = (made : List walk.Pair) → MadeIn s made o ws → Settled s w d p made m o ws r
