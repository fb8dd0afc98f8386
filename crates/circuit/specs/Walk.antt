-- The walk, in document 01's order: a literal's image is found by walking the inputs of its gate first; then the gate is made, or something stands
-- for it already. Assumes nothing.
use Rattle.lit.specs.declared.Lit.{Lit}
use Rattle.std.specs.Prelude.{ℕ, zero, suc, ◌+◌, ◌*◌, ◌/◌, min, max, Bool, true, false, cond, ◌&&◌, ◌||◌, List, [], ◌∷◌, ◌++◌, eqb, length, get_or, Option, Some, None}
use Rattle.lit.specs.Code.{var, literal}
use Rattle.circuit.specs.declared.Refusal.{Refusal}
use Rattle.circuit.specs.declared.Refusal.TheVariants.{TooBig, Undefined, Cycle}
use Rattle.circuit.specs.Map.{image_in, store, code_of}
use Rattle.circuit.specs.Graph.{Gate, Graph, gate_for}

-- all of a circuit that the walk sees
pub record Net : Type 0 where
  pub graph : Graph
  pub hash : Bool
  pub fold : Bool

-- how many sources there are
abbrev pub source_count : Net → ℕ
source_count N = length N.graph.sources

-- a gate made: its two input codes
pub record Pair : Type 0 where
  pub larger : ℕ
  pub smaller : ℕ

-- what the walk has done so far: the map, and the gates made
pub record Work : Type 0 where
  pub images : List ℕ
  pub made : List Pair

-- where there are n sources: the code of the first gate made, and the next code that is free
unfoldable pub first_code : ℕ → ℕ
first_code n = 2 * (n + 1)

unfoldable pub next_code : ℕ → List Pair → ℕ
next_code n made = first_code n + 2 * length made

-- what folding makes of a gate, if anything
unfoldable pub folded : ℕ → ℕ → Option ℕ
folded hi lo =
    cond (eqb hi 0 || eqb lo 0) (Some 0) (cond (eqb hi 1 || eqb hi lo) (Some lo) (cond (eqb lo 1) (Some hi) None))

-- the first that is there
abbrev pub or_else : Option ℕ → Option ℕ → Option ℕ
or_else None other = other
or_else (Some t) other = Some t

-- the code of a gate made with this pair, if there is one; the first in the list has the code t
abbrev pub made_before : List Pair → ℕ → ℕ → ℕ → Option ℕ
made_before [] t hi lo = None
made_before (p ∷ ps) t hi lo = or_else (made_before ps (t + 2) hi lo) (cond (eqb p.larger hi && eqb p.smaller lo) (Some t) None)

-- folding, and the search among the gates made, as the flags allow them
abbrev pub folded_if : Bool → ℕ → ℕ → Option ℕ
folded_if fold hi lo = cond fold (folded hi lo) None

abbrev pub made_if : Bool → List Pair → ℕ → ℕ → ℕ → Option ℕ
made_if hash made t hi lo = cond hash (made_before made t hi lo) None

-- a code that stands for the AND of two codes already
unfoldable pub already : Net → List Pair → ℕ → ℕ → Option ℕ
already N made hi lo = or_else (folded_if N.fold hi lo) (made_if N.hash made (first_code (source_count N)) hi lo)

-- the gate output d gets the code that stands for it already, or a new gate
unfoldable pub settle_as : Net → Work → ℕ → ℕ → ℕ → Option ℕ → Work
settle_as N w d hi lo (Some t) = record { images = store w.images d t; made = w.made }
settle_as N w d hi lo None =
    record { images = store w.images d (next_code (source_count N) w.made); made = w.made ++ (record { larger = hi; smaller = lo } ∷ []) }

-- a gate whose inputs have the images x and y is settled: larger code first
unfoldable pub settle_on : Net → Work → ℕ → ℕ → ℕ → Work
settle_on N w d x y = settle_as N w d (max x y) (min x y) (already N w.made (max x y) (min x y))

-- a gate is settled by the images of its inputs
unfoldable pub settle : Net → Work → Gate → Work
settle N w g = settle_on N w g.output (code_of (image_in w.images g.first)) (code_of (image_in w.images g.second))

-- the walk ends with the work done, or stops with a refusal
pub data Out : Type 0 where
  reached : Work → Out
  stopped : Refusal → Out

-- what is found at a literal: it has its image; it is refused; or its gate is to be entered
pub data Look : Type 0 where
  mapped : Look
  refused : Refusal → Look
  enter : Gate → Look

-- the literal is the middle entry of the path, which holds the literals entered and not yet left, oldest first; signs count
abbrev pub is_middle : List ℕ → ℕ → Bool
is_middle [] c = false
is_middle (p ∷ ps) c = eqb (get_or (p ∷ ps) (length (p ∷ ps) / 2) 0) c

-- in this order: an image, a cycle, no gate, a gate
abbrev pub look_at : ℕ → Option Lit → Bool → Option Gate → Look
look_at c (Some t) middle g = mapped
look_at c None true g = refused (Cycle (literal c))
look_at c None false None = refused (Undefined (literal c))
look_at c None false (Some g) = enter g

-- a look at the literal c
unfoldable pub look : Net → List ℕ → Work → ℕ → Look
look N path w c = look_at c (image_in w.images c) (is_middle path c) (gate_for N.graph.gates (var c))

-- go on from where the walk has come to, unless it has stopped
abbrev pub and_then : Out → (Work → Out) → Out
and_then (reached w) go = go w
and_then (stopped r) go = stopped r

-- first input, second input, and then the gate
unfoldable pub through_inputs : Net → (Work → ℕ → Out) → Gate → Work → Out
through_inputs N rec g w = and_then (rec w g.first) (λ w₁. and_then (rec w₁ g.second) (λ w₂. reached (settle N w₂ g)))

-- what a look leads to: the literal is left, refused, or its gate entered
abbrev pub answer : Look → Work → (Gate → Out) → Out
answer mapped w go = reached w
answer (refused r) w go = stopped r
answer (enter g) w go = go g

-- what is said of a gate that there is no room to enter: 1, which the walk says nowhere else. With two entries a gate it is never said
-- (`never_too_deep` in proofs/Demands.antt)
abbrev pub no_room : Out
no_room = stopped TooBig

-- the walk of the literal c, with room for `room` more entries on the path
unfoldable pub walk : Net → ℕ → List ℕ → Work → ℕ → Out
walk N zero path w c = answer (look N path w c) w (λ g. no_room)
walk N (suc room) path w c = answer (look N path w c) w (λ g. through_inputs N (λ w' c'. walk N room (path ++ (c ∷ [])) w' c') g w)

-- the path holds two entries a gate
abbrev pub stack_room : Net → ℕ
stack_room N = 2 * length N.graph.gates

-- literals in turn, each with the whole room
unfoldable pub walk_all : Net → ℕ → List ℕ → Work → Out
walk_all N room [] w = reached w
walk_all N room (c ∷ cs) w = and_then (walk N room [] w c) (λ w'. walk_all N room cs w')
