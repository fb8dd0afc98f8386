-- What the walk keeps true of its work, and of the machine that does it: words of the contracts inside the renumbering and of proofs. That it is kept is
-- proved in proofs/Invariant.antt and proofs/Machine.antt. Assumes nothing.
use Rattle.std.specs.Prelude.{ℕ, ◌+◌, ◌*◌, ◌-◌, ◌<◌, ◌≤◌, min, max, ◌≡◌, ◌⊎◌, ◌≢◌, Bool, true, false, cond, ◌&&◌, List, [], ◌∷◌, map, eqb, length, get_or, take, Option, Some, None}
use Rattle.lit.specs.Code.{var, is_odd, flipped, literal}
use Rattle.circuit.specs.declared.Refusal.TheVariants.{Undefined}
use Rattle.circuit.specs.Refusals.{refusal_number}
use Rattle.circuit.specs.Graph.{In, Gate, Graph, out_var, gate_for, Grounded}
use Rattle.circuit.specs.Map.{no_image}
use Rattle.circuit.specs.Walk.{Net, source_count, Pair, Work, Out, reached, stopped, and_then, walk, settle, stack_room, first_code, next_code, folded_if, already}
use Rattle.circuit.specs.Ordered.{no_pair, InOrder, flip_if, bit_of, values_of, given_from}
use Rattle.circuit.specs.Machine.{Frame, At, transfer, back, Machine, path_of}

-- a variable's entry
abbrev pub entry : List ℕ → ℕ → ℕ
entry m v = get_or m v no_image

-- the code of a literal whose variable has an entry
abbrev pub code_in : List ℕ → ℕ → ℕ
code_in m c = flipped (entry m (var c)) c

-- the bit of c where d, a literal of the same variable, has the bit x
unfoldable pub like : ℕ → ℕ → Bool → Bool
like c d x = flip_if (is_odd c) (flip_if (is_odd d) x)

-- the literal c has the bit b, by its variable
pub data Reads (G : Graph) (given : ℕ → Bool) : ℕ → Bool → Type 0 where
  by_constant : {c : ℕ} {b : Bool} → var c ≡ 0 → b ≡ is_odd c → Reads G given c b
  by_source : {c : ℕ} {b : Bool} (k : ℕ) → k < length G.sources → var c ≡ var (get_or G.sources k 0)
      → b ≡ like c (get_or G.sources k 0) (given k) → Reads G given c b
  by_gate : {c : ℕ} {b : Bool} (g : Gate) (x y : Bool) → In g G.gates → var c ≡ out_var g
      → Reads G given g.first x → Reads G given g.second y → b ≡ like c g.output (x && y) → Reads G given c b

-- the bit of a code, of n sources and the gates made
unfoldable pub val : ℕ → (ℕ → Bool) → List Pair → ℕ → Bool
val n given made t = bit_of (values_of made (given_from given 0 n)) t

-- a gate made, by its inputs
abbrev pub pair : ℕ → ℕ → Pair
pair hi lo = record { larger = hi; smaller = lo }

-- the images hi and lo of a gate's inputs, larger first, make t: by a folding row, if folding is on and one takes them, or else as a gate made
abbrev pub Makes : Net → List Pair → ℕ → ℕ → ℕ → Type 0
Makes N made hi lo t =
    (folded_if N.fold hi lo ≡ Some t)
    ⊎ ((j : ℕ) × (j < length made) × (t ≡ first_code (source_count N) + 2 * j) × (get_or made j no_pair ≡ pair hi lo) × (folded_if N.fold hi lo ≡ None))

-- each pair was made because nothing stood for it already
abbrev pub Fresh : Net → List Pair → Type 0
Fresh N made = (j : ℕ) → j < length made → already N (take j made) (get_or made j no_pair).larger (get_or made j no_pair).smaller ≡ None

-- 1 for an entry that holds a code
unfoldable pub one_of : ℕ → ℕ
one_of e = cond (eqb e no_image) 0 1

-- how many gates have their image
unfoldable pub settled : List ℕ → List Gate → ℕ
settled m [] = 0
settled m (g ∷ gs) = one_of (entry m (out_var g)) + settled m gs

-- what checks 1 and 4 leave: codes stay below the word for no image, and what is defined lies within the map
pub record Sized (N : Net) (top : ℕ) : Type 0 where
  pub few : 2 * (source_count N + length N.graph.gates + 1) ≤ no_image
  pub sources : (d : ℕ) → In d N.graph.sources → var d ≤ top
  pub outputs : (g : Gate) → In g N.graph.gates → out_var g ≤ top

-- both inputs of the gate have images
abbrev pub BothMapped : List ℕ → Gate → Type 0
BothMapped m g = (entry m (var g.first) ≢ no_image) × (entry m (var g.second) ≢ no_image)

-- the larger and the smaller image of a gate's inputs
abbrev pub larger_in : List ℕ → Gate → ℕ
larger_in m g = max (code_in m g.first) (code_in m g.second)

abbrev pub smaller_in : List ℕ → Gate → ℕ
smaller_in m g = min (code_in m g.first) (code_in m g.second)

-- the gate's image is what its inputs' images make: a gate made, or what a folding row gives
abbrev pub RuleFor : Net → List ℕ → List Pair → Gate → Type 0
RuleFor N m made g = Makes N made (larger_in m g) (smaller_in m g) (code_in m g.output)

-- no folding row takes the gate's inputs' images
abbrev pub Unfolded : Net → List ℕ → Gate → Type 0
Unfolded N m g = folded_if N.fold (larger_in m g) (smaller_in m g) ≡ None

-- the j-th gate made is the image of a gate that no folding row took
pub record FromGate (N : Net) (m : List ℕ) (made : List Pair) (j : ℕ) : Type 0 where
  pub gate : Gate
  pub is_gate : In gate N.graph.gates
  pub is_mapped : entry m (out_var gate) ≢ no_image
  pub unfolded : Unfolded N m gate
  pub code : code_in m gate.output ≡ first_code (source_count N) + 2 * j
  pub words : get_or made j no_pair ≡ pair (larger_in m gate) (smaller_in m gate)

-- what holds of the map and the gates made after every step
pub record Inv (N : Net) (top : ℕ) (w : Work) : Type 0 where
  -- the map has an entry a variable, and its codes are those given out so far
  pub size : length w.images ≡ top + 1
  pub low : (v : ℕ) → entry w.images v ≢ no_image → entry w.images v < next_code (source_count N) w.made
  -- what has an image reaches only what is defined and no cycle, and has its image's bit
  pub grounded : (v : ℕ) → entry w.images v ≢ no_image → Grounded N.graph v
  pub reads : (given : ℕ → Bool) (v : ℕ) → entry w.images v ≢ no_image
      → Reads N.graph given (2 * v) (val (source_count N) given w.made (entry w.images v))
  -- the gates made stand in order, and were each made because nothing stood for the pair already
  pub order : InOrder (source_count N) w.made
  pub fresh : Fresh N w.made
  -- the constant and the sources have their codes
  pub leaves : (v : ℕ) → In v (0 ∷ map var N.graph.sources) → entry w.images v ≢ no_image
  pub zero_code : entry w.images 0 ≡ 0
  pub source_codes : (k : ℕ) → k < source_count N → code_in w.images (get_or N.graph.sources k 0) ≡ 2 * (k + 1)
  -- no more gates are made than have images; one with an image has inputs with images, which make it
  pub few : length w.made ≤ settled w.images N.graph.gates
  pub closed : (g : Gate) → In g N.graph.gates → entry w.images (out_var g) ≢ no_image → BothMapped w.images g
  pub ruled : (g : Gate) → In g N.graph.gates → entry w.images (out_var g) ≢ no_image → RuleFor N w.images w.made g
  -- with hashing off, gates that no folding row took have codes of their own
  pub kept : N.hash ≡ false → (g g' : Gate) → In g N.graph.gates → In g' N.graph.gates
      → entry w.images (out_var g) ≢ no_image → entry w.images (out_var g') ≢ no_image
      → Unfolded N w.images g → Unfolded N w.images g' → code_in w.images g.output ≡ code_in w.images g'.output → g ≡ g'
  -- each gate made is the image of a gate
  pub from : (j : ℕ) → j < length w.made → FromGate N w.images w.made j

-- the machine

-- what is left to do for a literal once the input under way has its image
abbrev pub rest_with : Net → ℕ → List ℕ → ℕ → Work → Bool → Option Gate → Out
rest_with N room path c w on_second None = stopped (Undefined (literal c))
rest_with N room path c w false (Some g) = and_then (walk N room path w g.second) (λ w₂. reached (settle N w₂ g))
rest_with N room path c w true (Some g) = reached (settle N w g)

-- what the whole comes to, where the walk under way comes to o
unfoldable pub resume : Net → List Frame → Out → Out
resume N [] o = o
resume N (f ∷ fs) o =
    resume N fs
    (and_then o (λ w. rest_with N (stack_room N - length (f ∷ fs)) (path_of (f ∷ fs)) f.lit w f.on_second (gate_for N.graph.gates (var f.lit))))

-- and where the machine is
abbrev pub comes_to_at : Net → List Frame → At → Work → Out
comes_to_at N fs (transfer c) w = resume N fs (walk N (stack_room N - length fs) (path_of fs) w c)
comes_to_at N fs back w = resume N fs (reached w)

abbrev pub comes_to : Net → Machine → Out
comes_to N m = comes_to_at N m.frames m.at m.work

-- there was room for every gate that was entered
abbrev pub InRoom : Out → Type 0
InRoom (reached w) = Unit {0}
InRoom (stopped r) = refusal_number r ≢ 1

-- the input of a gate that a frame has under way, and what is known of the other
abbrev pub InputIs : Work → Bool → Gate → ℕ → Type 0
InputIs w false g c = c ≡ g.first
InputIs w true g c = (c ≡ g.second) × (entry w.images (var g.first) ≢ no_image)

-- a frame is a gate's that has no image yet, and one of its inputs is under way
pub record FrameOk (N : Net) (w : Work) (f : Frame) (c : ℕ) : Type 0 where
  pub g : Gate
  pub is_gate : In g N.graph.gates
  pub names : out_var g ≡ var f.lit
  pub is_open : entry w.images (var f.lit) ≡ no_image
  pub input : InputIs w f.on_second g c

-- the frames lead to c: each literal is a gate's, has no image yet, and the next is one of that gate's inputs
abbrev pub Stack : Net → Work → List Frame → ℕ → Type 0
Stack N w [] c = Unit {0}
Stack N w (f ∷ fs) c = FrameOk N w f c × Stack N w fs f.lit

-- and so where the machine is: about to walk such an input, or one has its image
abbrev pub AtOk : Net → Work → List Frame → At → Type 0
AtOk N w fs (transfer c) = Stack N w fs c
AtOk N w fs back = (c : ℕ) × Stack N w fs c × (entry w.images (var c) ≢ no_image)

-- what holds of a machine all through a walk
pub record Running (N : Net) (top : ℕ) (m : Machine) : Type 0 where
  pub inv : Inv N top m.work
  pub short : length m.frames ≤ stack_room N
  pub in_room : InRoom (comes_to N m)
  pub stack : AtOk N m.work m.frames m.at
