-- The words of the customer's demands, which specs/Demands.antt says: of the circuit that is lent, and of an outcome o, which is what is left afterwards.
-- Assumes nothing.
use Rattle.std.specs.Prelude.{ℕ, ◌+◌, ◌*◌, ◌/◌, ◌%◌, ◌<◌, ◌≤◌, min, max, ◌≡◌, ◌⊎◌, Bool, true, false, cond, List, [], ◌∷◌, ◌++◌, map, eqb, length, get_or, Option, Some, None}
use Rattle.lit.specs.Code.{var, literal, flipped}
use Rattle.lit.specs.declared.Lit.{Lit}
use Rattle.circuit.specs.declared.Refusal.{Refusal}
use Rattle.circuit.specs.declared.Refusal.TheVariants.{TooBig, Misshapen, Short, Over, Reset, Again, StateAgain, Undefined, Cycle}
use Rattle.circuit.specs.declared.Summary.{Summary}
use Rattle.circuit.specs.Refusals.{refusal_number}
use Rattle.circuit.specs.Graph.{In, Distinct, Gate, out_var, Graph, defined, DefinedOnce, Reach, Loop, Grounded, Uses, Means}
use Rattle.circuit.specs.Map.{no_image, image_of}
use Rattle.circuit.specs.Circuit.{Circuit, graph, walked}
use Rattle.circuit.specs.Ordered.{Ordered, carried, no_pair}
use Rattle.circuit.specs.Outcome.{Lent, Outcome, circuit_of, limit, total}

-- what a lookup past the gates gives
abbrev pub no_gate : Gate
no_gate = record { output = 0; first = 0; second = 0 }

-- gate k of a flat list is the words 3k, 3k + 1 and 3k + 2
abbrev pub gate_at : List ℕ → ℕ → Gate
gate_at ws k = record { output = get_or ws (3 * k) 0; first = get_or ws (3 * k + 1) 0; second = get_or ws (3 * k + 2) 0 }

-- the circuit that is lent: G is a third of the flat gates' words, rounded down; all else as it is lent
pub record IsLent (l : Lent) (C : Circuit) : Type 0 where
  pub top : C.top ≡ l.circuit.top.0
  pub inputs : C.inputs ≡ l.inputs
  pub states : C.states ≡ l.states
  pub nexts : C.nexts ≡ l.nexts
  pub resets : C.resets ≡ l.resets
  pub gate_count : length C.gates ≡ length l.gates / 3
  pub gates : (k : ℕ) → k < length C.gates → get_or C.gates k no_gate ≡ gate_at l.gates k
  pub counts : C.counts ≡ l.circuit.counts
  pub roots : C.roots ≡ l.roots
  pub flags : (C.trim ≡ l.circuit.trim) × (C.hash ≡ l.circuit.hash) × (C.fold ≡ l.circuit.fold)

-- check 1 is passed: no size is over its limit
pub record Within (C : Circuit) : Type 0 where
  pub top : C.top ≤ limit
  pub inputs : length C.inputs ≤ limit
  pub latches : length C.states ≤ limit
  pub gates : length C.gates ≤ limit
  pub roots : length C.roots ≤ limit

-- check 2 is passed: the root counts sum to the roots, each latch has a next state and a reset, and the flat gates have three words each
pub record Agrees (l : Lent) : Type 0 where
  pub roots : total l.circuit.counts ≡ length l.roots
  pub latches : length l.states ≡ length l.nexts
  pub resets : length l.states ≡ length l.resets
  pub words : length l.gates % 3 ≡ 0

-- check 3 is passed: each lent list is long enough
pub record Roomy (l : Lent) (C : Circuit) : Type 0 where
  pub map : C.top + 1 ≤ length l.map
  pub nexts : length C.states ≤ length l.next_images
  pub resets : length C.states ≤ length l.reset_images
  pub roots : length C.roots ≤ length l.root_images
  pub gates : 2 * length C.gates ≤ length l.gates_out
  pub scratch : 3 * C.top + 3 + 3 * length C.gates ≤ length l.scratch

-- the largest code that is taken, 2V + 1
abbrev pub largest_code : Circuit → ℕ
largest_code C = 2 * C.top + 1

-- no code of the list is over the bound; and so with gates, by their outputs and inputs
abbrev pub AllWithin : ℕ → List ℕ → Type 0
AllWithin bound cs = (c : ℕ) → In c cs → c ≤ bound

abbrev pub GatesWithin : ℕ → List Gate → Type 0
GatesWithin bound gs = (g : Gate) → In g gs → (g.output ≤ bound) × (g.first ≤ bound) × (g.second ≤ bound)

-- check 4 is passed: no code is over 2V + 1, list by list
pub record Bounded (C : Circuit) : Type 0 where
  pub inputs : AllWithin (largest_code C) C.inputs
  pub gates : GatesWithin (largest_code C) C.gates
  pub states : AllWithin (largest_code C) C.states
  pub nexts : AllWithin (largest_code C) C.nexts
  pub resets : AllWithin (largest_code C) C.resets
  pub roots : AllWithin (largest_code C) C.roots

-- a latch's reset is 0, 1, or the latch's own literal as written, which says that it is unset
abbrev pub IsReset : ℕ → ℕ → Type 0
IsReset own r = (r ≡ 0) ⊎ (r ≡ 1) ⊎ (r ≡ own)

-- check 22 is passed: every latch has such a reset
abbrev pub AllReset : List ℕ → List ℕ → Type 0
AllReset states resets = (j : ℕ) → j < length states → IsReset (get_or states j 0) (get_or resets j 0)

-- checks 1 to 3 are passed; and besides 4 and 22
pub record PassesSizes (l : Lent) : Type 0 where
  pub within : Within (circuit_of l)
  pub agrees : Agrees l
  pub roomy : Roomy l (circuit_of l)

pub record Passes (l : Lent) : Type 0 where
  pub sizes : PassesSizes l
  pub bounded : Bounded (circuit_of l)
  pub resets : AllReset l.states l.resets

-- the first value of a latch by its reset: that of 0 is 0, that of 1 is 1, and an unset latch is free. It is a value of the state's literal as written
abbrev pub first_value : ℕ → Option Bool
first_value r = cond (eqb r 0) (Some false) (cond (eqb r 1) (Some true) None)

-- the literal is walked: with trim off each gate's output, and always each next state and root
abbrev pub IsWalked : Circuit → ℕ → Type 0
IsWalked C c = ((g : Gate) × In g C.gates × (g.output ≡ c) × (C.trim ≡ false)) ⊎ In c C.nexts ⊎ In c C.roots

-- every literal reached from a walked one is defined, and no gate so reached reaches itself
abbrev pub AllGrounded : Circuit → Type 0
AllGrounded C = (c : ℕ) → In c (walked C) → Grounded (graph C) (var c)

-- the literal c has the image t in the map afterwards, as a lookup answers it
abbrev pub HasImage : Lent → Outcome → ℕ → Lit → Type 0
HasImage l o c t = image_of (circuit_of l).top o.map c ≡ Some t

-- the variable is the constant's, an input's or a latch's, or is reached from a walked literal
abbrev pub Named : Circuit → ℕ → Type 0
Named C v = In v (0 ∷ map var (graph C).sources) ⊎ ((c : ℕ) × In c (walked C) × Reach (graph C) (var c) v)

-- the literal c of one circuit and the literal t of another have one bit each, and it is the same
pub record SameValue (C D : Graph) (given : ℕ → Bool) (c t : ℕ) : Type 0 where
  pub bit : Bool
  pub here : Means C given c bit
  pub there : Means D given t bit
  pub only_here : (b : Bool) → Means C given c b → b ≡ bit
  pub only_there : (b : Bool) → Means D given t b → b ≡ bit

-- document 01's folding rows, for a larger code hi and a smaller lo
pub data Folds (hi lo : ℕ) : ℕ → Type 0 where
  either_zero : (hi ≡ 0) ⊎ (lo ≡ 0) → Folds hi lo 0
  larger_one : hi ≡ 1 → Folds hi lo lo
  both_equal : hi ≡ lo → Folds hi lo lo
  smaller_one : lo ≡ 1 → Folds hi lo hi

-- what the map says of a literal afterwards: the cell of its variable, with the low bit flipped if the literal is odd
abbrev pub image_after : Outcome → ℕ → ℕ
image_after o c = flipped (get_or o.map (var c) 0) c

-- the larger and the smaller of the images of a gate's inputs
abbrev pub larger_after : Outcome → Gate → ℕ
larger_after o g = max (image_after o g.first) (image_after o g.second)

abbrev pub smaller_after : Outcome → Gate → ℕ
smaller_after o g = min (image_after o g.first) (image_after o g.second)

-- folding is on, and a row takes the images of the gate's inputs and gives t; and no row takes them, or folding is off
abbrev pub Taken : Lent → Outcome → Gate → ℕ → Type 0
Taken l o g t = (l.circuit.fold ≡ true) × Folds (larger_after o g) (smaller_after o g) t

abbrev pub Untaken : Lent → Outcome → Gate → Type 0
Untaken l o g = (t : ℕ) → Taken l o g t → ⊥

-- a reached gate of the circuit that no folding row takes
pub record Stays (l : Lent) (o : Outcome) (g : Gate) : Type 0 where
  pub is_gate : In g (circuit_of l).gates
  pub is_reached : Named (circuit_of l) (out_var g)
  pub untaken : Untaken l o g

-- the gate is the j-th new gate: its image is that gate's code, and the images of its inputs are that gate's two words, larger first
pub record IsNew (l : Lent) (o : Outcome) (s : Summary) (g : Gate) (j : ℕ) : Type 0 where
  pub made : j < s.made
  pub code : image_after o g.output ≡ 2 * (length l.inputs + length l.states + 1 + j)
  pub larger : get_or o.gates_out (2 * j) 0 ≡ larger_after o g
  pub smaller : get_or o.gates_out (2 * j + 1) 0 ≡ smaller_after o g

-- what became of a gate that has an image: its inputs have images, and a row takes them and gives the gate's image, or none does and it is a new gate
pub record Ruled (l : Lent) (o : Outcome) (s : Summary) (g : Gate) : Type 0 where
  pub first : HasImage l o g.first (literal (image_after o g.first))
  pub second : HasImage l o g.second (literal (image_after o g.second))
  pub became : Taken l o g (image_after o g.output) ⊎ (Untaken l o g × ((j : ℕ) × IsNew l o s g j))

-- c is the first of the list over the bound
pub record FirstOver (bound : ℕ) (cs : List ℕ) (c : ℕ) : Type 0 where
  pub before : List ℕ
  pub after : List ℕ
  pub splits : cs ≡ before ++ (c ∷ after)
  pub is_over : bound < c
  pub within : (x : ℕ) → In x before → x ≤ bound

-- c is the first code over 2V + 1 in the order of check 4: inputs; gate by gate the output and the two inputs; latch by latch the state, the next
-- state and the reset; roots
pub data FirstTooBig (C : Circuit) (c : ℕ) : Type 0 where
  an_input : FirstOver (largest_code C) C.inputs c → FirstTooBig C c
  of_gate : AllWithin (largest_code C) C.inputs → (before after : List Gate) (g : Gate) → C.gates ≡ before ++ (g ∷ after)
      → GatesWithin (largest_code C) before → FirstOver (largest_code C) (g.output ∷ g.first ∷ g.second ∷ []) c → FirstTooBig C c
  of_latch : AllWithin (largest_code C) C.inputs → GatesWithin (largest_code C) C.gates → (k : ℕ) → k < length C.states
      → ((j : ℕ) → j < k → (get_or C.states j 0 ≤ largest_code C) × (get_or C.nexts j 0 ≤ largest_code C) × (get_or C.resets j 0 ≤ largest_code C))
      → FirstOver (largest_code C) (get_or C.states k 0 ∷ get_or C.nexts k 0 ∷ get_or C.resets k 0 ∷ []) c → FirstTooBig C c
  a_root : AllWithin (largest_code C) C.inputs → GatesWithin (largest_code C) C.gates → AllWithin (largest_code C) C.states
      → AllWithin (largest_code C) C.nexts → AllWithin (largest_code C) C.resets → FirstOver (largest_code C) C.roots c → FirstTooBig C c

-- r is the first reset that is not 0, 1 or its latch's own literal
pub record FirstStray (states resets : List ℕ) (r : ℕ) : Type 0 where
  pub place : ℕ
  pub inside : place < length states
  pub is_there : r ≡ get_or resets place 0
  pub is_stray : IsReset (get_or states place 0) r → ⊥
  pub before : (j : ℕ) → j < place → IsReset (get_or states j 0) (get_or resets j 0)

-- d is the first of the literals whose variable is among those seen or before it: those before it are all new
pub record FirstAgain (seen ds : List ℕ) (d : ℕ) : Type 0 where
  pub before : List ℕ
  pub after : List ℕ
  pub splits : ds ≡ before ++ (d ∷ after)
  pub is_again : In (var d) (seen ++ map var before)
  pub distinct : Distinct (map var before)
  pub new : (v : ℕ) → In v (map var before) → In v seen → ⊥

-- a walked literal uses the literal
abbrev pub IsUsed : Circuit → ℕ → Type 0
IsUsed C d = (c : ℕ) × In c (walked C) × Uses (graph C) c d

-- what checks 5 and 6 go through: inputs and gate outputs, and then latch states
abbrev pub defined_first : Circuit → List ℕ
defined_first C = C.inputs ++ map (λ g. g.output) C.gates

-- what is true where renumbering refuses: the checks before are passed, and this one is not
abbrev pub IsTrue : Lent → Refusal → Type 0
IsTrue l TooBig = Within (circuit_of l) → ⊥
IsTrue l Misshapen = Within (circuit_of l) × (Agrees l → ⊥)
IsTrue l Short = Within (circuit_of l) × Agrees l × (Roomy l (circuit_of l) → ⊥)
IsTrue l (Over d) = PassesSizes l × FirstTooBig (circuit_of l) d.0
IsTrue l (Reset d) = PassesSizes l × Bounded (circuit_of l) × FirstStray l.states l.resets d.0
IsTrue l (Again d) = Passes l × FirstAgain (0 ∷ []) (defined_first (circuit_of l)) d.0
IsTrue l (StateAgain d) =
    Passes l × Distinct (0 ∷ map var (defined_first (circuit_of l))) × FirstAgain (0 ∷ map var (defined_first (circuit_of l))) l.states d.0
IsTrue l (Undefined d) =
    Passes l × DefinedOnce (graph (circuit_of l)) × IsUsed (circuit_of l) d.0 × (In (var d.0) (defined (graph (circuit_of l))) → ⊥)
IsTrue l (Cycle d) = Passes l × DefinedOnce (graph (circuit_of l)) × IsUsed (circuit_of l) d.0 × Loop (graph (circuit_of l)) (var d.0)

-- a list afterwards is as long as it was, and has what it had from the place n on
abbrev pub Keeps : ℕ → List ℕ → List ℕ → Type 0
Keeps n before after = (length after ≡ length before) × ((i : ℕ) → n ≤ i → get_or after i 0 ≡ get_or before i 0)

-- so with all that are written: the map from V + 1 on, next and reset images from L, root images from R, gates out from 2G, scratch from 3V + 3 + 3G
pub record KeepsPast (l : Lent) (C : Circuit) (o : Outcome) : Type 0 where
  pub map : Keeps (C.top + 1) l.map o.map
  pub nexts : Keeps (length C.states) l.next_images o.next_images
  pub resets : Keeps (length C.states) l.reset_images o.reset_images
  pub roots : Keeps (length C.roots) l.root_images o.root_images
  pub gates : Keeps (2 * length C.gates) l.gates_out o.gates_out
  pub scratch : Keeps (3 * C.top + 3 + 3 * length C.gates) l.scratch o.scratch

-- the first n cells of a list hold the word afterwards; its length and its other cells are as they were
pub record Filled (n word : ℕ) (before after : List ℕ) : Type 0 where
  pub enough : n ≤ length after
  pub front : (i : ℕ) → i < n → get_or after i 0 ≡ word
  pub past : Keeps n before after

-- refusals 1 to 4 and 22, which come before anything is written; and the others
abbrev pub Early : Refusal → Type 0
Early r = (refusal_number r ≤ 4) ⊎ (refusal_number r ≡ 22)

abbrev pub Late : Refusal → Type 0
Late r = (5 ≤ refusal_number r) × (refusal_number r ≤ 8)

-- after the early ones: every list is as long as it was, and every cell holds what it held
pub record KeepsAll (l : Lent) (o : Outcome) : Type 0 where
  pub map : Keeps 0 l.map o.map
  pub nexts : Keeps 0 l.next_images o.next_images
  pub resets : Keeps 0 l.reset_images o.reset_images
  pub roots : Keeps 0 l.root_images o.root_images
  pub gates : Keeps 0 l.gates_out o.gates_out
  pub scratch : Keeps 0 l.scratch o.scratch

-- after refusals 5 to 8: V + 1 cells of the map hold the word for no image; L next images, L reset images, R root images, 2G words of gates and
-- 3V + 3 + 3G words of scratch hold 0; and all other cells are as they were
pub record Clears (l : Lent) (C : Circuit) (o : Outcome) : Type 0 where
  pub map : Filled (C.top + 1) no_image l.map o.map
  pub nexts : Filled (length C.states) 0 l.next_images o.next_images
  pub resets : Filled (length C.states) 0 l.reset_images o.reset_images
  pub roots : Filled (length C.roots) 0 l.root_images o.root_images
  pub gates : Filled (2 * length C.gates) 0 l.gates_out o.gates_out
  pub scratch : Filled (3 * C.top + 3 + 3 * length C.gates) 0 l.scratch o.scratch

-- after a success that made g gates, but for what reached gates became (`Ruled`) and the cells past those named (`KeepsPast`)
pub record Fills (l : Lent) (C : Circuit) (o : Outcome) (s : Summary) : Type 0 where
  -- the constant's cell is 0; the k-th of the inputs and latch states has 2 (k + 1), with the low bit flipped if it is odd; a variable not
  -- named has no image
  pub constant : get_or o.map 0 0 ≡ 0
  pub sources : (k : ℕ) → k < length C.inputs + length C.states
      → get_or o.map (var (get_or (C.inputs ++ C.states) k 0)) 0 ≡ flipped (2 * (k + 1)) (get_or (C.inputs ++ C.states) k 0)
  pub unnamed : (v : ℕ) → v ≤ C.top → (Named C v → ⊥) → get_or o.map v 0 ≡ no_image
  -- next images and root images are what the map says of the next states and roots; the reset of latch j is carried over, to its new literal
  -- 2 (I + 1 + j) where it is unset
  pub nexts : (j : ℕ) → j < length C.states → get_or o.next_images j 0 ≡ image_after o (get_or C.nexts j 0)
  pub resets : (j : ℕ) → j < length C.states → get_or o.reset_images j 0 ≡ carried (2 * (length C.inputs + 1 + j)) (get_or C.resets j 0)
  pub roots : (j : ℕ) → j < length C.roots → get_or o.root_images j 0 ≡ image_after o (get_or C.roots j 0)
  -- each new gate is an old one; words after the g gates are 0, and so is the scratch
  pub gates : (j : ℕ) → j < s.made → (g : Gate) × Stays l o g × IsNew l o s g j
  pub tail : (i : ℕ) → 2 * s.made ≤ i → i < 2 * length C.gates → get_or o.gates_out i 0 ≡ 0
  pub scratch : Filled (3 * C.top + 3 + 3 * length C.gates) 0 l.scratch o.scratch

-- the ordered circuit D that the lists hold then: its gates are the pairs of words, its next states, resets and roots the images
pub record Holds (l : Lent) (o : Outcome) (s : Summary) (D : Ordered) : Type 0 where
  pub inputs : D.inputs ≡ length l.inputs
  pub latches : length D.nexts ≡ length l.states
  pub nexts : (j : ℕ) → j < length l.states → get_or D.nexts j 0 ≡ get_or o.next_images j 0
  pub reset_count : length D.resets ≡ length l.states
  pub resets : (j : ℕ) → j < length l.states → get_or D.resets j 0 ≡ get_or o.reset_images j 0
  pub made : length D.gates ≡ s.made
  pub gates : (j : ℕ) → j < s.made
      → get_or D.gates j no_pair ≡ record { larger = get_or o.gates_out (2 * j) 0; smaller = get_or o.gates_out (2 * j + 1) 0 }
  pub counts : D.counts ≡ l.circuit.counts
  pub root_count : length D.roots ≡ length l.roots
  pub roots : (j : ℕ) → j < length l.roots → get_or D.roots j 0 ≡ get_or o.root_images j 0
