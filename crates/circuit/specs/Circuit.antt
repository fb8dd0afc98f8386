-- A circuit as it is given, checks 4, 22, 5 and 6, and renumbering. Assumes nothing.
use Rattle.std.specs.Prelude.{ℕ, ◌+◌, ◌*◌, Bool, false, cond, ◌||◌, List, [], ◌∷◌, ◌++◌, map, eqb, leb, replicate, Option, Some, None}
use Rattle.lit.specs.Code.{var, literal}
use Rattle.lit.specs.declared.Lit.{Lit}
use Rattle.circuit.specs.declared.Refusal.{Refusal}
use Rattle.circuit.specs.declared.Refusal.TheVariants.{Over, Reset, Again, StateAgain}
use Rattle.circuit.specs.Graph.{Gate, Graph}
use Rattle.circuit.specs.Map.{no_image, store}
use Rattle.circuit.specs.Walk.{Net, Work, Out, stopped, stack_room, walk_all}

-- `top` is the largest variable index V; a latch has a state, a next literal and a reset; the roots stand in walk order, and `counts` is the row of the
-- numbers of outputs, bad states, constraints, fairness and justice literals among them
pub record Circuit : Type 0 where
  pub top : ℕ
  pub inputs : List ℕ
  pub states : List ℕ
  pub nexts : List ℕ
  pub resets : List ℕ
  pub gates : List Gate
  pub counts : List ℕ
  pub roots : List ℕ
  pub trim : Bool
  pub hash : Bool
  pub fold : Bool

-- what means something of it
abbrev pub graph : Circuit → Graph
graph C = record { sources = C.inputs ++ C.states; gates = C.gates }

-- what the walk sees of it
abbrev pub net : Circuit → Net
net C = record { graph = graph C; hash = C.hash; fold = C.fold }

-- the outputs of the gates, as written
abbrev pub gate_outputs : Circuit → List ℕ
gate_outputs C = map (λ g. g.output) C.gates

-- check 4: the codes of gates and of latches, in the order of the check
abbrev pub gate_codes : List Gate → List ℕ
gate_codes [] = []
gate_codes (g ∷ gs) = g.output ∷ g.first ∷ g.second ∷ gate_codes gs

abbrev pub latch_codes : List ℕ → List ℕ → List ℕ → List ℕ
latch_codes [] ns rs = []
latch_codes (s ∷ ss) [] rs = []
latch_codes (s ∷ ss) (n ∷ ns) [] = []
latch_codes (s ∷ ss) (n ∷ ns) (r ∷ rs) = s ∷ n ∷ r ∷ latch_codes ss ns rs

-- inputs, gates, latches, roots
unfoldable pub codes : Circuit → List ℕ
codes C = C.inputs ++ (gate_codes C.gates ++ (latch_codes C.states C.nexts C.resets ++ C.roots))

-- the first code of the list over the bound
abbrev pub first_over : ℕ → List ℕ → Option ℕ
first_over bound [] = None
first_over bound (c ∷ cs) = cond (leb c bound) (first_over bound cs) (Some c)

-- check 22: a latch's reset is 0, 1, or the latch's own literal as written, which says that it is unset
abbrev pub is_reset : ℕ → ℕ → Bool
is_reset own r = leb r 1 || eqb r own

-- the first reset of the list that is none of them, the latches' literals beside it
abbrev pub first_stray : List ℕ → List ℕ → Option ℕ
first_stray [] rs = None
first_stray (s ∷ ss) [] = None
first_stray (s ∷ ss) (r ∷ rs) = cond (is_reset s r) (first_stray ss rs) (Some r)

-- checks 5 and 6: x is in the list
abbrev pub elem : ℕ → List ℕ → Bool
elem x [] = false
elem x (y ∷ ys) = eqb x y || elem x ys

-- the first literal of the list whose variable is among those seen or before it
abbrev pub first_again : List ℕ → List ℕ → Option ℕ
first_again seen [] = None
first_again seen (d ∷ ds) = cond (elem (var d) seen) (Some d) (first_again (var d ∷ seen) ds)

-- what check 5 goes through; check 6 goes through the latch states
abbrev pub definitions : Circuit → List ℕ
definitions C = C.inputs ++ gate_outputs C

-- the map at the start: the constant is 0, and the sources get 2, 4, ..
abbrev pub store_from : List ℕ → ℕ → List ℕ → List ℕ
store_from m t [] = m
store_from m t (d ∷ ds) = store_from (store m d t) (t + 2) ds

-- the map has an entry for each variable up to the largest, and no gate is made
unfoldable pub start : ℕ → List ℕ → Work
start top sources = record { images = store_from (store (replicate (top + 1) no_image) 0 0) 2 sources; made = [] }

-- what is walked, in order
unfoldable pub walked : Circuit → List ℕ
walked C = cond C.trim [] (gate_outputs C) ++ (C.nexts ++ C.roots)

-- the walk of all that is walked, with room for this many entries
abbrev pub walk_with : ℕ → Circuit → Out
walk_with room C = walk_all (net C) room (walked C) (start C.top (graph C).sources)

-- a check that found a literal refuses it; else what comes after
abbrev pub or_refuse : Option ℕ → (Lit → Refusal) → Out → Out
or_refuse (Some c) why out = stopped (why (literal c))
or_refuse None why out = out

-- checks 5 and 6 in their order; then the walk, with two entries a gate. None of them sees a reset
unfoldable pub numbered : Circuit → Out
numbered C =
    or_refuse (first_again (0 ∷ []) (definitions C)) Again
    (or_refuse (first_again (0 ∷ map var (definitions C)) C.states) StateAgain
    (walk_with (stack_room (net C)) C))

-- checks 4 and 22 before them
unfoldable pub renumber : Circuit → Out
renumber C = or_refuse (first_over (2 * C.top + 1) (codes C)) Over (or_refuse (first_stray C.states C.resets) Reset (numbered C))
