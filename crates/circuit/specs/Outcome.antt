-- The whole of renumbering as one function of what is lent: the answer, and each lent list afterwards. Assumes nothing.
use Rattle.std.specs.Prelude.{ℕ, ◌+◌, ◌*◌, ◌-◌, ◌%◌, Bool, true, false, cond, not, ◌||◌, List, [], ◌∷◌, ◌++◌, eqb, leb, ltb, length, drop, take, replicate, Ok, Err}
use Rattle.lit.specs.Code.{variable}
use Rattle.circuit.specs.declared.Refusal.{Refusal}
use Rattle.circuit.specs.declared.Refusal.TheVariants.{TooBig, Misshapen, Short}
use Rattle.circuit.specs.declared.Summary.{Summary}
use Rattle.circuit.specs.Answer.{Answer}
use Rattle.circuit.specs.declared.CircuitRecord.{CircuitRecord}
use Rattle.circuit.specs.Refusals.{refusal_number}
use Rattle.circuit.specs.Graph.{Gate}
use Rattle.circuit.specs.Map.{no_image}
use Rattle.circuit.specs.Walk.{Pair, Out, reached, stopped}
use Rattle.circuit.specs.Circuit.{Circuit, renumber}
use Rattle.circuit.specs.Ordered.{Ordered, ordered_with, ordered_of, sources_of}

-- all that a caller lends: the circuit's numbers and lists, the gates flat, three words a gate; and the lists to be written
pub record Lent : Type 0 where
  pub circuit : CircuitRecord
  pub inputs : List ℕ
  pub states : List ℕ
  pub nexts : List ℕ
  pub resets : List ℕ
  pub gates : List ℕ
  pub roots : List ℕ
  pub map : List ℕ
  pub next_images : List ℕ
  pub reset_images : List ℕ
  pub root_images : List ℕ
  pub gates_out : List ℕ
  pub scratch : List ℕ

-- the answer, and the written lists afterwards
pub record Outcome : Type 0 where
  pub answer : Answer
  pub map : List ℕ
  pub next_images : List ℕ
  pub reset_images : List ℕ
  pub root_images : List ℕ
  pub gates_out : List ℕ
  pub scratch : List ℕ

-- what is lent, from its parts; and an outcome, from an answer and the written lists
abbrev pub lent_of : CircuitRecord → List ℕ → List ℕ → List ℕ → List ℕ → List ℕ → List ℕ → List ℕ → List ℕ → List ℕ → List ℕ → List ℕ → List ℕ → Lent
lent_of c inputs states nexts resets gates roots map next_images reset_images root_images gates_out scratch =
    record {
      circuit = c;
      inputs = inputs;
      states = states;
      nexts = nexts;
      resets = resets;
      gates = gates;
      roots = roots;
      map = map;
      next_images = next_images;
      reset_images = reset_images;
      root_images = root_images;
      gates_out = gates_out;
      scratch = scratch;
    }

abbrev pub outcome_of : Answer → List ℕ → List ℕ → List ℕ → List ℕ → List ℕ → List ℕ → Outcome
outcome_of answer map next_images reset_images root_images gates_out scratch =
    record {
      answer = answer;
      map = map;
      next_images = next_images;
      reset_images = reset_images;
      root_images = root_images;
      gates_out = gates_out;
      scratch = scratch;
    }

-- what a function leaves when it returns, as a contract writes it down, a field a line
abbrev pub left : Outcome → Outcome
left o = o

-- gates from a flat list; one or two words left over are none
abbrev pub gates_of : List ℕ → List Gate
gates_of [] = []
gates_of (o ∷ []) = []
gates_of (o ∷ a ∷ []) = []
gates_of (o ∷ a ∷ b ∷ rest) = record { output = o; first = a; second = b } ∷ gates_of rest

-- the circuit that is lent
abbrev pub circuit_of : Lent → Circuit
circuit_of l =
    record {
      top = l.circuit.top.0;
      inputs = l.inputs;
      states = l.states;
      nexts = l.nexts;
      resets = l.resets;
      gates = gates_of l.gates;
      counts = l.circuit.counts;
      roots = l.roots;
      trim = l.circuit.trim;
      hash = l.circuit.hash;
      fold = l.circuit.fold;
    }

-- the largest V, I, L, G and R that are taken
abbrev pub limit : ℕ
limit = 1048575

-- check 1: a size over its limit
unfoldable pub too_big : Circuit → Bool
too_big C =
    ltb limit C.top || ltb limit (length C.inputs) || ltb limit (length C.states) || ltb limit (length C.gates) || ltb limit (length C.roots)

-- the sum of the list
abbrev pub total : List ℕ → ℕ
total [] = 0
total (x ∷ xs) = x + total xs

-- check 2: the root counts, the latches, or the words of the flat gate list do not agree
unfoldable pub misshapen : Lent → Bool
misshapen l =
    not (eqb (total l.circuit.counts) (length l.roots)) || not (eqb (length l.states) (length l.nexts))
    || not (eqb (length l.states) (length l.resets)) || not (eqb (length l.gates % 3) 0)

-- words of the map, and of the scratch
abbrev pub map_words : Circuit → ℕ
map_words C = C.top + 1

abbrev pub scratch_words : Circuit → ℕ
scratch_words C = 3 * C.top + 3 + 3 * length C.gates

-- check 3: a lent list is too short
unfoldable pub too_short : Lent → Circuit → Bool
too_short l C =
    ltb (length l.map) (map_words C) || ltb (length l.next_images) (length C.states) || ltb (length l.reset_images) (length C.states)
    || ltb (length l.root_images) (length C.roots) || ltb (length l.gates_out) (2 * length C.gates) || ltb (length l.scratch) (scratch_words C)

-- a check that does not hold refuses; else what comes after
abbrev pub or_stop : Bool → Refusal → Out → Out
or_stop true why out = stopped why
or_stop false why out = out

-- checks 1 to 3 in their order; then the others and the walk
unfoldable pub conclusion : Lent → Out
conclusion l =
    or_stop (too_big (circuit_of l)) TooBig (or_stop (misshapen l) Misshapen (or_stop (too_short l (circuit_of l)) Short (renumber (circuit_of l))))

-- words written onto the front of a lent list, as far as it goes; its other words stay
abbrev pub onto : List ℕ → List ℕ → List ℕ
onto ws lent = take (length lent) ws ++ drop (length ws) lent

abbrev pub zeros : ℕ → List ℕ
zeros n = replicate n 0

-- the gates made, two words a gate; and gates from such words
abbrev pub pair_words : List Pair → List ℕ
pair_words [] = []
pair_words (p ∷ ps) = p.larger ∷ p.smaller ∷ pair_words ps

abbrev pub pairs_of : List ℕ → List Pair
pairs_of [] = []
pairs_of (a ∷ []) = []
pairs_of (a ∷ b ∷ ws) = record { larger = a; smaller = b } ∷ pairs_of ws

-- the gates made, and the new largest variable
abbrev pub summary_of : Ordered → Summary
summary_of O = record { made = length O.gates; top = variable (sources_of O + length O.gates) }

-- after success: the map, the images, the gates made and zeros up to as many gates as there were, and zeros in the scratch
abbrev pub written : Lent → Circuit → List ℕ → Ordered → Outcome
written l C images O =
    outcome_of (Ok (summary_of O)) (onto images l.map) (onto O.nexts l.next_images) (onto O.resets l.reset_images)
    (onto O.roots l.root_images)
    (onto (pair_words O.gates ++ zeros (2 * (length C.gates - length O.gates))) l.gates_out) (onto (zeros (scratch_words C)) l.scratch)

-- after refusals 5 to 8: no images in the map, and zeros in the other lists
abbrev pub cleared : Lent → Circuit → Refusal → Outcome
cleared l C why =
    outcome_of (Err why) (onto (replicate (map_words C) no_image) l.map) (onto (zeros (length C.states)) l.next_images)
    (onto (zeros (length C.states)) l.reset_images) (onto (zeros (length C.roots)) l.root_images)
    (onto (zeros (2 * length C.gates)) l.gates_out) (onto (zeros (scratch_words C)) l.scratch)

-- after refusals 1 to 4 and 22: every list as it was lent
abbrev pub untouched : Lent → Refusal → Outcome
untouched l why = outcome_of (Err why) l.map l.next_images l.reset_images l.root_images l.gates_out l.scratch

-- refusals 1 to 4 and 22 come before anything is written
abbrev pub is_early : Refusal → Bool
is_early why = leb (refusal_number why) 4 || eqb (refusal_number why) 22

-- the outcome of a conclusion
unfoldable pub after : Lent → Out → Outcome
after l (reached w) = written l (circuit_of l) w.images (ordered_of (circuit_of l) w)
after l (stopped why) = cond (is_early why) (untouched l why) (cleared l (circuit_of l) why)

-- the whole: what renumbering answers, and what each written list is afterwards
unfoldable pub outcome : Lent → Outcome
outcome l = after l (conclusion l)

-- the ordered circuit that the written lists hold, after a success that answered s
unfoldable pub held : Lent → Summary → Outcome → Ordered
held l s o =
    ordered_with (circuit_of l) (take (length l.states) o.next_images) (take (length l.states) o.reset_images)
    (pairs_of (take (2 * s.made) o.gates_out)) (take (length l.roots) o.root_images)
