-- What the walks are given and what they leave. Assumes nothing.
use Rattle.std.specs.Prelude.{ℕ, ◌+◌, ◌-◌, ◌*◌, ◌≤◌, ◌≡◌, List, ◌++◌, length, take, drop, Result, Ok, Err}
use Rattle.circuit.specs.Graph.{DefinedOnce}
use Rattle.circuit.specs.Walk.{Out, reached, stopped}
use Rattle.circuit.specs.Circuit.{Circuit, graph, start}
use Rattle.circuit.specs.Outcome.{Lent, circuit_of, pair_words, zeros, map_words, scratch_words}
use Rattle.circuit.specs.Claims.{Within, Agrees}
use Rattle.circuit.specs.Tested.{InBounds}
use Rattle.circuit.specs.Resets.{with_resets}
use Rattle.aig.specs.Table.{Tabled}
use Rattle.circuit.specs.declared.Refusal.{Refusal}

-- the circuit has passed checks 1, 2 and 4 with some resets, which the walks do not see, and the lists are as long as they must be, or longer
pub record WalkIn (l : Lent) (map out scratch : List ℕ) : Type 0 where
  pub resets : List ℕ
  pub within : Within (circuit_of l)
  pub agrees : Agrees (with_resets l resets)
  pub bounds : InBounds (circuit_of (with_resets l resets))
  pub map_long : map_words (circuit_of l) ≤ length map
  pub out_long : 2 * length (circuit_of l).gates ≤ length out
  pub scratch_long : scratch_words (circuit_of l) ≤ length scratch

-- the circuit has passed checks 1 to 6 with some resets, and the lists are as the walks of its literals find them
pub record WalkReady (l : Lent) (map out scratch : List ℕ) : Type 0 where
  pub resets : List ℕ
  pub within : Within (circuit_of l)
  pub agrees : Agrees (with_resets l resets)
  pub bounds : InBounds (circuit_of (with_resets l resets))
  pub once : DefinedOnce (graph (circuit_of l))
  pub mapped : map ≡ (start (circuit_of l).top (graph (circuit_of l)).sources).images
  pub outs : out ≡ zeros (2 * length (circuit_of l).gates)
  pub table : Tabled (circuit_of l).gates (take (map_words (circuit_of l)) scratch)
  pub clean : drop (map_words (circuit_of l)) scratch ≡ zeros (2 * map_words (circuit_of l) + 3 * length (circuit_of l).gates)
  pub room : length scratch ≡ scratch_words (circuit_of l)

-- the walks have ended: the gates made, the map and the gates' words; or a refusal
abbrev pub WalkEnds : Circuit → Out → Result ℕ Refusal → List ℕ → List ℕ → Type 0
WalkEnds C (reached w) r map out =
    (r ≡ Ok (length w.made)) × (map ≡ w.images) × (out ≡ pair_words w.made ++ zeros (2 * (length C.gates - length w.made)))
WalkEnds C (stopped why) r map out = r ≡ Err why

-- the walks have ended in the fronts, and what stood past them stands there still
pub record EndsIn (C : Circuit) (map out scratch : List ℕ) (o : Out) (r : Result ℕ Refusal) (map' out' scratch' : List ℕ) : Type 0 where
  pub ends : WalkEnds C o r (take (map_words C) map') (take (2 * length C.gates) out')
  pub past_map : drop (map_words C) map' ≡ drop (map_words C) map
  pub past_out : drop (2 * length C.gates) out' ≡ drop (2 * length C.gates) out
  pub past_scratch : drop (scratch_words C) scratch' ≡ drop (scratch_words C) scratch
