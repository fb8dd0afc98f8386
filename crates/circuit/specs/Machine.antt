-- The walk as a machine, a step at a time, with a stack of literals that no limit is set to: what a loop does. That it comes to what `walk` comes to, that
-- each step brings it nearer to its end, and what stays true on the way, as that two entries a gate are room for it, is proved in proofs/Machine.antt.
-- Assumes nothing.
use Rattle.std.specs.Prelude.{ℕ, ◌+◌, ◌*◌, Bool, true, false, cond, List, [], ◌∷◌, ◌++◌, Option, Some, None}
use Rattle.circuit.specs.Graph.{Gate, gate_for}
use Rattle.lit.specs.Code.{var, literal}
use Rattle.circuit.specs.declared.Refusal.TheVariants.{Undefined}
use Rattle.circuit.specs.Walk.{Net, Work, Out, reached, stopped, Look, mapped, refused, enter, look, settle}

-- a literal that was entered and is not left: its first input is under way, or its second
pub record Frame : Type 0 where
  pub lit : ℕ
  pub on_second : Bool

-- about to walk a literal; or one has been walked, and has its image
pub data At : Type 0 where
  transfer : ℕ → At
  back : At

-- the frames stand newest first
pub record Machine : Type 0 where
  pub frames : List Frame
  pub at : At
  pub work : Work

-- a step leads to another machine, or ends the walk
pub data Next : Type 0 where
  goes : Machine → Next
  ends : Out → Next

-- the literals of the frames, oldest first
abbrev pub path_of : List Frame → List ℕ
path_of [] = []
path_of (f ∷ fs) = path_of fs ++ (f.lit ∷ [])

-- the literal c is entered, its first input under way
abbrev pub pushed : List Frame → ℕ → List Frame
pushed fs c = record { lit = c; on_second = false } ∷ fs

-- after a look at the literal c: go back, refuse, or enter its gate
unfoldable pub step_look : Net → List Frame → Work → ℕ → Look → Next
step_look N fs w c mapped = goes (record { frames = fs; at = back; work = w })
step_look N fs w c (refused r) = ends (stopped r)
step_look N fs w c (enter g) = goes (record { frames = pushed fs c; at = transfer g.first; work = w })

-- back at the newest frame, whose literal is c: on to the second input, or settle the gate
unfoldable pub step_back : Net → ℕ → List Frame → Work → Bool → Option Gate → Next
step_back N c fs w on_second None = ends (stopped (Undefined (literal c)))
step_back N c fs w false (Some g) = goes (record { frames = record { lit = c; on_second = true } ∷ fs; at = transfer g.second; work = w })
step_back N c fs w true (Some g) = goes (record { frames = fs; at = back; work = settle N w g })

-- one step, by where the machine is
unfoldable pub step_at : Net → List Frame → At → Work → Next
step_at N fs (transfer c) w = step_look N fs w c (look N (path_of fs) w c)
step_at N [] back w = ends (reached w)
step_at N (f ∷ fs) back w = step_back N f.lit fs w f.on_second (gate_for N.graph.gates (var f.lit))

unfoldable pub step : Net → Machine → Next
step N m = step_at N m.frames m.at m.work

-- a frame as one word of the stack, and the stack as words, oldest first
abbrev pub frame_word : Frame → ℕ
frame_word f = 2 * f.lit + cond f.on_second 1 0

abbrev pub stack_words : List Frame → List ℕ
stack_words [] = []
stack_words (f ∷ fs) = stack_words fs ++ (frame_word f ∷ [])
