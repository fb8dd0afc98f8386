-- What a step keeps, and what falls with it. Assumes nothing.
use Rattle.std.specs.Prelude.{ℕ, ◌+◌, ◌*◌, ◌-◌, ◌%◌, ◌<◌, cond, List, [], ◌∷◌, eqb, length, take, Result, Ok, Err}
use Rattle.circuit.specs.Walk.{Out, stopped}
use Rattle.circuit.specs.Outcome.{gates_of}
use Rattle.circuit.specs.Invariant.{settled}
use Rattle.aig.specs.declared.shape.Shape.{Shape}
use Rattle.aig.specs.declared.walk.State.{State}
use Rattle.aig.specs.declared.walk.State.TheVariants.{Transfer, First, Second, Return, Reached, Stopped}
use Rattle.circuit.specs.declared.Refusal.{Refusal}
use Rattle.aig.specs.Layout.{stack_of}
use Rattle.aig.specs.Going.{Going, Done, Halted}

-- a walk goes on from here
pub record Walking (s : Shape) (gates : List ℕ) (state : State) (map out scratch : List ℕ) : Type 0 where
  pub sources : List ℕ
  pub o : Out
  pub going : Going s sources gates o state map out scratch

-- two for each word of a first input that is under way
abbrev pub first_words : List ℕ → ℕ
first_words [] = 0
first_words (w ∷ ws) = cond (eqb (w % 2) 0) 2 0 + first_words ws

-- gates without an image, room on the stack, first inputs under way
unfoldable pub weight_of : Shape → List ℕ → List ℕ → List ℕ → ℕ → ℕ
weight_of s gates map scratch depth =
    4 * (length (gates_of gates) - settled map (gates_of gates)) + 3 * (2 * length (gates_of gates) - depth) + first_words (take depth (stack_of s scratch))

-- what falls with each step
unfoldable pub to_go : Shape → List ℕ → State → List ℕ → List ℕ → ℕ
to_go s gates (Transfer n l) map scratch = 2 * (weight_of s gates map scratch n.depth + 1) + 1
to_go s gates (First n l) map scratch = 2 * (weight_of s gates map scratch n.depth - 1) + 1
to_go s gates (Second n l) map scratch = 2 * (weight_of s gates map scratch n.depth - 3) + 1
to_go s gates (Return n) map scratch = 2 * weight_of s gates map scratch n.depth + 2
to_go s gates (Reached n) map scratch = 0
to_go s gates (Stopped why) map scratch = 0

-- after a step the walk comes to what it came to, and less is left to do
pub record Onward (s : Shape) (sources gates : List ℕ) (o : Out) (state : State) (map out scratch : List ℕ) (more : ℕ) : Type 0 where
  pub going : Going s sources gates o state map out scratch
  pub less : to_go s gates state map scratch < more

abbrev pub Turns : Shape → List ℕ → State → List ℕ → List ℕ → List ℕ → State → List ℕ → List ℕ → List ℕ → Type 0
Turns s gates state map out scratch state' map' out' scratch' =
    (sources : List ℕ) (o : Out) → Going s sources gates o state map out scratch
    → Onward s sources gates o state' map' out' scratch' (to_go s gates state map scratch)

-- a whole walk comes to what it came to
abbrev pub Ended : Shape → List ℕ → List ℕ → Out → Result ℕ Refusal → List ℕ → List ℕ → List ℕ → Type 0
Ended s sources gates o (Ok made) map out scratch = Done s sources gates o made map out scratch
Ended s sources gates o (Err why) map out scratch = Halted s o (stopped why) map out scratch

abbrev pub Runs : Shape → List ℕ → State → List ℕ → List ℕ → List ℕ → Result ℕ Refusal → List ℕ → List ℕ → List ℕ → Type 0
Runs s gates state map out scratch r map' out' scratch' =
    (sources : List ℕ) (o : Out) → Going s sources gates o state map out scratch → Ended s sources gates o r map' out' scratch'
