-- How a state of the walk and the lent lists stand for the machine of the definitions. Assumes nothing.
use Rattle.std.specs.Prelude.{ℕ, ◌+◌, ◌*◌, ◌-◌, ◌<◌, ◌≡◌, true, false, List, [], ◌∷◌, length, get_or, take}
use Rattle.lit.specs.Code.{var}
use Rattle.circuit.specs.Graph.{DefinedOnce}
use Rattle.circuit.specs.Walk.{Net, Work, Out, reached, stopped}
use Rattle.circuit.specs.Machine.{Frame, transfer, back, Machine, stack_words}
use Rattle.circuit.specs.Outcome.{gates_of}
use Rattle.circuit.specs.Invariant.{Sized, Inv, Running, comes_to}
use Rattle.aig.specs.declared.shape.Shape.{Shape}
use Rattle.aig.specs.declared.walk.Walk.{Walk}
use Rattle.aig.specs.declared.walk.State.{State}
use Rattle.aig.specs.declared.walk.State.TheVariants.{Transfer, First, Second, Return, Reached, Stopped}
use Rattle.aig.specs.Table.{Tabled}
use Rattle.aig.specs.Layout.{table_of, stack_of}
use Rattle.aig.specs.Store.{MadeIn}

-- what the walk sees of a circuit with these sources and flat gates
abbrev pub net_of : Shape → List ℕ → List ℕ → Net
net_of s sources gates = record { graph = record { sources = sources; gates = gates_of gates }; hash = s.hash; fold = s.fold }

abbrev pub top_of : Shape → ℕ
top_of s = s.vars - 1

-- what holds of a circuit all through its walk
pub record Ground (s : Shape) (sources gates : List ℕ) : Type 0 where
  pub some : 0 < s.vars
  pub counted : s.sources ≡ length sources
  pub long : length gates ≡ 3 * s.gates
  pub inside : (i : ℕ) → i < length gates → var (get_or gates i 0) < s.vars
  pub once : DefinedOnce (net_of s sources gates).graph
  pub sized : Sized (net_of s sources gates) (top_of s)

-- the lists hold what the walk has done
pub record Holds (s : Shape) (gates : List ℕ) (made : ℕ) (w : Work) (map out scratch : List ℕ) : Type 0 where
  pub images : map ≡ w.images
  pub count : made ≡ length w.made
  pub gates_made : MadeIn s w.made out scratch
  pub table : Tabled (gates_of gates) (table_of s scratch)

-- the stack holds the frames
pub record Stacked (s : Shape) (depth : ℕ) (fs : List Frame) (scratch : List ℕ) : Type 0 where
  pub count : depth ≡ length fs
  pub words : take depth (stack_of s scratch) ≡ stack_words fs

-- the machine that a state stands for, where the stack holds the frames
abbrev pub machine_of : State → List Frame → Work → Machine
machine_of (Transfer n l) fs w = record { frames = fs; at = transfer l.0; work = w }
machine_of (First n l) fs w = record { frames = record { lit = l.0; on_second = false } ∷ fs; at = back; work = w }
machine_of (Second n l) fs w = record { frames = record { lit = l.0; on_second = true } ∷ fs; at = back; work = w }
machine_of (Return n) fs w = record { frames = fs; at = back; work = w }
machine_of (Reached n) fs w = record { frames = []; at = back; work = w }
machine_of (Stopped why) fs w = record { frames = []; at = back; work = w }

-- a literal that is about to be walked is one of the circuit's
abbrev pub Inside : Shape → State → Type 0
Inside s (Transfer n l) = var l.0 < s.vars
Inside s (First n l) = Unit {0}
Inside s (Second n l) = Unit {0}
Inside s (Return n) = Unit {0}
Inside s (Reached n) = Unit {0}
Inside s (Stopped why) = Unit {0}

-- the numbers that a state hands on
abbrev pub numbers_of : State → Walk
numbers_of (Transfer n l) = n
numbers_of (First n l) = n
numbers_of (Second n l) = n
numbers_of (Return n) = n
numbers_of (Reached n) = n
numbers_of (Stopped why) = record { depth = 0; made = 0 }

-- the walk goes on from the state and comes to o
pub record On (s : Shape) (sources gates : List ℕ) (o : Out) (state : State) (map out scratch : List ℕ) : Type 0 where
  pub frames : List Frame
  pub work : Work
  pub holds : Holds s gates (numbers_of state).made work map out scratch
  pub stacked : Stacked s (numbers_of state).depth frames scratch
  pub inside : Inside s state
  pub running : Running (net_of s sources gates) (top_of s) (machine_of state frames work)
  pub comes : comes_to (net_of s sources gates) (machine_of state frames work) ≡ o

-- the walk has reached its end
pub record Done (s : Shape) (sources gates : List ℕ) (o : Out) (made : ℕ) (map out scratch : List ℕ) : Type 0 where
  pub work : Work
  pub holds : Holds s gates made work map out scratch
  pub inv : Inv (net_of s sources gates) (top_of s) work
  pub comes : reached work ≡ o

-- the lists are as long as they were lent
pub record Long (s : Shape) (map out scratch : List ℕ) : Type 0 where
  pub of_map : length map ≡ s.vars
  pub of_out : length out ≡ 2 * s.gates
  pub of_scratch : length scratch ≡ 3 * s.vars + 3 * s.gates

-- the walk has stopped
pub record Halted (s : Shape) (o refusal : Out) (map out scratch : List ℕ) : Type 0 where
  pub long : Long s map out scratch
  pub comes : refusal ≡ o

abbrev pub GoingAt : Shape → List ℕ → List ℕ → Out → State → List ℕ → List ℕ → List ℕ → Type 0
GoingAt s sources gates o (Transfer n l) map out scratch = On s sources gates o (Transfer n l) map out scratch
GoingAt s sources gates o (First n l) map out scratch = On s sources gates o (First n l) map out scratch
GoingAt s sources gates o (Second n l) map out scratch = On s sources gates o (Second n l) map out scratch
GoingAt s sources gates o (Return n) map out scratch = On s sources gates o (Return n) map out scratch
GoingAt s sources gates o (Reached n) map out scratch = Done s sources gates o n.made map out scratch
GoingAt s sources gates o (Stopped why) map out scratch = Halted s o (stopped why) map out scratch

-- from the state and the lists, the walk comes to o
pub record Going (s : Shape) (sources gates : List ℕ) (o : Out) (state : State) (map out scratch : List ℕ) : Type 0 where
  pub ground : Ground s sources gates
  pub goes : GoingAt s sources gates o state map out scratch
