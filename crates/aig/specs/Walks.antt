-- Literals walked in turn. Assumes nothing.
use Rattle.std.specs.Prelude.{ℕ, zero, suc, ◌-◌, ◌<◌, ◌≡◌, Bool, cond, List, [], ◌∷◌, ◌++◌, map, length, get_or, Result, Ok, Err}
use Rattle.lit.specs.Code.{var}
use Rattle.circuit.specs.Walk.{Work, Out, stopped, stack_room, walk_all}
use Rattle.circuit.specs.Outcome.{gates_of}
use Rattle.circuit.specs.Invariant.{Inv}
use Rattle.aig.specs.declared.shape.Shape.{Shape}
use Rattle.circuit.specs.declared.Refusal.{Refusal}
use Rattle.aig.specs.Going.{net_of, top_of, Ground, Holds, Halted}

-- the lists hold what was done, and with these literals still to be walked all comes to o
pub record Waiting (s : Shape) (sources gates : List ℕ) (o : Out) (made : ℕ) (cs : List ℕ) (images out scratch : List ℕ) : Type 0 where
  pub ground : Ground s sources gates
  pub work : Work
  pub holds : Holds s gates made work images out scratch
  pub inv : Inv (net_of s sources gates) (top_of s) work
  pub comes : walk_all (net_of s sources gates) (stack_room (net_of s sources gates)) cs work ≡ o

-- so it is after a walk that went well; else all comes to its refusal
abbrev pub Waits : Shape → List ℕ → List ℕ → Out → List ℕ → Result ℕ Refusal → List ℕ → List ℕ → List ℕ → Type 0
Waits s sources gates o cs (Ok made) images out scratch = Waiting s sources gates o made cs images out scratch
Waits s sources gates o cs (Err why) images out scratch = Halted s o (stopped why) images out scratch

-- every code of the list is one of the circuit's
abbrev pub AllInside : Shape → List ℕ → Type 0
AllInside s cs = (i : ℕ) → i < length cs → var (get_or cs i 0) < s.vars

-- literals that can be walked after what was walked so far
pub record CanGoOn (s : Shape) (gates cs : List ℕ) (from : Result ℕ Refusal) (images out scratch : List ℕ) : Type 0 where
  pub inside : AllInside s cs
  pub sources : List ℕ
  pub o : Out
  pub rest : List ℕ
  pub waiting : Waits s sources gates o (cs ++ rest) from images out scratch

-- the literals have been walked after what was walked so far, whatever comes after them
abbrev pub GoesOn : Shape → List ℕ → List ℕ → Result ℕ Refusal → List ℕ → List ℕ → List ℕ → Result ℕ Refusal → List ℕ → List ℕ → List ℕ → Type 0
GoesOn s gates cs from images out scratch r images' out' scratch' =
    (sources : List ℕ) (o : Out) (rest : List ℕ) → Waits s sources gates o (cs ++ rest) from images out scratch
    → Waits s sources gates o rest r images' out' scratch'

-- literals that can be walked where so many gates have been made
abbrev pub CanWalk : Shape → List ℕ → ℕ → List ℕ → List ℕ → List ℕ → List ℕ → Type 0
CanWalk s gates made cs images out scratch = CanGoOn s gates cs (Ok made) images out scratch

-- the literals have been walked from there
abbrev pub Walks : Shape → List ℕ → ℕ → List ℕ → List ℕ → List ℕ → List ℕ → Result ℕ Refusal → List ℕ → List ℕ → List ℕ → Type 0
Walks s gates made cs images out scratch r images' out' scratch' = GoesOn s gates cs (Ok made) images out scratch r images' out' scratch'

-- every step-th literal of a list, after k that are passed over
abbrev pub every_from : ℕ → ℕ → List ℕ → List ℕ
every_from step k [] = []
every_from step zero (c ∷ cs) = c ∷ every_from step (step - 1) cs
every_from step (suc k) (c ∷ cs) = every_from step k cs

-- the outputs of the gates
abbrev pub outputs_of : List ℕ → List ℕ
outputs_of gates = map (λ g. g.output) (gates_of gates)

-- all that is walked, in order
abbrev pub turns : Bool → List ℕ → List ℕ → List ℕ → List ℕ
turns trim gates nexts roots = cond trim [] (outputs_of gates) ++ (nexts ++ roots)
