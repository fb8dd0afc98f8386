-- The loop of the walk: each turn keeps what the start came to. Assumes nothing.
use Prim.Native.Nat.{ℕ}
use mathlib.Core.List.{List}
use Rattle.circuit.specs.Walk.{Out}
use Rattle.aig.specs.declared.shape.Shape.{Shape}
use Rattle.aig.specs.declared.walk.State.{State}
use Rattle.aig.specs.Going.{Going}
use Rattle.aig.specs.Turns.{Walking}

-- a walk goes on, and whatever the start came to, it comes to
pub record Loops (s : Shape) (gates : List ℕ) (state₀ : State) (map₀ out₀ scratch₀ : List ℕ) (state : State) (map out scratch : List ℕ) : Type 0 where
  pub walking : Walking s gates state map out scratch
  pub same : (sources : List ℕ) (o : Out) → Going s sources gates o state₀ map₀ out₀ scratch₀ → Going s sources gates o state map out scratch
