-- `first_disordered` meets its contract: all gates before gate j are in order, so the first of what is left is the first of all. Assumes nothing.
use Prim.Native.Nat.{◌+◌, ◌*◌}
use mathlib.Core.Path.{◌≡◌}
use lib.ListN.{drop}
use Rattle.circuit.specs.Outcome.{pairs_of}
use Rattle.ordered.specs.Check.{first_disordered}
use Rattle.ordered.proofs.given.first_disordered.Given as goal

abbrev pub invariant-loop-j : goal.invariant-loop-j
invariant-loop-j l = first_disordered l.t (pairs_of l.gates) ≡ first_disordered (l.t + 2 * l.j) (drop l.j (pairs_of l.gates))
