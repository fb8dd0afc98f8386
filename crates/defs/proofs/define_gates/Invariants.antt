-- `define_gates` meets its contract: what is left to define falls by one gate a turn; gate k's output is word 3k. Assumes nothing.
use mathlib.Core.Path.{◌≡◌}
use lib.ListN.{drop}
use Rattle.circuit.specs.Outcome.{gates_of}
use Rattle.defs.specs.Define.{define_gates}
use Rattle.defs.proofs.define_gates.Given as goal

abbrev pub invariant-loop-k : goal.invariant-loop-k
invariant-loop-k l = define_gates l.initial.table (gates_of l.gates) 0 ≡ define_gates l.table (drop l.k (gates_of l.gates)) l.k
