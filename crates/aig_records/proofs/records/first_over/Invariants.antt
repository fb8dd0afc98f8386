-- Nothing in the records before this one is over the bound, so the first of what is left is the first of all.
use Rattle.std.proofs.Common.{◌≡◌, drop}
use Rattle.circuit.specs.Circuit.{first_over}
use Rattle.aig_records.specs.Records.{flat_of}
use Rattle.aig_records.proofs.records.first_over.Given as goal

abbrev pub invariant-loop-gate : goal.invariant-loop-gate
invariant-loop-gate l = first_over l.bound (flat_of l.gates) ≡ first_over l.bound (flat_of (drop l.gate-index l.gates))
