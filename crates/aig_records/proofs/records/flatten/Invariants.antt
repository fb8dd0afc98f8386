-- After i turns the codes of the first i records are laid.
use Rattle.std.proofs.Common.{◌≡◌}
use Rattle.aig_records.specs.Records.{laid_onto}
use Rattle.aig_records.proofs.records.flatten.Given as goal

abbrev pub invariant-loop-i : goal.invariant-loop-i
invariant-loop-i l = l.flat ≡ laid_onto l.i l.gates l.fn.flat
