-- `over_in` meets its contract: nothing before this code is over the bound, so the first of what is left is the first of all. Assumes nothing.
use mathlib.Core.Path.{◌≡◌}
use lib.ListN.{drop}
use Rattle.circuit.specs.Circuit.{first_over}
use Rattle.checks.proofs.over_in.Given as goal

abbrev pub invariant-loop-code : goal.invariant-loop-code
invariant-loop-code l = first_over l.bound l.codes ≡ first_over l.bound (drop l.code-index l.codes)
