-- `images`: after i turns the first i images stand in the list. Assumes nothing.
use mathlib.Core.Path.{◌≡◌}
use mathlib.Core.List.{◌++◌}
use lib.ListN.{take, drop}
use Rattle.circuit.specs.Ordered.{images_in}
use Rattle.images.proofs.images.Given as goal

abbrev pub invariant-loop-i : goal.invariant-loop-i
invariant-loop-i l = l.out ≡ take l.i (images_in l.map l.literals) ++ drop l.i l.initial.out
