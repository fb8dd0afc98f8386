-- `ordered::codes` meets its contract: a turn of the loop stores one code more. Assumes nothing.
use mathlib.Core.Path.{◌≡◌}
use Rattle.text.specs.Put.{put_all}
use Rattle.circuit.specs.Ordered.{count_from}
use Rattle.ordered.proofs.codes.Given as goal

abbrev pub invariant-loop-i : goal.invariant-loop-i
invariant-loop-i l = l.list ≡ put_all l.initial.list 0 (count_from l.t l.i)
