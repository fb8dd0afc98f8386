-- `ordered::triples_of` meets its contract: a turn of the loop stores one gate more. Assumes nothing.
use mathlib.Core.Path.{◌≡◌}
use lib.ListN.{take}
use Rattle.text.specs.Put.{put_all}
use Rattle.circuit.specs.Outcome.{pairs_of}
use Rattle.ordered.proofs.Laid.{laid}
use Rattle.ordered.proofs.triples_of.Given as goal

abbrev pub invariant-loop-j : goal.invariant-loop-j
invariant-loop-j l = l.list ≡ put_all l.initial.list 0 (laid l.t (take l.j (pairs_of l.gates)))
