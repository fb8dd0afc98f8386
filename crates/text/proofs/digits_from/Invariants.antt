-- `text::digits_from` meets its contract: a turn of the loop puts the last digit of what is left (`Filling`), at a place that is there. Assumes nothing.
use Prim.Native.Nat.{◌<◌}
use lib.ListN.{length}
use Rattle.text.proofs.Digits.{Filling}
use Rattle.text.proofs.digits_from.Given as goal

abbrev pub invariant-loop-rest : goal.invariant-loop-rest
invariant-loop-rest l = Filling l.initial.out l.at l.v l.out l.place l.rest × (l.place < length l.initial.out)

abbrev pub decreases-loop-rest : goal.decreases-loop-rest
decreases-loop-rest l = l.rest
