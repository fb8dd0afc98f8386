-- `text::put_groups` meets its contract: a turn of the loop puts the first group of what is left (`Grouping`). Assumes nothing.
use Rattle.text.proofs.Groups.{Grouping}
use Rattle.text.proofs.put_groups.Given as goal

abbrev pub invariant-loop-rest : goal.invariant-loop-rest
invariant-loop-rest l = Grouping l.initial.out l.at l.d l.out l.place l.rest

abbrev pub decreases-loop-rest : goal.decreases-loop-rest
decreases-loop-rest l = l.rest
