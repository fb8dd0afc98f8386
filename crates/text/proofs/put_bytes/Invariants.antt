-- `text::put_bytes` meets its contract: a turn of the loop puts one byte more at the place after the last (`Putting`). Assumes nothing.
use Rattle.text.proofs.Puts.{Putting}
use Rattle.text.proofs.put_bytes.Given as goal

abbrev pub invariant-loop-b : goal.invariant-loop-b
invariant-loop-b l = Putting l.initial.out l.at l.s l.out l.b-index l.place
