-- `run`: each turn is a step that keeps what the start came to, with less to go; the end is what it came to. Assumes nothing.
use Rattle.aig.proofs.Looping.{Loops}
use Rattle.aig.specs.Turns.{to_go}
use Rattle.aig.proofs.walk.run.Given as goal

abbrev pub invariant-loop-state : goal.invariant-loop-state
invariant-loop-state l = Loops l.shape l.gates l.initial.state l.initial.map l.initial.out l.initial.scratch l.state l.map l.out l.scratch

abbrev pub decreases-loop-state : goal.decreases-loop-state
decreases-loop-state l = to_go l.shape l.gates l.state l.map l.scratch
