-- What is written lies within the room. The measure is the room that is left.
use Rattle.std.proofs.Common.{length, ◌-◌, ◌≤◌}
use Rattle.answers.proofs.fields.bytes.Given as goal

abbrev pub invariant-loop-n : goal.invariant-loop-n
invariant-loop-n l = l.n ≤ length l.out

abbrev pub decreases-loop-n : goal.decreases-loop-n
decreases-loop-n l = length l.initial.out - l.n
