-- What is written lies within the words. The measure is the bytes that are left.
use Rattle.std.proofs.Common.{length, ◌-◌, ◌≤◌}
use Rattle.examples.proofs.lists.list.Given as goal

abbrev pub invariant-loop-at : goal.invariant-loop-at
invariant-loop-at l = l.n ≤ length l.words

abbrev pub decreases-loop-at : goal.decreases-loop-at
decreases-loop-at l = length l.s - l.at
