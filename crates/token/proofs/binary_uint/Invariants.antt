-- `binary_uint` meets its contract. The invariant: n bytes are passed, at most seven, each of them goes on, v is what they write and weight
-- is 128 ^ n. A byte below 128 is the last, an eighth that goes on is one too many, and the end cuts the number. No product wraps, because a group
-- is below 128 and the weight at most 128 ^ 7. Assumes nothing.
use Rattle.token.proofs.Groups.{GroupsPassed}
use Rattle.token.proofs.binary_uint.Given as goal

abbrev pub invariant-loop-n : goal.invariant-loop-n
invariant-loop-n l = GroupsPassed l.s l.at l.n l.v l.weight
