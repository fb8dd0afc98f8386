-- `decimal` meets its contract. The invariant: n digits are passed, and write v, which fits 64 bits. A place with no digit ends the run. Digits only
-- make a number larger, so one that no longer fits is refused at once. Assumes nothing.
use Rattle.token.proofs.Decimals.{DigitsPassed}
use Rattle.token.proofs.decimal.Given as goal

abbrev pub invariant-loop-n : goal.invariant-loop-n
invariant-loop-n l = DigitsPassed l.s l.at l.n l.v
