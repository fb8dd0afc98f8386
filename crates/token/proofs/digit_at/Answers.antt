-- `digit_at` meets its contract: a run of digits at a place begins with a digit there, and else is empty. Assumes nothing.
use mathlib.Core.Path.{refl}
use lib.ListN.{length}
use borrow.Author.Tests.{le-ltb}
use Rattle.token.proofs.Decimals.{digits_end, digit_tested}
use Rattle.token.proofs.digit_at.Goals as goal

pub returns-then-at-s : goal.returns-then-at-s
returns-then-at-s c = digit_tested c.args.s.now c.args.at _ c.if-at-s.true refl c.is_digit.ensures

pub returns-else-at-s : goal.returns-else-at-s
returns-else-at-s c =
    let s = c.args.s.now in
    rw (digits_end s c.args.at c.if-at-s.false, le-ltb c.args.at (length s) c.if-at-s.false)
