-- `text::digit_count` meets its contract: a number has a digit more from each power of ten on. Assumes nothing.
use mathlib.Core.Path.{sym}
use native.Mathlib.Omega.{arith}
use Rattle.text.proofs.Digits.{count_1, count_power}
use Rattle.text.proofs.digit_count.Goals as goal

pub returns-then-v-lt10 : goal.returns-then-v-lt10
returns-then-v-lt10 c = sym (count_1 _ c.if-v-lt10.true)

pub returns : goal.returns
returns c =
    let log = c.ilog10.ensures in
    sym (count_power _ _ log.power_le log.next_power_gt (omega arith))
