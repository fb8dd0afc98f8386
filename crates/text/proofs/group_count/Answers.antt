-- `text::group_count` meets its contract: a number has a group more from each power of 128 on. Assumes nothing.
use mathlib.Core.Path.{sym}
use native.Mathlib.Omega.{arith}
use Rattle.text.proofs.Groups.{count_1, count_log}
use Rattle.text.proofs.group_count.Goals as goal

pub returns-then-d-lt128 : goal.returns-then-d-lt128
returns-then-d-lt128 c = sym (count_1 _ c.if-d-lt128.true)

pub returns : goal.returns
returns c =
    let log = c.ilog2.ensures in
    sym (count_log _ _ _ (omega arith) (omega arith) log.power_le log.next_power_gt (omega arith))
