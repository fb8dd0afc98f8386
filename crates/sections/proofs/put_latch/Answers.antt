-- `sections::put_latch` meets its contract: the digits of the next state, the reset, and then the newline. Assumes nothing.
use native.Mathlib.Omega.{arith}
use Rattle.sections.specs.Bytes.{latch_bytes}
use Rattle.sections.proofs.Parts.{puts_then}
use Rattle.sections.proofs.put_latch.Goals as goal

pub returns : goal.returns
unfolding latch_bytes
returns c =
    puts_then _ _ _ _ (omega arith) c.put_decimal-after_next.ensures (puts_then _ _ _ _ (omega arith) c.put_reset-after_reset.ensures c.put.ensures)
