-- `sections::put_line` meets its contract: its digits, and then the newline. Assumes nothing.
use native.Mathlib.Omega.{arith}
use Rattle.sections.specs.Bytes.{line_bytes}
use Rattle.sections.proofs.Parts.{puts_then}
use Rattle.sections.proofs.put_line.Goals as goal

pub returns : goal.returns
unfolding line_bytes
returns c = puts_then _ _ _ _ (omega arith) c.put_decimal-after.ensures c.put.ensures
