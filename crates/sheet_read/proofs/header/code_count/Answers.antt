-- `header::code_count` meets its contract: no count is over its limit, so the sum is one of 64 bits. Assumes nothing.
use native.Mathlib.Omega.{arith}
use Rattle.sheet_read.proofs.Headers.{bounds}
use Rattle.sheet_read.proofs.header.code_count.Goals as goal

pub overflow_add-result-3 : goal.overflow_add-result-3
overflow_add-result-3 c =
    omega (arith, c.root_count.ensures, bounds c.requires)
