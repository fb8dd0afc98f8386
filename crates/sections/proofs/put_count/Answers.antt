-- `sections::put_count` meets its contract: the space, and then its digits. Assumes nothing.
use native.Mathlib.Omega.{arith}
use mathlib.Core.List.{[], ◌∷◌}
use Rattle.sections.specs.Bytes.{count_bytes}
use Rattle.sections.proofs.Parts.{puts_then}
use Rattle.sections.proofs.put_count.Goals as goal

pub returns : goal.returns
unfolding count_bytes
returns c = puts_then _ _ (32 ∷ []) _ (omega arith) c.put-after.ensures c.put_decimal.ensures
