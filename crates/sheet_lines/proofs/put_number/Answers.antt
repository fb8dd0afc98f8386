-- `sheet_lines::put_number` meets its contract: the digits and then the byte are put one after the other. Assumes nothing.
use mathlib.Core.List.{[], ◌∷◌}
use native.Mathlib.Omega.{arith}
use Rattle.token.specs.Format.{digits_of}
use Rattle.sheet_lines.proofs.Texts.{put_then}
use Rattle.sheet_lines.proofs.put_number.Goals as goal

pub returns : goal.returns
returns c =
    let a = c.args in
    put_then _ _ (digits_of a.v) (a.after ∷ []) (omega arith) c.put_decimal-end.ensures c.put.ensures
