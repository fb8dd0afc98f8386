-- `sheet_lines::put_gate` meets its contract: the parts of the line are put one after the other. Assumes nothing.
use mathlib.Core.List.{◌++◌}
use native.Mathlib.Omega.{arith}
use Rattle.sheet_lines.specs.Lines.{spaced, ended, gate_line}
use Rattle.sheet_lines.proofs.Texts.{put_then}
use Rattle.sheet_lines.proofs.put_gate.Goals as goal

pub returns : goal.returns
unfolding gate_line
returns c =
    let a = c.args in
    put_then _ _ (spaced a.output) (spaced a.larger ++ ended a.smaller) (omega arith) c.put_number-after_output.ensures
    (put_then _ _ (spaced a.larger) (ended a.smaller) (omega arith) c.put_number-after_larger.ensures c.put_number.ensures)
