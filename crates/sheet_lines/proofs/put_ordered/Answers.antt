-- `sheet_lines::put_ordered` meets its contract: the parts of the line are put one after the other. Assumes nothing.
use mathlib.Core.List.{◌++◌}
use native.Mathlib.Omega.{arith}
use Rattle.sheet_lines.specs.Lines.{spaced, ended, ordered_word, ordered_line}
use Rattle.sheet_lines.proofs.Texts.{put_then}
use Rattle.sheet_lines.proofs.put_ordered.Goals as goal

pub returns : goal.returns
unfolding ordered_line
returns c =
    let a = c.args in
    put_then _ _ ordered_word (spaced a.top ++ (spaced a.inputs ++ (spaced a.latches ++ ended a.made))) (omega arith) c.put_bytes-after_word.ensures
    (put_then _ _ (spaced a.top) (spaced a.inputs ++ (spaced a.latches ++ ended a.made)) (omega arith) c.put_number-after_top.ensures
    (put_then _ _ (spaced a.inputs) (spaced a.latches ++ ended a.made) (omega arith) c.put_number-after_inputs.ensures
    (put_then _ _ (spaced a.latches) (ended a.made) (omega arith) c.put_number-after_latches.ensures c.put_number.ensures)))
