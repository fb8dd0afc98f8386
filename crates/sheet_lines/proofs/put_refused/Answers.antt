-- `sheet_lines::put_refused` meets its contract: the parts of the line are put one after the other. Assumes nothing.
use mathlib.Core.List.{◌++◌}
use native.Mathlib.Omega.{arith}
use Rattle.sheet_lines.specs.Lines.{spaced, ended, refused_word, refused_line}
use Rattle.sheet_lines.proofs.Texts.{put_then}
use Rattle.sheet_lines.proofs.put_refused.Goals as goal

pub returns : goal.returns
unfolding refused_line
returns c =
    let a = c.args in
    put_then _ _ refused_word (spaced a.number ++ ended a.beside) (omega arith) c.put_bytes-after_word.ensures
    (put_then _ _ (spaced a.number) (ended a.beside) (omega arith) c.put_number-after_number.ensures c.put_number.ensures)
