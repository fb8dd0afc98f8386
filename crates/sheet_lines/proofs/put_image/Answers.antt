-- `sheet_lines::put_image` meets its contract: the parts of the line are put one after the other. Assumes nothing.
use mathlib.Core.List.{[], ◌∷◌}
use native.Mathlib.Omega.{arith}
use Rattle.sheet_lines.specs.Lines.{ended, image_line}
use Rattle.sheet_lines.proofs.Texts.{put_then}
use Rattle.sheet_lines.proofs.put_image.Goals as goal

pub returns : goal.returns
unfolding image_line
returns c =
    let a = c.args in
    put_then _ _ (a.letter ∷ []) (32 ∷ ended a.image) (omega arith) c.put-after_letter.ensures
    (put_then _ _ (32 ∷ []) (ended a.image) (omega arith) c.put-after_space.ensures c.put_number.ensures)
