-- `sheet_lines::put_images` meets its contract: a turn of the loop puts the line of one image more (`Listing`). Assumes nothing.
use Rattle.sheet_lines.specs.Lines.{image_line}
use Rattle.sheet_lines.proofs.Texts.{Listing}
use Rattle.sheet_lines.proofs.put_images.Given as goal

abbrev pub invariant-loop-image : goal.invariant-loop-image
invariant-loop-image l = Listing (image_line l.letter) l.images l.initial.out l.at l.out l.image-index l.place
