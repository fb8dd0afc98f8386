-- `sheet_lines::put_images` meets its contract: a turn of the loop puts the line of one image more (`Listing`). Assumes nothing.
use mathlib.Core.Path.{refl}
use native.Mathlib.Omega.{arith}
use Rattle.sheet_lines.proofs.Texts.{listing_none, listing_more, listing_all}
use Rattle.sheet_lines.proofs.put_images.Goals as goal

pub loop-image-init : goal.loop-image-init
loop-image-init c = listing_none _ _ _ _ (omega arith)

pub loop-image-preserved : goal.loop-image-preserved
loop-image-preserved c =
    listing_more c.loop-image.invariant 0 (omega arith) (omega arith) refl c.put_image-place.ensures

pub returns : goal.returns
returns c = listing_all c.loop-image.invariant (omega arith)
