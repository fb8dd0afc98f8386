-- `sections::put_header` meets its contract: the tag, the front of the nine counts, the newline. Assumes nothing.
use Prim.Native.Nat.{◌+◌}
use mathlib.Core.Path.{sym}
use native.Mathlib.Omega.{arith}
use lib.Seq.{length-take-le}
use Rattle.sections.specs.Bytes.{after_tag}
use Rattle.sections.proofs.Parts.{puts_then, nine, counts_front, kept_few}
use Rattle.sections.proofs.put_header.Goals as goal

pub slice_bounds-put_counts-end : goal.slice_bounds-put_counts-end
slice_bounds-put_counts-end c =
    let h = c.args.h in
    sym (length-take-le (5 + c.option_count-n.result) (nine h) (omega (arith, kept_few h)))

pub returns : goal.returns
unfolding after_tag
returns c =
    let counted = rw (counts_front c.args.h c.option_count-n.result c.option_count-n.ensures) at c.put_counts-after_counts.ensures in
    puts_then _ _ _ _ (omega arith) c.put_bytes-after_tag.ensures (puts_then _ _ _ _ (omega arith) counted c.put.ensures)
