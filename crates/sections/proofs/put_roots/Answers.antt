-- `sections::put_roots` meets its contract: the first roots, the sizes, the roots behind fairness, fairness. Assumes nothing.
use mathlib.Core.Path.{sym}
use native.Mathlib.Omega.{arith}
use lib.Seq.{length-take-le}
use Rattle.lines.specs.Sections.{roots_of}
use Rattle.sections.proofs.Parts.{puts_then, roots_parts}
use Rattle.sections.proofs.put_roots.Goals as goal

pub slice_bounds-put_lines-end : goal.slice_bounds-put_lines-end
slice_bounds-put_lines-end c =
    sym (length-take-le c.smaller-fair.result c.args.roots.now (omega arith))

pub returns : goal.returns
returns c =
    let a = c.args in
    rw (roots_parts a.h (roots_of a.sizes.now a.roots.now) c.smaller-fair.result c.smaller-just.result (omega arith) (omega arith))
    (puts_then _ _ _ _ (omega arith) c.put_lines-after_first.ensures
    (puts_then _ _ _ _ (omega arith) c.put_lines-after_sizes.ensures
    (puts_then _ _ _ _ (omega arith) c.put_lines-after_justice.ensures c.put_lines.ensures)))
