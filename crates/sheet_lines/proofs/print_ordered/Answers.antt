-- `sheet_lines::print_ordered` meets its contract: the lines are put one after the other. Assumes nothing.
use Prim.Native.Nat.{◌+◌}
use mathlib.Core.List.{◌++◌}
use mathlib.Core.Path.{refl}
use native.Mathlib.Omega.{arith}
use lib.ListN.{length}
use Rattle.circuit.specs.Walk.{first_code}
use Rattle.circuit.specs.Ordered.{gates_from}
use Rattle.circuit.specs.Outcome.{pairs_of}
use Rattle.sheet_lines.specs.Lines.{ordered_line, gate_line, image_line, next_letter, root_letter, each}
use Rattle.sheet_lines.specs.Text.{ordered_text}
use Rattle.sheet_lines.proofs.Texts.{put_same, put_then}
use Rattle.sheet_lines.proofs.Answers.{ordered_line_same, gate_lines_same}
use Rattle.sheet_lines.proofs.print_ordered.Goals as goal

pub returns : goal.returns
unfolding ordered_text
returns c =
    let a = c.args in
    let first = ordered_line a.summary.top.0 a.inputs (length a.nexts.now) a.summary.made in
    let gates = each gate_line (gates_from (first_code (a.inputs + length a.nexts.now)) (pairs_of a.gates.now)) in
    let nexts = each (image_line next_letter) a.nexts.now in
    let roots = each (image_line root_letter) a.roots.now in
    put_then _ _ first (gates ++ (nexts ++ roots)) (omega arith)
    (put_same _ _ c.put_ordered-after_line.ensures (ordered_line_same _ _ _ _ c.index.ensures refl refl))
    (put_then _ _ gates (nexts ++ roots) (omega arith)
    (put_same _ _ c.put_gates-after_gates.ensures (gate_lines_same a.gates.now a.inputs (length a.nexts.now) refl))
    (put_then _ _ nexts roots (omega arith) c.put_images-after_nexts.ensures c.put_images.ensures))
