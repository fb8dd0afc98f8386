-- `lists::report_answer` meets its contract: the circuit, every reset 0, passes checks 1 to 3, and what renumbering leaves in the lists is the ordered
-- circuit that is printed. Assumes nothing.
use native.Mathlib.Omega.{arith}
use mathlib.Core.Path.{sym}
use lib.Seq.{length-take-le}
use Rattle.sheet_read.proofs.Headers.{bounds}
use Rattle.sheet_lines.proofs.Texts.{put_same}
use Rattle.sheet.proofs.Answers.{zeros_long, given_made, given_ordered, given_refused}
use Rattle.sheet.proofs.lists.report_answer.Goals as goal

pub slice_bounds-resets-end : goal.slice_bounds-resets-end
slice_bounds-resets-end c =
    omega (arith, c.requires.0.states, bounds c.requires.0.taken)

pub slice_bounds-lists-end : goal.slice_bounds-lists-end
slice_bounds-lists-end c =
    sym (length-take-le _ _ (omega (arith, zeros_long c.filled-resets.ensures.all, c.requires.0.states, bounds c.requires.0.taken)))

pub overflow_cast-input_count : goal.overflow_cast-input_count
overflow_cast-input_count c =
    omega (arith, c.requires.0.inputs, bounds c.requires.0.taken)

pub slice_bounds-print_ordered-end : goal.slice_bounds-print_ordered-end
slice_bounds-print_ordered-end c =
    let renumber_next_images_kept = c.renumber-answer.auto.room in
    omega (arith, renumber_next_images_kept, c.requires.1.next_images, c.requires.0.states, bounds c.requires.0.taken)

pub slice_bounds-print_ordered-end-in-Ok : goal.slice_bounds-print_ordered-end-in-Ok
slice_bounds-print_ordered-end-in-Ok c =
    let renumber_next_images_kept = c.renumber-answer.auto.room in
    sym (length-take-le _ _ (omega (arith, renumber_next_images_kept, c.requires.1.next_images, c.requires.0.states, bounds c.requires.0.taken)))

pub slice_bounds-print_ordered-end-in-Ok-2 : goal.slice_bounds-print_ordered-end-in-Ok-2
slice_bounds-print_ordered-end-in-Ok-2 c =
    let renumber_gates_out_kept = c.renumber-answer.auto.room in
    omega (
      arith,
      renumber_gates_out_kept,
      c.requires.1.gates_out,
      given_made _ _ _ _ _ _ _ _ _ _ _ _ c.requires.0 c.requires.1 _ _ _ _ _ _ _ _ _ c.circuit_on-circuit.ensures c.filled-resets.ensures.all
          c.renumber-answer.ensures _ c.in-Ok.is,
    )

pub slice_bounds-print_ordered-end-in-Ok-3 : goal.slice_bounds-print_ordered-end-in-Ok-3
slice_bounds-print_ordered-end-in-Ok-3 c =
    let renumber_gates_out_kept = c.renumber-answer.auto.room in
    sym (length-take-le _ _ (omega (
      arith,
      renumber_gates_out_kept,
      c.requires.1.gates_out,
      given_made _ _ _ _ _ _ _ _ _ _ _ _ c.requires.0 c.requires.1 _ _ _ _ _ _ _ _ _ c.circuit_on-circuit.ensures c.filled-resets.ensures.all
          c.renumber-answer.ensures _ c.in-Ok.is,
    )))

pub slice_bounds-print_ordered-end-in-Ok-4 : goal.slice_bounds-print_ordered-end-in-Ok-4
slice_bounds-print_ordered-end-in-Ok-4 c =
    let renumber_root_images_kept = c.renumber-answer.auto.room in
    omega (arith, renumber_root_images_kept, c.requires.1.root_images, c.requires.0.roots, bounds c.requires.0.taken)

pub slice_bounds-print_ordered-end-in-Ok-5 : goal.slice_bounds-print_ordered-end-in-Ok-5
slice_bounds-print_ordered-end-in-Ok-5 c =
    let renumber_root_images_kept = c.renumber-answer.auto.room in
    sym (length-take-le _ _ (omega (arith, renumber_root_images_kept, c.requires.1.root_images, c.requires.0.roots, bounds c.requires.0.taken)))

pub returns-in-Ok : goal.returns-in-Ok
returns-in-Ok c =
    put_same _ _ c.print_ordered.ensures
    (given_ordered _ _ _ _ _ _ _ _ _ _ _ _ c.requires.0 c.requires.1 _ _ _ _ _ _ _ _ _ c.circuit_on-circuit.ensures c.filled-resets.ensures.all
    c.renumber-answer.ensures _ c.in-Ok.is)

pub returns-in-Err : goal.returns-in-Err
returns-in-Err c =
    put_same _ _ c.print_refused.ensures
    (given_refused _ _ _ _ _ _ _ _ _ _ _ _ c.requires.0 c.requires.1 _ _ _ _ _ _ _ _ _ c.circuit_on-circuit.ensures c.filled-resets.ensures.all
    c.renumber-answer.ensures _ c.in-Err.is)
