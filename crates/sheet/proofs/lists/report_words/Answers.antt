-- `lists::report_words` meets its contract: the lists are parts of the words, and the latches' part is split into the fronts of two rows. Assumes nothing.
use Prim.Native.Nat.{ℕ, ◌+◌, ◌*◌}
use mathlib.Core.Path.{refl, sym, ap, ◌∙◌}
use native.Mathlib.Omega.{arith}
use lib.Seq.{length-take-le}
use Rattle.circuit.specs.Circuit.{Circuit, renumber}
use Rattle.sheet_read.specs.Sheet.{input_count, latch_count, gate_count}
use Rattle.sheet.specs.Report.{out_text}
use Rattle.sheet_read.proofs.Headers.{bounds}
use Rattle.sheet_lines.proofs.Texts.{put_same}
use Rattle.sheet.proofs.Circuits.{part_of, part-rest, inputs_long, part_long, states_front, nexts_front, parts_end, gates_end_lem, lists-circuit, lists_shaped}
use Rattle.sheet.proofs.lists.report_words.Goals as goal

pub overflow_mul-gates_end : goal.overflow_mul-gates_end
overflow_mul-gates_end c =
    omega (arith, bounds c.requires.0)

pub overflow_add-gates_end : goal.overflow_add-gates_end
overflow_add-gates_end c =
    omega (arith, bounds c.requires.0)

pub overflow_mul-latches_end : goal.overflow_mul-latches_end
overflow_mul-latches_end c =
    omega (arith, bounds c.requires.0)

pub overflow_add-latches_end : goal.overflow_add-latches_end
overflow_add-latches_end c =
    omega (arith, bounds c.requires.0)

pub offset_bounds-words-gates_end : goal.offset_bounds-words-gates_end
offset_bounds-words-gates_end c =
    omega (arith, bounds c.requires.0)

pub slice_bounds-states-end : goal.slice_bounds-states-end
slice_bounds-states-end c =
    omega (arith, bounds c.requires.0)

pub slice_bounds-split-end-2 : goal.slice_bounds-split-end-2
slice_bounds-split-end-2 c =
    let a = c.args in
    sym (length-take-le (latch_count a.header.now) c.filled-states.result (omega (arith, c.filled-states.ensures.long, bounds c.requires.0)))

pub slice_bounds-nexts-end : goal.slice_bounds-nexts-end
slice_bounds-nexts-end c =
    omega (arith, bounds c.requires.0)

pub slice_bounds-split-end-3 : goal.slice_bounds-split-end-3
slice_bounds-split-end-3 c =
    let a = c.args in
    sym (length-take-le (latch_count a.header.now) c.filled-nexts.result (omega (arith, c.filled-nexts.ensures.long, bounds c.requires.0)))

pub split-requires : goal.split-requires
split-requires c =
    let a = c.args in (
      part_long a.header.now a.words.now c.requires.0 c.requires.1 ∙ ap (λ (k : ℕ). 2 * k)
          (sym (length-take-le (latch_count a.header.now) c.filled-states.result (omega (arith, c.filled-states.ensures.long, bounds c.requires.0)))),
      length-take-le (latch_count a.header.now) c.filled-nexts.result (omega (arith, c.filled-nexts.ensures.long, bounds c.requires.0)) ∙ sym
          (length-take-le (latch_count a.header.now) c.filled-states.result (omega (arith, c.filled-states.ensures.long, bounds c.requires.0))),
    )

pub slice_bounds-report_circuit-end : goal.slice_bounds-report_circuit-end
slice_bounds-report_circuit-end c =
    let a = c.args in
    sym (inputs_long a.header.now a.words.now c.requires.0 c.requires.1)

pub slice_bounds-states-end-2 : goal.slice_bounds-states-end-2
slice_bounds-states-end-2 c =
    let split_states = c.split.new.states in
    let a = c.args in
    (states_front a.header.now a.words.now c.requires.0 c.requires.1 (split_states) _ c.split.ensures.0).room

pub slice_bounds-report_circuit-end-2 : goal.slice_bounds-report_circuit-end-2
slice_bounds-report_circuit-end-2 c =
    let split_states = c.split.new.states in
    let a = c.args in
    (states_front a.header.now a.words.now c.requires.0 c.requires.1 (split_states) _ c.split.ensures.0).count

pub slice_bounds-nexts-end-2 : goal.slice_bounds-nexts-end-2
slice_bounds-nexts-end-2 c =
    let split_nexts = c.split.new.nexts in
    let a = c.args in
    (nexts_front a.header.now a.words.now c.requires.0 c.requires.1 (split_nexts) _ c.split.ensures.1).room

pub slice_bounds-report_circuit-end-3 : goal.slice_bounds-report_circuit-end-3
slice_bounds-report_circuit-end-3 c =
    let split_nexts = c.split.new.nexts in
    let a = c.args in
    (nexts_front a.header.now a.words.now c.requires.0 c.requires.1 (split_nexts) _ c.split.ensures.1).count

pub offset_bounds-words-inputs_end : goal.offset_bounds-words-inputs_end
offset_bounds-words-inputs_end c =
    omega (arith, bounds c.requires.0)

pub offset_bounds-words-latches_end : goal.offset_bounds-words-latches_end
offset_bounds-words-latches_end c =
    omega (arith, bounds c.requires.0)

pub slice_bounds-report_circuit-count-2 : goal.slice_bounds-report_circuit-count-2
slice_bounds-report_circuit-count-2 c =
    let a = c.args in
    parts_end a.header.now a.words.now c.requires.0 c.requires.1

pub report_circuit-requires : goal.report_circuit-requires
report_circuit-requires c =
    let split_states = c.split.new.states in
    let split_nexts = c.split.new.nexts in
    let a = c.args in
    lists_shaped a.header.now a.words.now c.requires.0 c.requires.1 refl
    (states_front a.header.now a.words.now c.requires.0 c.requires.1 (split_states) _ c.split.ensures.0).same
    (nexts_front a.header.now a.words.now c.requires.0 c.requires.1 (split_nexts) _ c.split.ensures.1).same
    (part_of (input_count a.header.now) (3 * gate_count a.header.now) a.words.now)
    (part-rest (input_count a.header.now + 3 * gate_count a.header.now + 2 * latch_count a.header.now) a.words.now)

pub returns : goal.returns
returns c =
    let split_states = c.split.new.states in
    let split_nexts = c.split.new.nexts in
    let a = c.args in
    put_same _ _ c.report_circuit.ensures (ap (λ (C : Circuit). out_text C (renumber C))
    (lists-circuit a.header.now a.words.now refl
    (states_front a.header.now a.words.now c.requires.0 c.requires.1 (split_states) _ c.split.ensures.0).same
    (nexts_front a.header.now a.words.now c.requires.0 c.requires.1 (split_nexts) _ c.split.ensures.1).same
    (part_of (input_count a.header.now) (3 * gate_count a.header.now) a.words.now)
    (part-rest (input_count a.header.now + 3 * gate_count a.header.now + 2 * latch_count a.header.now) a.words.now)))

pub slice_bounds-split-end : goal.slice_bounds-split-end
slice_bounds-split-end c = parts_end c.args.header.now c.args.words.now c.requires.0 c.requires.1

pub slice_bounds-report_circuit-end-4 : goal.slice_bounds-report_circuit-end-4
slice_bounds-report_circuit-end-4 c = gates_end_lem c.args.header.now c.args.words.now c.requires.0 c.requires.1

pub slice_bounds-report_circuit-start-2 : goal.slice_bounds-report_circuit-start-2
slice_bounds-report_circuit-start-2 c = parts_end c.args.header.now c.args.words.now c.requires.0 c.requires.1
