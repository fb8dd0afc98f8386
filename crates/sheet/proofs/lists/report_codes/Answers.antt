-- `lists::report_codes` meets its contract: check 4 is made on the codes themselves, and codes that pass it are words. Assumes nothing.
use mathlib.Core.Path.{sym, ◌∙◌}
use native.Mathlib.Omega.{arith}
use lib.Seq.{length-take-le}
use Rattle.sheet_read.proofs.Headers.{codes_few, bounds}
use Rattle.sheet_lines.proofs.Texts.{put_same}
use Rattle.sheet.proofs.Circuits.{codes_long, words_front_lem, narrowed_text, narrow_words_lem, over_refused}
use Rattle.sheet.proofs.lists.report_codes.Goals as goal

pub slice_bounds-first_over-end : goal.slice_bounds-first_over-end
slice_bounds-first_over-end c =
    let a = c.args in
    sym (codes_long a.header.now a.codes.now c.requires.0 c.requires.1 c.code_count-count.result
    c.code_count-count.ensures)

pub overflow_mul-header : goal.overflow_mul-header
overflow_mul-header c =
    omega (arith, bounds c.requires.0)

pub overflow_add-header : goal.overflow_add-header
overflow_add-header c =
    omega (arith, bounds c.requires.0)

pub slice_bounds-narrow-end : goal.slice_bounds-narrow-end
slice_bounds-narrow-end c =
    let a = c.args in
    sym (codes_long a.header.now a.codes.now c.requires.0 c.requires.1 c.code_count-count.result
    c.code_count-count.ensures)

pub slice_bounds-words-end : goal.slice_bounds-words-end
slice_bounds-words-end c =
    omega (arith, c.code_count-count.ensures, codes_few c.requires.0)

pub slice_bounds-narrow-end-in-None : goal.slice_bounds-narrow-end-in-None
slice_bounds-narrow-end-in-None c =
    sym (length-take-le c.code_count-count.result c.filled-words.result
    (omega (arith, c.code_count-count.ensures, codes_few c.requires.0, c.filled-words.ensures.long)))

pub narrow-requires : goal.narrow-requires
narrow-requires c =
    let a = c.args in (
      length-take-le c.code_count-count.result c.filled-words.result
          (omega (arith, c.code_count-count.ensures, codes_few c.requires.0, c.filled-words.ensures.long)) ∙ sym
          (codes_long a.header.now a.codes.now c.requires.0 c.requires.1 c.code_count-count.result
          c.code_count-count.ensures),
      narrow_words_lem a.header.now a.codes.now c.requires.0 c.requires.1
          c.code_count-count.result c.code_count-count.ensures (sym c.first_over.ensures ∙ c.in-None.is),
    )

pub slice_bounds-words-end-in-None : goal.slice_bounds-words-end-in-None
slice_bounds-words-end-in-None c =
    let a = c.args in
    (words_front_lem a.header.now a.codes.now c.requires.0 c.requires.1 c.code_count-count.result
    c.code_count-count.ensures c.narrow.new.words _ c.narrow.ensures).room

pub slice_bounds-report_words-end : goal.slice_bounds-report_words-end
slice_bounds-report_words-end c =
    let narrow_words = c.narrow.new.words in
    let a = c.args in
    (words_front_lem a.header.now a.codes.now c.requires.0 c.requires.1 c.code_count-count.result
    c.code_count-count.ensures (narrow_words) _ c.narrow.ensures).count

pub report_words-requires : goal.report_words-requires
report_words-requires c =
    let narrow_words = c.narrow.new.words in
    let a = c.args in (
      c.requires.0,
      sym (words_front_lem a.header.now a.codes.now c.requires.0 c.requires.1 c.code_count-count.result
          c.code_count-count.ensures (narrow_words) _ c.narrow.ensures).count ∙ c.code_count-count.ensures,
    )

pub returns-in-None : goal.returns-in-None
returns-in-None c =
    let narrow_words = c.narrow.new.words in
    let a = c.args in
    put_same _ _ c.report_words.ensures (narrowed_text a.header.now a.codes.now c.requires.0 c.requires.1
    c.code_count-count.result c.code_count-count.ensures _
    (words_front_lem a.header.now a.codes.now c.requires.0 c.requires.1 c.code_count-count.result
    c.code_count-count.ensures (narrow_words) _ c.narrow.ensures).same)

pub returns-in-Some : goal.returns-in-Some
returns-in-Some c =
    let a = c.args in
    put_same _ _ c.put_refused.ensures (over_refused a.header.now a.codes.now c.requires.0 c.requires.1
    c.code_count-count.result c.code_count-count.ensures _ (sym c.first_over.ensures ∙ c.in-Some.is))
