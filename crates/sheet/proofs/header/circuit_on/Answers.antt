-- `header::circuit_on` meets its contract: no number is over its limit, so each is a word; the five counts are a part of the header. Assumes nothing.
use native.Mathlib.Omega.{arith}
use mathlib.Core.Path.{ap, ◌∙◌}
use Rattle.sheet_read.proofs.Headers.{taken_at}
use Rattle.sheet.proofs.Circuits.{record_same}
use Rattle.lit.specs.Code.{is_odd, variable}
use Rattle.sheet.proofs.header.circuit_on.Goals as goal

pub word-requires : goal.word-requires
word-requires c = omega (arith, taken_at c.requires 0 (omega arith))

pub word-requires-2 : goal.word-requires-2
word-requires-2 c =
    omega (arith, taken_at c.requires 4 (omega arith))

pub word-requires-3 : goal.word-requires-3
word-requires-3 c =
    omega (arith, taken_at c.requires 5 (omega arith))

pub word-requires-4 : goal.word-requires-4
word-requires-4 c =
    omega (arith, taken_at c.requires 6 (omega arith))

pub word-requires-5 : goal.word-requires-5
word-requires-5 c =
    omega (arith, taken_at c.requires 7 (omega arith))

pub word-requires-6 : goal.word-requires-6
word-requires-6 c =
    omega (arith, taken_at c.requires 8 (omega arith))

pub returns : goal.returns
unfolding is_odd
returns c =
    record_same c.args.header.now _ _ _ _ _ _ c.requires.ten (c.from_index.ensures ∙ ap variable c.word.ensures)
    c.word-2.ensures c.word-3.ensures c.word-4.ensures c.word-5.ensures c.word-6.ensures
