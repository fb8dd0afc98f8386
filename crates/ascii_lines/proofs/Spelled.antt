-- Each line of the text form is read exactly where one of its spellings stands, and so is each section of such lines. Assumes nothing.
use Prim.Native.Nat.{ℕ, ◌+◌}
use mathlib.Core.List.{◌++◌}
use lib.ListN.{length}
use Rattle.lines.proofs.Exactly.{Exactly, Anything, NoDigit, nothing, byte, decimal, rows}
use Rattle.lines.proofs.Spelled.{also, also_number, space_starts, newline_starts, count_starts, latch, count}
use Rattle.ascii_lines.specs.Lines.{stated_latch, gate_with, defined_at, input_at, inputs_at, stated_at, latches_at, input_pair_at, gate_at, gates_at}
use Rattle.ascii_lines.specs.Spelling.{Defines, Input, Inputs, StatedLine, StatedLines, GateLine, GateLines}
use Rattle.ascii_lines.proofs.Literals.{defined_number, number_defined}

module _ (most : ℕ) where
  -- a literal that a line defines: a number that passes two tests
  pub defines : Exactly (λ s at. defined_at s most at) (Defines most) NoDigit
  defines =
      record {
        takes = λ v w t before after stop.
            number_defined (before ++ (w ++ after)) most (length before) v (length before + length w)
            ((decimal most).takes v w t.2 before after stop) t.0 t.1;
        only = λ before rest small v end e.
            let d = defined_number (before ++ rest) most (length before) v end e in
            let u = (decimal most).only before rest small v end d.0 in
            record { word = u.word; after = u.after; spells = (d.1, d.2, u.spells); whole = u.whole; there = u.there };
      }

  input : Exactly (λ s at. input_at s most at) (Input most) Anything
  unfolding input_at
  input = also_number defines (λ v. also (byte 10) (λ _. nothing v)) (λ v x w t. newline_starts x w t)

  stated : Exactly (λ s at. stated_at s most at) (StatedLine most) Anything
  unfolding stated_at
  stated =
      also_number defines (λ state. also (byte 32) (λ _. also (latch most state) (λ l. nothing (stated_latch state l.next l.reset))))
      (λ state l w t. space_starts l w t)

  gate : Exactly (λ s at. gate_at s most at) (GateLine most) Anything
  unfolding gate_at input_pair_at
  gate =
      also_number defines (λ output. also_number (count most) (λ first. also_number (count most) (λ second.
      also (byte 10) (λ _. nothing (gate_with output first second))) (λ second g w t. newline_starts g w t))
      (λ first g w t. count_starts g w t)) (λ output g w t. count_starts g w t)

pub inputs : (most n : ℕ) → Exactly (λ s at. inputs_at s most n at) (Inputs most n) Anything
unfolding inputs_at
inputs most n = rows (λ k s at. input_at s most at) (λ k. Input most) (λ k. input most) n 0

pub latches : (most n : ℕ) → Exactly (λ s at. latches_at s most n at) (StatedLines most n) Anything
unfolding latches_at
latches most n = rows (λ k s at. stated_at s most at) (λ k. StatedLine most) (λ k. stated most) n 0

pub gates : (most m : ℕ) → Exactly (λ s at. gates_at s most m at) (GateLines most m) Anything
unfolding gates_at
gates most m = rows (λ k s at. gate_at s most at) (λ k. GateLine most) (λ k. gate most) m 0
