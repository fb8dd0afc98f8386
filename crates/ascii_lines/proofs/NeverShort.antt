-- No line of the text form is refused by 3, which comes of the tests of the lists alone. Assumes nothing.
use Prim.Native.Nat.{ℕ}
use mathlib.Core.Bool.{true}
use mathlib.Core.List.{List}
use Rattle.token.specs.Answer.{lit_at}
use Rattle.lines.specs.Reading.{got, ◌▸◌}
use Rattle.lines.specs.Lines.{space_at, newline_at, latch_at}
use Rattle.lines.specs.Sections.{count_at}
use Rattle.lines.proofs.NeverShort.{Never, never_got, never_then, never_row, never_token, never_byte, never_latch, never_count}
use Rattle.ascii_lines.specs.Lines.{defined_at, input_at, inputs_at, stated_latch, stated_at, latches_at, gate_with, input_pair_at, gate_at, gates_at}

module _ (s : List ℕ) (most : ℕ) where
  never_defined : (at : ℕ) → Never (defined_at s most at)
  unfolding defined_at
  never_defined at = never_token at (lit_at s at most true)

  never_input : (at : ℕ) → Never (input_at s most at)
  unfolding input_at
  never_input at =
      never_then (defined_at s most at) (λ v at₁. newline_at s at₁ ▸ λ _ at₂. got v at₂) (never_defined at)
      (λ v at₁ _. never_then (newline_at s at₁) (λ _ at₂. got v at₂) (never_byte s 10 at₁) (λ _ at₂ _. never_got v at₂))

  never_stated : (at : ℕ) → Never (stated_at s most at)
  unfolding stated_at
  never_stated at =
      never_then (defined_at s most at)
      (λ state at₁. space_at s at₁ ▸ λ _ at₂. latch_at s most state at₂ ▸ λ l at₃. got (stated_latch state l.next l.reset) at₃) (never_defined at)
      (λ state at₁ _. never_then (space_at s at₁) (λ _ at₂. latch_at s most state at₂ ▸ λ l at₃. got (stated_latch state l.next l.reset) at₃)
      (never_byte s 32 at₁)
      (λ _ at₂ _. never_then (latch_at s most state at₂) (λ l at₃. got (stated_latch state l.next l.reset) at₃) (never_latch s most state at₂)
      (λ l at₃ _. never_got (stated_latch state l.next l.reset) at₃)))

  never_pair : (output at : ℕ) → Never (input_pair_at s most output at)
  unfolding input_pair_at
  never_pair output at =
      never_then (count_at s most at) (λ first at₁. count_at s most at₁ ▸ λ second at₂. newline_at s at₂ ▸ λ _ at₃. got (gate_with output first second) at₃)
      (never_count s most at)
      (λ first at₁ _. never_then (count_at s most at₁) (λ second at₂. newline_at s at₂ ▸ λ _ at₃. got (gate_with output first second) at₃)
      (never_count s most at₁)
      (λ second at₂ _. never_then (newline_at s at₂) (λ _ at₃. got (gate_with output first second) at₃) (never_byte s 10 at₂)
      (λ _ at₃ _. never_got (gate_with output first second) at₃)))

  never_gate : (at : ℕ) → Never (gate_at s most at)
  unfolding gate_at
  never_gate at =
      never_then (defined_at s most at) (λ output at₁. input_pair_at s most output at₁) (never_defined at) (λ output at₁ _. never_pair output at₁)

pub never_inputs : (s : List ℕ) (most n at : ℕ) → Never (inputs_at s most n at)
unfolding inputs_at
never_inputs s most n at = never_row (λ k. input_at s most) (λ k. never_input s most) 0 n at

pub never_latches : (s : List ℕ) (most n at : ℕ) → Never (latches_at s most n at)
unfolding latches_at
never_latches s most n at = never_row (λ k. stated_at s most) (λ k. never_stated s most) 0 n at

pub never_gates : (s : List ℕ) (most m at : ℕ) → Never (gates_at s most m at)
unfolding gates_at
never_gates s most m at = never_row (λ k. gate_at s most) (λ k. never_gate s most) 0 m at
