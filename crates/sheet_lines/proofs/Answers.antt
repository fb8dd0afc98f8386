-- The text of an answer, with its numbers as the code has them. Assumes nothing.
use Prim.Native.Nat.{ℕ, ◌+◌, ◌*◌}
use mathlib.Core.Path.{◌≡◌}
use mathlib.Core.List.{List}
use Rattle.circuit.specs.declared.Refusal.{Refusal}
use Rattle.circuit.specs.Refusals.{refusal_number, refusal_literal}
use Rattle.circuit.specs.Walk.{first_code}
use Rattle.circuit.specs.Ordered.{gates_from}
use Rattle.circuit.specs.Outcome.{pairs_of}
use Rattle.sheet_lines.specs.Lines.{refused_line, ordered_line, gate_line, each}
use Rattle.sheet_lines.specs.Text.{refused_text}

pub refused_same : (why : Refusal) (n k : ℕ) → n ≡ refusal_number why → k ≡ (refusal_literal why).0 → refused_line n k ≡ refused_text why
unfolding refused_text
refused_same why n k p q = rw (p, q)

-- the first line and the gates' lines, with the numbers as the code has them
pub ordered_line_same : (a b l c : ℕ) {a' b' c' : ℕ} → a ≡ a' → b ≡ b' → c ≡ c' → ordered_line a b l c ≡ ordered_line a' b' l c'
ordered_line_same a b l c p q r = rw (p, q, r)

pub gate_lines_same : (ws : List ℕ) (w l : ℕ) {i : ℕ} → w ≡ i
    → each gate_line (gates_from (2 * (w + l + 1)) (pairs_of ws)) ≡ each gate_line (gates_from (first_code (i + l)) (pairs_of ws))
unfolding first_code
gate_lines_same ws w l p = rw p
