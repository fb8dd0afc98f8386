-- The lines of the text form said forwards: which bytes spell a thing. Assumes nothing.
use Rattle.std.specs.Prelude.{ℕ, ◌%◌, ◌≤◌, ◌≡◌, List, length}
use Rattle.circuit.specs.Graph.{Gate}
use Rattle.lines.specs.Spelling.{Both, Nothing, Row, Byte, Decimal, Latch, Count}
use Rattle.ascii_lines.specs.Lines.{Stated, stated_latch, gate_with}

-- a literal that a line defines: even, at least 2 and up to the limit, spelled by its digits
abbrev pub Defines : ℕ → ℕ → List ℕ → Type 0
Defines most v w = (1 ≤ v) × (v % 2 ≡ 0) × Decimal most v w

-- an input's line: the literal and a newline
abbrev pub Input : ℕ → ℕ → List ℕ → Type 0
Input most = Both (Defines most) (λ v. Both (Byte 10) (λ _. Nothing v))

abbrev pub Inputs : ℕ → ℕ → List ℕ → List ℕ → Type 0
Inputs most n vs w = (length vs ≡ n) × Row (λ k. Input most) 0 vs w

-- a latch's line: its state, a space, and the rest as in the binary form, where the state is the latch's literal
abbrev pub StatedLine : ℕ → Stated → List ℕ → Type 0
StatedLine most =
    Both (Defines most) (λ state. Both (Byte 32) (λ _. Both (Latch most state) (λ l. Nothing (stated_latch state l.next l.reset))))

abbrev pub StatedLines : ℕ → ℕ → List Stated → List ℕ → Type 0
StatedLines most n ls w = (length ls ≡ n) × Row (λ k. StatedLine most) 0 ls w

-- a gate's line: its output, its two inputs with a space before each, and a newline
abbrev pub GateLine : ℕ → Gate → List ℕ → Type 0
GateLine most =
    Both (Defines most) (λ output. Both (Count most) (λ first. Both (Count most) (λ second. Both (Byte 10) (λ _. Nothing (gate_with output first second)))))

abbrev pub GateLines : ℕ → ℕ → List Gate → List ℕ → Type 0
GateLines most m gs w = (length gs ≡ m) × Row (λ k. GateLine most) 0 gs w
