-- Document 01's number and literal for each reason of refusal. Assumes nothing.
use Rattle.std.specs.Prelude.{ℕ}
use Rattle.lit.specs.Code.{literal}
use Rattle.lit.specs.declared.Lit.{Lit}
use Rattle.circuit.specs.declared.Refusal.{Refusal}
use Rattle.circuit.specs.declared.Refusal.TheVariants.{TooBig, Misshapen, Short, Over, Reset, Again, StateAgain, Undefined, Cycle}

-- the number of a refusal; 9 is withdrawn, and its number is not used again
abbrev pub refusal_number : Refusal → ℕ
refusal_number TooBig = 1
refusal_number Misshapen = 2
refusal_number Short = 3
refusal_number (Over l) = 4
refusal_number (Reset l) = 22
refusal_number (Again l) = 5
refusal_number (StateAgain l) = 6
refusal_number (Undefined l) = 7
refusal_number (Cycle l) = 8

-- the literal at fault; 0 where there is none
abbrev pub refusal_literal : Refusal → Lit
refusal_literal TooBig = literal 0
refusal_literal Misshapen = literal 0
refusal_literal Short = literal 0
refusal_literal (Over l) = l
refusal_literal (Reset l) = l
refusal_literal (Again l) = l
refusal_literal (StateAgain l) = l
refusal_literal (Undefined l) = l
refusal_literal (Cycle l) = l
