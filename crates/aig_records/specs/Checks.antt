-- Checks 1 to 4 and 22 where the gates are records: those on lengths are the crate `checks`'. Assumes nothing.
use Rattle.std.specs.Prelude.{ℕ, ◌+◌, ◌*◌, Bool, List, ltb, length, Option, Some, None, Err}
use Rattle.std.specs.Option.{option_or}
use Rattle.lit.specs.declared.Lit.{Lit}
use Rattle.lit.specs.declared.Var.{Var}
use Rattle.circuit.specs.declared.CircuitRecord.{CircuitRecord}
use Rattle.circuit.specs.declared.Refusal.{Refusal}
use Rattle.circuit.specs.declared.Refusal.TheVariants.{Short, Over, Reset}
use Rattle.circuit.specs.Circuit.{latch_codes, first_over, first_stray}
use Rattle.checks.specs.Checks.{Check, passed, found, fail_if, and_then, sizing}
use Rattle.checks.specs.declared.Lengths.{Lengths}
use Rattle.aig_records.specs.declared.GateRecord.{GateRecord}
use Rattle.aig_records.specs.Records.{flat_of}

-- the first literal over 2V + 1: of codes, and of records
abbrev pub first_in : ℕ → List ℕ → Option Lit
first_in top cs = found (first_over (2 * top + 1) cs)

abbrev pub over_in : Var → List GateRecord → Option Lit
over_in top gs = first_in top.0 (flat_of gs)

-- of inputs, of records, of latches, of roots
abbrev pub over_all : Var → List ℕ → List GateRecord → List ℕ → List ℕ → List ℕ → List ℕ → Option Lit
over_all top inputs gates states nexts resets roots =
    option_or (first_in top.0 inputs) (option_or (over_in top gates) (option_or (first_in top.0 (latch_codes states nexts resets)) (first_in top.0 roots)))

-- a first offender is refused; else what comes after
abbrev pub fail_at : (Lit → Refusal) → Option Lit → Check → Check
fail_at why (Some l) after = Err (why l)
fail_at why None after = after

-- after checks 1 to 3 on lengths: the list for the records' codes is too short, which is 3 too; then check 4; then check 22
abbrev pub verdict : Check → Bool → Option Lit → Option Lit → Check
verdict sizes short first stray = and_then sizes (fail_if short Short (fail_at Over first (fail_at Reset stray passed)))

-- all of it, for lists of these lengths and so much room for the records' codes
unfoldable pub checked_of : CircuitRecord → Lengths → ℕ → List ℕ → List ℕ → List ℕ → List ℕ → List GateRecord → List ℕ → Check
checked_of circuit n room inputs states nexts resets gates roots =
    verdict (sizing circuit n) (ltb room (3 * length gates)) (over_all circuit.top inputs gates states nexts resets roots)
    (found (first_stray states resets))
