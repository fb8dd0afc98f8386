-- Literal codes, after the AIGER format paper: the variable of index v has the literal 2v and the negated literal 2v + 1; the codes 0 and
-- 1 are constant false and true. Assumes nothing.
use Rattle.std.specs.Prelude.{ℕ, ◌+◌, ◌*◌, ◌/◌, ◌%◌, ◌^◌, Bool, cond, eqb, ltb, Option, Some, None}
use Rattle.lit.specs.declared.Var.{Var}
use Rattle.lit.specs.declared.Lit.{Lit}

-- the index of the variable that a code names
abbrev pub var : ℕ → ℕ
var c = c / 2

-- a code names its variable negated
unfoldable pub is_odd : ℕ → Bool
is_odd c = eqb (c % 2) 1

-- the code t, with its low bit flipped if the code c is odd
unfoldable pub flipped : ℕ → ℕ → ℕ
flipped t c = t / 2 * 2 + (t + c) % 2

-- the same of the two types

abbrev pub variable : ℕ → Var
variable i = record { 0 = i }

abbrev pub literal : ℕ → Lit
literal c = record { 0 = c }

-- a literal's variable, by halving
abbrev pub halved : Lit → Var
halved l = variable (var l.0)

-- a variable's literal that is not negated, by doubling, if its code fits the 32 bits of a code
unfoldable pub doubled : Var → Option Lit
doubled v = cond (ltb (2 * v.0) (2 ^ 32)) (Some (literal (2 * v.0))) None

-- the literal t, negated if the literal c is a negated one
abbrev pub flipped_by : Lit → Lit → Lit
flipped_by t c = literal (flipped t.0 c.0)
