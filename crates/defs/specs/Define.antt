-- Filling the table of definitions: checks 5 and 6 as the code makes them, on words. Assumes nothing.
use Rattle.std.specs.Prelude.{ℕ, ◌+◌, ◌%◌, ◌^◌, cond, List, [], ◌∷◌, eqb, get_or, set, Option, Some, None, Err}
use Rattle.lit.specs.Code.{var, literal}
use Rattle.lit.specs.declared.Lit.{Lit}
use Rattle.circuit.specs.declared.Refusal.{Refusal}
use Rattle.circuit.specs.declared.Refusal.TheVariants.{Again, StateAgain}
use Rattle.circuit.specs.Graph.{Gate}
use Rattle.checks.specs.Checks.{Check, passed}

-- a table, and the first literal whose variable was defined already
pub record Defined : Type 0 where
  pub words : List ℕ
  pub again : Option Lit

abbrev pub tabled : List ℕ → Option Lit → Defined
tabled t again = record { words = t; again = again }

-- a literal's variable gets its mark, if it has none; past the table there is nothing to mark
unfoldable pub define_at : List ℕ → ℕ → ℕ → Defined
define_at t d mark = cond (eqb (get_or t (var d) 0) 0) (tabled (set t (var d) mark) None) (tabled t (Some (literal d)))

abbrev pub onward : Option Lit → Defined → Defined → Defined
onward None stays next = next
onward (Some l) stays next = stays

abbrev pub and_then : Defined → (List ℕ → Defined) → Defined
and_then d next = onward d.again d (next d.words)

-- inputs, or latch states
unfoldable pub define_sources : List ℕ → List ℕ → Defined
define_sources t [] = tabled t None
define_sources t (d ∷ ds) = and_then (define_at t d 1) (λ w. define_sources w ds)

-- the mark of gate k. The remainder is there so that every number has a mark: where check 1 has passed it changes nothing
unfoldable pub mark_of : ℕ → ℕ
mark_of k = (k + 2) % 2 ^ 32

-- no gate
abbrev pub no_gate : Gate
no_gate = record { output = 0; first = 0; second = 0 }

-- gates from number k on
unfoldable pub define_gates : List ℕ → List Gate → ℕ → Defined
define_gates t [] k = tabled t None
define_gates t (g ∷ gs) k = and_then (define_at t g.output (mark_of k)) (λ w. define_gates w gs (k + 1))

-- a table, and what the checks say of it
pub record Judged : Type 0 where
  pub words : List ℕ
  pub said : Check

abbrev pub judged : List ℕ → Check → Judged
judged t said = record { words = t; said = said }

abbrev pub judge_again : (Lit → Refusal) → List ℕ → Option Lit → Judged → Judged
judge_again why t None next = next
judge_again why t (Some l) next = judged t (Err (why l))

abbrev pub judge : (Lit → Refusal) → Defined → (List ℕ → Judged) → Judged
judge why d next = judge_again why d.words d.again (next d.words)

-- the constant, inputs and gate outputs (check 5), latch states (check 6)
unfoldable pub define_all : List ℕ → List ℕ → List ℕ → List Gate → Judged
define_all t inputs states gs =
    judge Again (define_sources (set t 0 1) inputs)
    (λ t₁. judge Again (define_gates t₁ gs 0) (λ t₂. judge StateAgain (define_sources t₂ states) (λ t₃. judged t₃ passed)))
