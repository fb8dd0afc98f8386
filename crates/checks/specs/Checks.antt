-- Checks that answer at the first that fails. Assumes nothing.
use Rattle.std.specs.Prelude.{ℕ, ◌+◌, ◌*◌, ◌/◌, ◌%◌, ◌≤◌, ◌≡◌, Bool, true, false, not, ◌||◌, List, eqb, ltb, length, Option, Some, None, Result, Ok, Err}
use Rattle.lit.specs.Code.{literal}
use Rattle.lit.specs.declared.Lit.{Lit}
use Rattle.circuit.specs.declared.Refusal.{Refusal}
use Rattle.circuit.specs.declared.Refusal.TheVariants.{TooBig, Misshapen, Short, Over, Reset}
use Rattle.circuit.specs.declared.CircuitRecord.{CircuitRecord}
use Rattle.circuit.specs.Circuit.{codes, first_over, first_stray}
use Rattle.circuit.specs.Outcome.{Lent, circuit_of, limit, total, too_big, misshapen, too_short}
use Rattle.checks.specs.declared.Lengths.{Lengths}

-- what checks say: that all passed, or why one failed
abbrev pub Check : Type 0
Check = Result (Unit {0}) Refusal

abbrev pub passed : Check
passed = Ok tt

-- a first offender, as the code answers it
abbrev pub found : Option ℕ → Option Lit
found None = None
found (Some c) = Some (literal c)

-- a check that does not hold fails; else what comes after
abbrev pub fail_if : Bool → Refusal → Check → Check
fail_if true why after = Err why
fail_if false why after = after

abbrev pub fail_at : Option ℕ → (Lit → Refusal) → Check → Check
fail_at (Some c) why after = Err (why (literal c))
fail_at None why after = after

-- checks that come after others
abbrev pub and_then : Check → Check → Check
and_then (Ok t) after = after
and_then (Err why) after = Err why

-- check 1 of lengths: V, I, L, G or R is over the limit
unfoldable pub over_limit : ℕ → Lengths → Bool
over_limit top n = ltb limit top || ltb limit n.inputs || ltb limit n.states || ltb limit n.gates || ltb limit n.roots

-- check 2 of lengths: the root counts or the latches do not agree, or words of gates are left over
unfoldable pub unequal : List ℕ → Lengths → Bool
unequal counts n =
    not (eqb (total counts) n.roots) || not (eqb n.states n.nexts) || not (eqb n.states n.resets) || not (eqb n.left_over 0)

-- check 3 of lengths: a lent list is too short
unfoldable pub lacks : ℕ → Lengths → Bool
lacks top n =
    ltb n.map (top + 1) || ltb n.next_images n.states || ltb n.reset_images n.states || ltb n.root_images n.roots
    || ltb n.gates_out (2 * n.gates) || ltb n.scratch (3 * top + 3 + 3 * n.gates)

-- where check 1 has passed, the words that check 3 asks for can be counted
pub record Small (top : ℕ) (n : Lengths) : Type 0 where
  pub variables : top ≤ limit
  pub few : n.gates ≤ limit

-- checks 1 to 3 in their order
unfoldable pub sizing : CircuitRecord → Lengths → Check
sizing circuit n =
    fail_if (over_limit circuit.top.0 n) TooBig (fail_if (unequal circuit.counts n) Misshapen (fail_if (lacks circuit.top.0 n) Short passed))

-- the lengths of what is lent, the gates flat
abbrev pub lengths_of : Lent → Lengths
lengths_of l =
    record {
      inputs = length l.inputs;
      states = length l.states;
      nexts = length l.nexts;
      resets = length l.resets;
      gates = length l.gates / 3;
      left_over = length l.gates % 3;
      roots = length l.roots;
      map = length l.map;
      next_images = length l.next_images;
      reset_images = length l.reset_images;
      root_images = length l.root_images;
      gates_out = length l.gates_out;
      scratch = length l.scratch;
    }

-- check 22: a reset that is not 0, 1 or its latch's own literal
abbrev pub straying : List ℕ → List ℕ → Check
straying states resets = fail_at (first_stray states resets) Reset passed

-- checks 1 to 4 in their order, and then 22
unfoldable pub passing : Lent → Check
passing l =
    fail_if (too_big (circuit_of l)) TooBig
    (fail_if (misshapen l) Misshapen
    (fail_if (too_short l (circuit_of l)) Short (fail_at (first_over (2 * (circuit_of l).top + 1) (codes (circuit_of l))) Over (straying l.states l.resets))))

-- what check 2 leaves
pub record Shaped (states nexts resets gates : List ℕ) : Type 0 where
  pub latches : length states ≡ length nexts
  pub starts : length states ≡ length resets
  pub whole : length gates % 3 ≡ 0
