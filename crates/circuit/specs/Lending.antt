-- How examples are written down: small circuits with lent lists that are one cell longer than they need be and hold 77 in every cell, and the outcomes
-- expected, in which that one cell still holds it. Assumes nothing.
use Rattle.std.specs.Prelude.{ℕ, ◌+◌, ◌*◌, ◌-◌, ◌/◌, Bool, true, false, List, [], ◌∷◌, ◌++◌, length, replicate, Ok, Err}
use Rattle.lit.specs.Code.{variable}
use Rattle.circuit.specs.declared.Refusal.{Refusal}
use Rattle.circuit.specs.Outcome.{Lent, Outcome, lent_of, outcome_of}

-- the flags trim, hash and fold
pub record Flags : Type 0 where
  pub trim : Bool
  pub hash : Bool
  pub fold : Bool

-- the flags that examples use
abbrev pub plain : Flags
plain = record { trim = false; hash = false; fold = false }

abbrev pub trimming : Flags
trimming = record { trim = true; hash = false; fold = false }

abbrev pub hashing : Flags
hashing = record { trim = false; hash = true; fold = false }

abbrev pub folding : Flags
folding = record { trim = false; hash = false; fold = true }

abbrev pub trim_folding : Flags
trim_folding = record { trim = true; hash = false; fold = true }

-- what a lent cell holds before; and a list of n cells and one more
abbrev pub untouched_cell : ℕ
untouched_cell = 77

abbrev pub cells : ℕ → List ℕ
cells n = replicate (n + 1) untouched_cell

-- what a list holds afterwards whose first words were written
abbrev pub wrote : List ℕ → List ℕ
wrote ws = ws ++ (untouched_cell ∷ [])

-- flags, V, inputs, latch states, next states, resets, gates (flat), root counts, roots
abbrev pub lend_with : Flags → ℕ → List ℕ → List ℕ → List ℕ → List ℕ → List ℕ → List ℕ → List ℕ → Lent
lend_with f top inputs states nexts resets gates counts roots =
    lent_of (record { top = variable top; counts = counts; trim = f.trim; hash = f.hash; fold = f.fold }) inputs states nexts resets gates roots
    (cells (top + 1)) (cells (length states)) (cells (length states)) (cells (length roots)) (cells (2 * (length gates / 3)))
    (cells (3 * top + 3 + 3 * (length gates / 3)))

-- the same with every reset 0
abbrev pub lend : Flags → ℕ → List ℕ → List ℕ → List ℕ → List ℕ → List ℕ → List ℕ → Lent
lend f top inputs states nexts gates counts roots = lend_with f top inputs states nexts (replicate (length states) 0) gates counts roots

-- the same without latches, all roots outputs
abbrev pub circuit : Flags → ℕ → List ℕ → List ℕ → List ℕ → Lent
circuit f top inputs gates roots = lend f top inputs [] [] gates (length roots ∷ 0 ∷ 0 ∷ 0 ∷ 0 ∷ []) roots

-- success with a number of gates made and a new largest variable: map, next images, reset images, gates out (as far as written), root images
abbrev pub succeeds_with : Lent → ℕ → ℕ → List ℕ → List ℕ → List ℕ → List ℕ → List ℕ → Outcome
succeeds_with l made top map nexts resets gates roots =
    outcome_of (Ok (record { made = made; top = variable top })) (wrote map) (wrote nexts) (wrote resets) (wrote roots) (wrote gates)
    (wrote (replicate (length l.scratch - 1) 0))

-- the same with every reset image 0
abbrev pub succeeds : Lent → ℕ → ℕ → List ℕ → List ℕ → List ℕ → List ℕ → Outcome
succeeds l made top map nexts gates roots = succeeds_with l made top map nexts (replicate (length nexts) 0) gates roots

-- a refusal of 5 to 8
abbrev pub clears : Lent → Refusal → Outcome
clears l why =
    outcome_of (Err why) (wrote (replicate (length l.map - 1) 4294967295)) (wrote (replicate (length l.next_images - 1) 0))
    (wrote (replicate (length l.reset_images - 1) 0)) (wrote (replicate (length l.root_images - 1) 0)) (wrote (replicate (length l.gates_out - 1) 0)) (wrote (replicate (length l.scratch - 1) 0))

-- a refusal of 1 to 4 or 22
abbrev pub leaves : Lent → Refusal → Outcome
leaves l why = outcome_of (Err why) l.map l.next_images l.reset_images l.root_images l.gates_out l.scratch

-- an example: what is lent comes to this
pub record Example : Type 0 where
  pub lent : Lent
  pub expected : Outcome

-- an example that succeeds, one whose resets are told too, one refused by 5 to 8, one refused by 1 to 4 or 22
abbrev pub success : Lent → ℕ → ℕ → List ℕ → List ℕ → List ℕ → List ℕ → Example
success l made top map nexts gates roots = record { lent = l; expected = succeeds l made top map nexts gates roots }

abbrev pub success_with : Lent → ℕ → ℕ → List ℕ → List ℕ → List ℕ → List ℕ → List ℕ → Example
success_with l made top map nexts resets gates roots = record { lent = l; expected = succeeds_with l made top map nexts resets gates roots }

abbrev pub refusal : Lent → Refusal → Example
refusal l why = record { lent = l; expected = clears l why }

abbrev pub early_refusal : Lent → Refusal → Example
early_refusal l why = record { lent = l; expected = leaves l why }
