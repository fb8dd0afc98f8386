-- What resets change of renumbering, and what they do not. Assumes nothing.
use Rattle.std.specs.Prelude.{ℕ, ◌+◌, ◌*◌, ◌≡◌, List, [], ◌∷◌, ◌++◌}
use Rattle.circuit.specs.declared.Refusal.TheVariants.{Over}
use Rattle.circuit.specs.Walk.{Out}
use Rattle.circuit.specs.Circuit.{Circuit, gate_codes, first_over, or_refuse, numbered}
use Rattle.circuit.specs.Outcome.{Lent, Outcome, lent_of}

-- two lists side by side, as long as both last
abbrev pub side_by_side : List ℕ → List ℕ → List ℕ
side_by_side [] ys = []
side_by_side (x ∷ xs) [] = []
side_by_side (x ∷ xs) (y ∷ ys) = x ∷ y ∷ side_by_side xs ys

-- check 4 as it was before latches had resets: it went through a latch's state and its next literal
unfoldable pub codes_before : Circuit → List ℕ
codes_before C = C.inputs ++ (gate_codes C.gates ++ (side_by_side C.states C.nexts ++ C.roots))

-- renumbering as it was: that check, and then what sees no reset
unfoldable pub renumber_before : Circuit → Out
renumber_before C = or_refuse (first_over (2 * C.top + 1) (codes_before C)) Over (numbered C)

-- the same lent with other resets
abbrev pub with_resets : Lent → List ℕ → Lent
with_resets l resets =
    lent_of l.circuit l.inputs l.states l.nexts resets l.gates l.roots l.map l.next_images l.reset_images l.root_images
    l.gates_out l.scratch

-- two outcomes are the same but for the reset images
pub record SameButResets (o o' : Outcome) : Type 0 where
  pub answer : o.answer ≡ o'.answer
  pub map : o.map ≡ o'.map
  pub next_images : o.next_images ≡ o'.next_images
  pub root_images : o.root_images ≡ o'.root_images
  pub gates_out : o.gates_out ≡ o'.gates_out
  pub scratch : o.scratch ≡ o'.scratch
