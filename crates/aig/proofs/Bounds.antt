-- Check 4, list by list: where no code is over 2V + 1, none of any list is. Assumes nothing.
use Prim.Native.Nat.{ℕ, ◌+◌, ◌*◌, ◌≤◌}
use mathlib.Core.Path.{◌≡◌, subst⁻¹}
use mathlib.Core.Logic.{inl, inr}
use mathlib.Core.List.{List, [], ◌∷◌, ◌++◌, map}
use native.Mathlib.Omega.{arith}
use lib.ListN.{length}
use Rattle.circuit.specs.Graph.{In, Gate}
use Rattle.circuit.specs.Circuit.{Circuit, gate_outputs, gate_codes, latch_codes, codes}
use Rattle.circuit.specs.Outcome.{Lent, circuit_of}
use Rattle.circuit.specs.Claims.{Agrees}
use Rattle.circuit.specs.Tested.{InBounds}
use Rattle.circuit.proofs.Lists.{In-left, In-right}
use Rattle.checks.proofs.Offenders.{flat_codes}

in_outputs : (c : ℕ) (gs : List Gate) → In c (map (λ g. g.output) gs) → In c (gate_codes gs)
in_outputs c [] h = absurd h
in_outputs c (g ∷ gs) (inl e) = inl e
in_outputs c (g ∷ gs) (inr h) = inr (inr (inr (in_outputs c gs h)))

in_states : (c : ℕ) (ss ns rs : List ℕ) → length ss ≡ length ns → length ss ≡ length rs → In c ss → In c (latch_codes ss ns rs)
in_states c [] ns rs e f h = absurd h
in_states c (s ∷ ss) [] rs e f h = absurd (omega arith)
in_states c (s ∷ ss) (n ∷ ns) [] e f h = absurd (omega arith)
in_states c (s ∷ ss) (n ∷ ns) (r ∷ rs) e f (inl k) = inl k
in_states c (s ∷ ss) (n ∷ ns) (r ∷ rs) e f (inr k) = inr (inr (inr (in_states c ss ns rs (omega arith) (omega arith) k)))

in_nexts : (c : ℕ) (ss ns rs : List ℕ) → length ss ≡ length ns → length ss ≡ length rs → In c ns → In c (latch_codes ss ns rs)
in_nexts c ss [] rs e f h = absurd h
in_nexts c [] (n ∷ ns) rs e f h = absurd (omega arith)
in_nexts c (s ∷ ss) (n ∷ ns) [] e f h = absurd (omega arith)
in_nexts c (s ∷ ss) (n ∷ ns) (r ∷ rs) e f (inl k) = inr (inl k)
in_nexts c (s ∷ ss) (n ∷ ns) (r ∷ rs) e f (inr k) = inr (inr (inr (in_nexts c ss ns rs (omega arith) (omega arith) k)))

module _ {l : Lent} (b : InBounds (circuit_of l)) (a : Agrees l) (c : ℕ) where
  abbrev C : Circuit
  C = circuit_of l

  low : In c (l.inputs ++ (gate_codes C.gates ++ (latch_codes l.states l.nexts l.resets ++ l.roots))) → c ≤ 2 * C.top + 1
  unfolding codes
  low h = b c h

  latch_low : In c (latch_codes l.states l.nexts l.resets) → c ≤ 2 * C.top + 1
  latch_low h = low (In-right c l.inputs _ (In-right c (gate_codes C.gates) _ (In-left c (latch_codes l.states l.nexts l.resets) _ h)))

  gate_low : In c (gate_codes C.gates) → c ≤ 2 * C.top + 1
  gate_low h = low (In-right c l.inputs _ (In-left c (gate_codes C.gates) _ h))

  pub input_low : In c l.inputs → c ≤ 2 * C.top + 1
  input_low h = low (In-left c l.inputs _ h)

  pub word_low : In c l.gates → c ≤ 2 * C.top + 1
  word_low h = gate_low (subst⁻¹ (In c) (flat_codes l.gates a.words) h)

  pub output_low : In c (gate_outputs C) → c ≤ 2 * C.top + 1
  output_low h = gate_low (in_outputs c C.gates h)

  pub state_low : In c l.states → c ≤ 2 * C.top + 1
  state_low h = latch_low (in_states c l.states l.nexts l.resets a.latches a.resets h)

  pub next_low : In c l.nexts → c ≤ 2 * C.top + 1
  next_low h = latch_low (in_nexts c l.states l.nexts l.resets a.latches a.resets h)

  pub root_low : In c l.roots → c ≤ 2 * C.top + 1
  root_low h = low (In-right c l.inputs _ (In-right c (gate_codes C.gates) _ (In-right c (latch_codes l.states l.nexts l.resets) _ h)))
