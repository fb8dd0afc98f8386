-- Laws of the table of definitions in the code's own terms. Assumes nothing.
use Prim.Native.Nat.{ℕ, zero, suc, ◌+◌, ◌*◌, ◌/◌, ◌<◌, ◌≤◌}
use mathlib.Core.Path.{◌≡◌, refl}
use mathlib.Core.List.{List, [], ◌∷◌}
use native.Mathlib.Omega.{arith}
use lib.ListN.{length, get_or, drop}
use Rattle.circuit.specs.Outcome.{gates_of}
use Rattle.circuit.specs.Claims.{gate_at}
use Rattle.circuit.proofs.Words.{gates_length}
use Rattle.defs.specs.Define.{mark_of, no_gate}
use Rattle.lent.proofs.Rows.{drop_at_one, drop_at_end}

-- gates, of flat words
pub gates_at_lem : (ws : List ℕ) (k : ℕ) → k < length ws / 3 → get_or (gates_of ws) k no_gate ≡ gate_at ws k
gates_at_lem [] k h = absurd (omega arith)
gates_at_lem (o ∷ []) k h = absurd (omega arith)
gates_at_lem (o ∷ a ∷ []) k h = absurd (omega arith)
gates_at_lem (o ∷ a ∷ b ∷ ws) zero h = refl
gates_at_lem (o ∷ a ∷ b ∷ ws) (suc k) h =
    let e₀ : 3 * suc k ≡ suc (suc (suc (3 * k))) = omega arith in
    let e₁ : suc (suc (suc (3 * k))) + 1 ≡ suc (suc (suc (3 * k + 1))) = omega arith in
    let e₂ : suc (suc (suc (3 * k))) + 2 ≡ suc (suc (suc (3 * k + 2))) = omega arith in
    rw (e₀, e₁, e₂) (gates_at_lem ws k (omega arith))

-- a gate's mark, where a word holds it
pub mark-is : (k : ℕ) → k + 2 < 4294967296 → mark_of k ≡ k + 2
unfolding mark_of
mark-is k h = omega arith

-- the gates from number k on: gate k, and those after it
pub gates_drop : (ws : List ℕ) (k : ℕ) → k < length ws / 3 → drop k (gates_of ws) ≡ gate_at ws k ∷ drop (k + 1) (gates_of ws)
gates_drop ws k h = rw (drop_at_one (gates_of ws) k no_gate (omega (arith, gates_length ws)), gates_at_lem ws k h)

pub gates_past : (ws : List ℕ) (k : ℕ) → length ws / 3 ≤ k → drop k (gates_of ws) ≡ []
gates_past ws k h = drop_at_end (gates_of ws) k (omega (arith, gates_length ws))
