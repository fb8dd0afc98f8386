-- What follows of the definitions of specs/Code.antt: each contract allows one answer, and halving undoes doubling. What a flip
-- keeps and changes stands in proofs/Flips.antt. Assumes nothing.
use Rattle.std.specs.Prelude.{Some, None}
use Prim.Native.Nat.{ℕ, ◌*◌, ◌^◌, ◌<◌, ◌≤◌}
use mathlib.Core.Path.{◌≡◌, sym, ◌∙◌, ap}
use mathlib.Core.Bool.{Bool, true, false, cond}
use native.Mathlib.Omega.{arith}
use lib.Dec.{ltb}
use borrow.Author.Tests.{lt-ltb, le-ltb}
use Rattle.lit.specs.Code.{variable, literal, halved, doubled}
use Rattle.lit.specs.declared.Var.{Var}
use Rattle.lit.specs.declared.Lit.{Lit}
use Rattle.promise.specs.Determined.{Determines}
use Rattle.lit.proofs.Var.from_index.Kinds as var-from-index-kinds
use Rattle.lit.proofs.Var.from_index.Reads as var-from-index-promise
use Rattle.lit.proofs.Var.index.Kinds as var-index-kinds
use Rattle.lit.proofs.Var.index.Reads as var-index-promise
use Rattle.lit.proofs.Var.lit.Kinds as var-lit-kinds
use Rattle.lit.proofs.Var.lit.Reads as var-lit-promise
use Rattle.lit.proofs.Lit.from_code.Kinds as lit-from-code-kinds
use Rattle.lit.proofs.Lit.from_code.Reads as lit-from-code-promise
use Rattle.lit.proofs.Lit.code.Kinds as lit-code-kinds
use Rattle.lit.proofs.Lit.code.Reads as lit-code-promise
use Rattle.lit.proofs.Lit.var.Kinds as lit-var-kinds
use Rattle.lit.proofs.Lit.var.Reads as lit-var-promise
use Rattle.lit.proofs.Lit.flipped.Kinds as lit-flipped-kinds
use Rattle.lit.proofs.Lit.flipped.Reads as lit-flipped-promise

-- Any two answers that a public function's contract allows for the same arguments are equal.

pub one_var_from_index : Determines 0 var-from-index-kinds.ps var-from-index-kinds.r var-from-index-promise.Learnt
one_var_from_index κs a x y e f p q = p ∙ sym q

pub one_var_index : Determines 0 var-index-kinds.ps var-index-kinds.r var-index-promise.Learnt
one_var_index κs a x y e f p q = p ∙ sym q

pub one_var_lit : Determines 0 var-lit-kinds.ps var-lit-kinds.r var-lit-promise.Learnt
one_var_lit κs a x y e f p q = p ∙ sym q

pub one_lit_from_code : Determines 0 lit-from-code-kinds.ps lit-from-code-kinds.r lit-from-code-promise.Learnt
one_lit_from_code κs a x y e f p q = p ∙ sym q

pub one_lit_code : Determines 0 lit-code-kinds.ps lit-code-kinds.r lit-code-promise.Learnt
one_lit_code κs a x y e f p q = p ∙ sym q

pub one_lit_var : Determines 0 lit-var-kinds.ps lit-var-kinds.r lit-var-promise.Learnt
one_lit_var κs a x y e f p q = p ∙ sym q

pub one_lit_flipped : Determines 0 lit-flipped-kinds.ps lit-flipped-kinds.r lit-flipped-promise.Learnt
one_lit_flipped κs a x y e f p q = p ∙ sym q

-- doubling answers a code exactly for the indexes below 2 ^ 31
pub doubled_code : (v : Var) → v.0 < 2 ^ 31 → doubled v ≡ Some (literal (2 * v.0))
unfolding doubled
doubled_code v h = rw (lt-ltb (2 * v.0) 4294967296 (omega arith))

pub doubled_big : (v : Var) → 2 ^ 31 ≤ v.0 → doubled v ≡ None
unfolding doubled
doubled_big v h = rw (le-ltb (2 * v.0) 4294967296 (omega arith))

-- halving undoes doubling
pub halved-doubled : (v : Var) (l : Lit) → doubled v ≡ Some l → halved l ≡ v
unfolding doubled
halved-doubled v l e = go (ltb (2 * v.0) 4294967296) e
  where
    go : (b : Bool) → cond b (Some (literal (2 * v.0))) None ≡ Some l → halved l ≡ v
    go true d = let k : literal (2 * v.0) ≡ l = cc in ap halved (sym k) ∙ ap variable (omega arith)
    go false d = let z : ◌≡◌ {A = ℕ} 0 1 = cc in absurd (omega arith)
