-- Any two outcomes that the contract of this crate's function allows for the same arguments are equal: the answer, and each lent word. Assumes nothing.
use Prim.Native.Nat.{ℕ}
use mathlib.Core.Path.{sym, ◌∙◌, ap}
use mathlib.Core.List.{List}
use Rattle.promise.specs.Determined.{DeterminesCells}
use Rattle.beginning.specs.Beginning.{Ready}
use Rattle.beginning.proofs.prepare.Kinds as prepare-kinds
use Rattle.beginning.proofs.prepare.Reads as prepare-contract

pub one_prepare :
    DeterminesCells 5 prepare-kinds.ps prepare-kinds.r prepare-contract.Learnt {A = List ℕ × List ℕ × List ℕ}
    (λ κs e. (e.1.1.0.now, e.1.1.1.0.now, e.1.1.1.1.0.now))
one_prepare κs a x y e f p q = (ap (λ (o : Ready). o.said) (p ∙ sym q), ap (λ (o : Ready). (o.map, o.out, o.scratch)) (p ∙ sym q))
