-- Any two answers that a contract of this crate allows for the same arguments are equal. Assumes nothing.
use mathlib.Core.Path.{sym, ◌∙◌}
use Rattle.promise.specs.Determined.{Determines}
use Rattle.fold.proofs.Pair.of.Kinds as of-kinds
use Rattle.fold.proofs.Pair.of.Reads as of-contract
use Rattle.fold.proofs.Pair.folded_if.Kinds as folded-if-kinds
use Rattle.fold.proofs.Pair.folded_if.Reads as folded-if-contract

pub one_of : Determines 0 of-kinds.ps of-kinds.r of-contract.Learnt
one_of κs a x y e f p q = p ∙ sym q

pub one_folded_if : Determines 0 folded-if-kinds.ps folded-if-kinds.r folded-if-contract.Learnt
one_folded_if κs a x y e f p q = p ∙ sym q
