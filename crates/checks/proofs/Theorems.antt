-- The contracts of this crate allow one answer each. Assumes nothing.
use mathlib.Core.Path.{sym, ◌∙◌}
use Rattle.promise.specs.Determined.{Determines}
use Rattle.checks.proofs.sum.Kinds as sum-kinds
use Rattle.checks.proofs.sum.Reads as sum-contract
use Rattle.checks.proofs.over_in.Kinds as over-in-kinds
use Rattle.checks.proofs.over_in.Reads as over-in-contract
use Rattle.checks.proofs.over_in_latches.Kinds as over-in-latches-kinds
use Rattle.checks.proofs.over_in_latches.Reads as over-in-latches-contract
use Rattle.checks.proofs.first_stray.Kinds as first-stray-kinds
use Rattle.checks.proofs.first_stray.Reads as first-stray-contract
use Rattle.checks.proofs.sized.Kinds as sized-kinds
use Rattle.checks.proofs.sized.Reads as sized-contract
use Rattle.checks.proofs.checked.Kinds as checked-kinds
use Rattle.checks.proofs.checked.Reads as checked-contract

pub one_sum : Determines 0 sum-kinds.ps sum-kinds.r sum-contract.Learnt
one_sum κs a x y e f p q = p ∙ sym q

pub one_over_in : Determines 1 over-in-kinds.ps over-in-kinds.r over-in-contract.Learnt
one_over_in κs a x y e f p q = p ∙ sym q

pub one_over_in_latches : Determines 3 over-in-latches-kinds.ps over-in-latches-kinds.r over-in-latches-contract.Learnt
one_over_in_latches κs a x y e f p q = p ∙ sym q

pub one_first_stray : Determines 2 first-stray-kinds.ps first-stray-kinds.r first-stray-contract.Learnt
one_first_stray κs a x y e f p q = p ∙ sym q

pub one_sized : Determines 0 sized-kinds.ps sized-kinds.r sized-contract.Learnt
one_sized κs a x y e f p q = p ∙ sym q

pub one_checked : Determines 8 checked-kinds.ps checked-kinds.r checked-contract.Learnt
one_checked κs a x y e f p q = p ∙ sym q
