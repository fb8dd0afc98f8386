-- Any two outcomes that a contract of this crate allows for the same arguments are equal, in each lent word. Assumes nothing.
use mathlib.Core.Path.{refl, sym, ◌∙◌}
use Rattle.promise.specs.Determined.{DeterminesCells}
use Rattle.images.proofs.begin.Kinds as begin-kinds
use Rattle.images.proofs.begin.Reads as begin-contract
use Rattle.images.proofs.images.Kinds as images-kinds
use Rattle.images.proofs.images.Reads as images-contract
use Rattle.images.proofs.carry.Kinds as carry-kinds
use Rattle.images.proofs.carry.Reads as carry-contract

pub one_begin : DeterminesCells 3 begin-kinds.ps begin-kinds.r begin-contract.Learnt (λ κs e. e.0.now)
one_begin κs a x y e f p q = (refl, p ∙ sym q)

pub one_images : DeterminesCells 3 images-kinds.ps images-kinds.r images-contract.Learnt (λ κs e. e.1.1.0.now)
one_images κs a x y e f p q = (refl, p ∙ sym q)

pub one_carry : DeterminesCells 2 carry-kinds.ps carry-kinds.r carry-contract.Learnt (λ κs e. e.1.1.0.now)
one_carry κs a x y e f p q = (refl, p ∙ sym q)
