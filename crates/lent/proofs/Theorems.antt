-- Any two outcomes that a contract of this crate allows for the same arguments are equal: the answer, and each lent word. Assumes nothing.
use mathlib.Core.Path.{refl, sym, ◌∙◌}
use Rattle.promise.specs.Determined.{Determines, DeterminesCells}
use Rattle.lent.proofs.words.wide.Kinds as wide-kinds
use Rattle.lent.proofs.words.wide.Reads as wide-contract
use Rattle.lent.proofs.words.counted.Kinds as counted-kinds
use Rattle.lent.proofs.words.counted.Reads as counted-contract
use Rattle.lent.proofs.words.place_of.Kinds as place-kinds
use Rattle.lent.proofs.words.place_of.Reads as place-contract
use Rattle.lent.proofs.words.is_reset.Kinds as reset-kinds
use Rattle.lent.proofs.words.is_reset.Reads as reset-contract
use Rattle.lent.proofs.words.store.Kinds as store-kinds
use Rattle.lent.proofs.words.store.Reads as store-contract
use Rattle.lent.proofs.words.fill_front.Kinds as fill-front-kinds
use Rattle.lent.proofs.words.fill_front.Reads as fill-front-contract
use Rattle.lent.proofs.words.fill.Kinds as fill-kinds
use Rattle.lent.proofs.words.fill.Reads as fill-contract
use Rattle.lent.proofs.map.image.Kinds as image-kinds
use Rattle.lent.proofs.map.image.Reads as image-contract
use Rattle.lent.proofs.map.insert.Kinds as insert-kinds
use Rattle.lent.proofs.map.insert.Reads as insert-contract
use Rattle.lent.proofs.map.code_of.Kinds as code-kinds
use Rattle.lent.proofs.map.code_of.Reads as code-contract

pub one_wide : Determines 0 wide-kinds.ps wide-kinds.r wide-contract.Learnt
one_wide κs a x y e f p q = p ∙ sym q

pub one_counted : Determines 0 counted-kinds.ps counted-kinds.r counted-contract.Learnt
one_counted κs a x y e f p q = p.same ∙ sym q.same

pub one_place_of : Determines 0 place-kinds.ps place-kinds.r place-contract.Learnt
one_place_of κs a x y e f p q = p ∙ sym q

pub one_is_reset : Determines 0 reset-kinds.ps reset-kinds.r reset-contract.Learnt
one_is_reset κs a x y e f p q = p ∙ sym q

pub one_store : DeterminesCells 1 store-kinds.ps store-kinds.r store-contract.Learnt (λ κs e. e.0.now)
one_store κs a x y e f p q = (refl, p ∙ sym q)

pub one_fill_front : DeterminesCells 1 fill-front-kinds.ps fill-front-kinds.r fill-front-contract.Learnt (λ κs e. e.0.now)
one_fill_front κs a x y e f p q = (refl, p ∙ sym q)

pub one_fill : DeterminesCells 1 fill-kinds.ps fill-kinds.r fill-contract.Learnt (λ κs e. e.0.now)
one_fill κs a x y e f p q = (refl, p ∙ sym q)

pub one_image : Determines 1 image-kinds.ps image-kinds.r image-contract.Learnt
one_image κs a x y e f p q = p ∙ sym q

pub one_insert : DeterminesCells 1 insert-kinds.ps insert-kinds.r insert-contract.Learnt (λ κs e. e.0.now)
one_insert κs a x y e f p q = (refl, p ∙ sym q)

pub one_code_of : Determines 0 code-kinds.ps code-kinds.r code-contract.Learnt
one_code_of κs a x y e f p q = p ∙ sym q
