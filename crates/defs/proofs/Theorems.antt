-- Any two outcomes that the contract of this crate's public function allows for the same arguments are equal: the answer, and each word of the table.
-- Assumes nothing.
use mathlib.Core.Path.{sym, ap, ◌∙◌}
use Rattle.promise.specs.Determined.{DeterminesCells}
use Rattle.defs.specs.Define.{Judged}
use Rattle.defs.proofs.define_all.Kinds as all_kinds
use Rattle.defs.proofs.define_all.Reads as all-contract

pub one_define_all : DeterminesCells 3 all_kinds.ps all_kinds.r all-contract.Learnt (λ κs e. e.0.now)
one_define_all κs a x y e f p q = (ap (λ (j : Judged). j.said) (p ∙ sym q), ap (λ (j : Judged). j.words) (p ∙ sym q))
