-- `pair` meets its contract: the second delta is read from the first input and at the place after the first delta, which stands within the
-- bytes, so that neither the place nor the count of bytes wraps. Assumes nothing.
use native.Mathlib.Omega.{arith}
use mathlib.Core.Path.{sym}
use Rattle.std.proofs.Common.{rules}
use Rattle.token.specs.Answer.{pair_at}
use Rattle.token.proofs.Deltas.{delta_used, delta_place}
use Rattle.token.proofs.pair.Goals as goal

pub returns-in_err-first : goal.returns-in_err-first
unfolding pair_at
returns-in_err-first c = search rules

pub overflow_add-at : goal.overflow_add-at
overflow_add-at c = let a = c.args in delta_place a.s.now a.at a.code _ _ (sym c.in_ok-first.ensures) (omega arith)

pub returns-in_err-second : goal.returns-in_err-second
unfolding pair_at
returns-in_err-second c = search rules

pub paired-requires : goal.paired-requires
paired-requires c =
    let a = c.args in (
      (delta_used a.s.now a.at a.code _ _ (sym c.in_ok-first.ensures)).eight,
      (delta_used a.s.now _ _ _ _ (sym c.in_ok-second.ensures)).eight,
    )

pub returns : goal.returns
unfolding pair_at
returns c = search rules
