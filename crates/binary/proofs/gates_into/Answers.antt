-- `binary::gates_into` meets its contract: a turn of the loop stores one gate more (`Gating`); a pair is at most its code, which fits a word. Assumes nothing.
use Prim.Native.Nat.{◌+◌, ◌*◌}
use mathlib.Core.Path.{refl, sym}
use native.Mathlib.Omega.{arith}
use Rattle.std.proofs.Common.{rules}
use Rattle.token.proofs.Theorems.{pair_falls, pair_uses}
use Rattle.binary.proofs.Gates.{gating_more, gating_broken, gating_all}
use Rattle.binary.proofs.gates_into.Goals as goal

pub returns-in_err-pair : goal.returns-in_err-pair
returns-in_err-pair c =
    gating_broken c.loop-j.invariant _ _ (omega arith) (sym c.in_err-pair.ensures) (search rules)

pub overflow_cast-list : goal.overflow_cast-list
overflow_cast-list c =
    omega (arith, c.requires.0, pair_falls c.args.s.now c.loop-j.here (2 * (c.args.n + 1) + 2 * c.loop-j.j) _ _ _ (sym c.in_ok-pair.ensures))

pub overflow_cast-list-in-loop-j : goal.overflow_cast-list-in-loop-j
overflow_cast-list-in-loop-j c =
    omega (arith, c.requires.0, pair_falls c.args.s.now c.loop-j.here (2 * (c.args.n + 1) + 2 * c.loop-j.j) _ _ _ (sym c.in_ok-pair.ensures))

pub overflow_add-here : goal.overflow_add-here
overflow_add-here c =
    omega (arith, pair_uses c.args.s.now c.loop-j.here (2 * (c.args.n + 1) + 2 * c.loop-j.j) _ _ _ (sym c.in_ok-pair.ensures))

pub loop-j-preserved : goal.loop-j-preserved
loop-j-preserved c =
    gating_more c.loop-j.invariant _ _ _ (omega arith) (sym c.in_ok-pair.ensures) refl refl

pub returns : goal.returns
returns c =
    gating_all c.loop-j.invariant (omega arith)
