-- `binary::sized` meets its contract: its tests are those of the definition. Assumes nothing.
use Prim.Native.Nat.{◌+◌, ◌≤◌}
use native.Mathlib.Omega.{arith}
use Rattle.binary.proofs.Gates.{sized_above, sized_nexts, sized_resets, sized_gates, sized_sizes, sized_is}
use Rattle.binary.proofs.sized.Goals.{then-nexts-wide-via-then-nexts-wide, then-nexts-wide-via-else-nexts-wide+then-resets-wide, then-nexts-wide-via-else-nexts-wide+else-resets-wide+then-gates-wide, then-nexts-wide-via-else-nexts-wide+else-resets-wide+else-gates-wide+then-sizes-wide}
use Rattle.binary.proofs.sized.Goals as goal

pub returns-then-wide : goal.returns-then-wide
returns-then-wide c =
    sized_above _ _ _ _ _ _ (omega (arith, c.wide.ensures, c.wide-2.ensures, c.wide-3.ensures, c.wide-4.ensures, c.if-wide.true))

pub returns-then-nexts-wide : goal.returns-then-nexts-wide
returns-then-nexts-wide c =
    let h = c.args.h in
    let top : h.top ≤ h.inputs + h.latches + h.gates = omega (arith, c.wide.ensures, c.wide-2.ensures, c.wide-3.ensures, c.wide-4.ensures, c.if-wide.false) in
    elim c.then-nexts-wide.branch [
      | then-nexts-wide-via-then-nexts-wide w ↦ sized_nexts _ _ _ _ _ _ top (omega (arith, c.wide-5.ensures, w.if-nexts-wide.true))
      | then-nexts-wide-via-else-nexts-wide+then-resets-wide w ↦
          sized_resets _ _ _ _ _ _ top (omega (arith, c.wide-5.ensures, w.if-nexts-wide.false)) (omega (arith, w.wide-else-nexts-wide.ensures, w.if-resets-wide.true))
      | then-nexts-wide-via-else-nexts-wide+else-resets-wide+then-gates-wide w ↦
          sized_gates _ _ _ _ _ _ top (omega (arith, c.wide-5.ensures, w.if-nexts-wide.false)) (omega (arith, w.wide-else-nexts-wide.ensures, w.if-resets-wide.false))
          (omega (arith, w.wide-else-resets-wide.ensures, w.if-gates-wide.true))
      | then-nexts-wide-via-else-nexts-wide+else-resets-wide+else-gates-wide+then-sizes-wide w ↦
          sized_sizes _ _ _ _ _ _ top (omega (arith, c.wide-5.ensures, w.if-nexts-wide.false)) (omega (arith, w.wide-else-nexts-wide.ensures, w.if-resets-wide.false))
          (omega (arith, w.wide-else-resets-wide.ensures, w.if-gates-wide.false)) (omega (arith, w.wide-else-gates-wide.ensures, w.if-sizes-wide.true))
    ]

pub returns : goal.returns
returns c =
    sized_is _ _ _ _ _ _ (omega (arith, c.wide.ensures, c.wide-2.ensures, c.wide-3.ensures, c.wide-4.ensures, c.if-wide.false))
    (omega (arith, c.wide-5.ensures, c.if-nexts-wide.false)) (omega (arith, c.wide-else-nexts-wide.ensures, c.if-resets-wide.false))
    (omega (arith, c.wide-else-resets-wide.ensures, c.if-gates-wide.false)) (omega (arith, c.wide-else-gates-wide.ensures, c.if-sizes-wide.false))
