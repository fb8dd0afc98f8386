-- `over` meets its contract: the first of lists one after another is the first of the first list that has one. Assumes nothing.
use Rattle.std.proofs.Common.{rules}
use mathlib.Core.Path.{sym}
use mathlib.Core.List.{[], ◌∷◌}
use Rattle.circuit.specs.Circuit.{first_over}
use Rattle.circuit.specs.Resets.{side_by_side}
use Rattle.checks.specs.Checks.{found}
use Rattle.checks.proofs.Offenders.{or_else_is}
use Rattle.ordered.proofs.Checks.{over_all}
use Rattle.ordered.proofs.given.over.Goals as goal

pub returns : goal.returns
returns c =
    let a = c.args in
    let n = or_else_is c.over_in_gates.result c.or_else.result (found (first_over a.bound (side_by_side a.nexts.now a.resets.now))) c.or_else.ensures (λ k. search rules) in
    let r = or_else_is c.or_else.result c.or_else-2.result (found (first_over a.bound a.roots.now)) c.or_else-2.ensures (λ k. search rules) in
    let q = or_else_is c.or_else-2.result c.or_else-3.result (found (first_over a.bound (a.asked.0 ∷ []))) c.or_else-3.ensures (λ k. search rules) in
    rw (q, r, n, c.over_in_gates.ensures) (sym (over_all a.bound a.gates.now a.nexts.now a.resets.now a.roots.now a.asked.0))
