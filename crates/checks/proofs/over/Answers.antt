-- `over` meets its contract: the first of lists one after another is the first of the first list that has one. Assumes nothing.
use Prim.Native.Nat.{ℕ, ◌+◌, ◌*◌}
use Rattle.std.proofs.Common.{rules}
use mathlib.Core.Path.{sym, ap, ◌∙◌}
use Rattle.circuit.specs.Circuit.{latch_codes, first_over}
use Rattle.checks.specs.Bare.{bare}
use Rattle.checks.specs.Checks.{found}
use Rattle.checks.proofs.Offenders.{or_else_is, over_all}
use Rattle.checks.proofs.over.Goals as goal

pub returns : goal.returns
returns c =
    let a = c.args in
    let all = over_all (bare a.circuit a.lists.now.inputs.now a.lists.now.states.now a.lists.now.nexts.now a.lists.now.resets.now a.lists.now.gates.now a.lists.now.roots.now) _
    (ap (λ (k : ℕ). 2 * k + 1) (c.wide.ensures ∙ c.index.ensures)) c.requires in
    let bound = 2 * c.wide.result + 1 in
    let g = or_else_is c.over_in.result c.or_else.result (found (first_over bound a.lists.now.gates.now)) c.or_else.ensures (λ k. search rules) in
    let s = or_else_is c.or_else.result c.or_else-2.result (found (first_over bound (latch_codes a.lists.now.states.now a.lists.now.nexts.now a.lists.now.resets.now))) c.or_else-2.ensures (λ k. search rules) in
    let r = or_else_is c.or_else-2.result c.or_else-3.result (found (first_over bound a.lists.now.roots.now)) c.or_else-3.ensures (λ k. search rules) in
    rw (r, s, g, c.over_in.ensures) (sym all)
