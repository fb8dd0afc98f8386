-- `Walk::back`: with no entry the walk is at its end; else the word on top is its frame's. Assumes nothing.
use native.Mathlib.Omega.{arith}
use mathlib.Core.Path.{ap}
use Rattle.aig.specs.declared.walk.Walk.{Walk}
use Rattle.aig.proofs.Returning.{back_end, returns_first, returns_second}
use Rattle.aig.proofs.Reading.{back_room, back_depth}
use Rattle.aig.proofs.walk.Walk.back.Goals as goal

pub returns-then-self-eq0 : goal.returns-then-self-eq0
returns-then-self-eq0 c = λ gates map out sources o k. back_end k c.if-self-eq0.true

pub entry-requires : goal.entry-requires
entry-requires c =
    let p = c.requires in
    (back_room p.3, omega (arith, back_depth p.3, c.if-self-eq0.false, ap (λ (w : Walk). w.depth) c.shallower-walk.ensures))

pub returns-in-First : goal.returns-in-First
returns-in-First c =
    λ gates map out sources o k. returns_first k c.if-self-eq0.false c.shallower-walk.ensures c.entry.ensures
    c.in-First.is

pub returns-in-Second : goal.returns-in-Second
returns-in-Second c =
    λ gates map out sources o k. returns_second k c.if-self-eq0.false c.shallower-walk.ensures c.entry.ensures
    c.in-Second.is
