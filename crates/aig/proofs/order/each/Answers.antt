-- `order::each`: each turn walks the literal at its place, and those after it wait. Assumes nothing.
use Rattle.std.proofs.Common.{rules, arith}
use Rattle.aig.proofs.InTurn.{listing_one, listing_on, listing_stop, listing_end}
use Rattle.aig.proofs.Strides.{every_at, every_past}
use Rattle.aig.proofs.order.each.Goals as goal

pub run-requires : goal.run-requires
run-requires c =
    listing_one c.loop-i.invariant (every_at _ _ _ c.requires.0 c.loop-i-test.true) c.start.ensures c.from_code.ensures

pub returns-in_err-made : goal.returns-in_err-made
returns-in_err-made c =
    listing_stop c.loop-i.invariant (every_at _ _ _ c.requires.0 c.loop-i-test.true) c.start.ensures c.from_code.ensures
    c.run.result _ _ _ c.run.ensures _ c.in_err-made.was c.from_residual.result (search rules)

pub loop-i-preserved : goal.loop-i-preserved
loop-i-preserved c =
    listing_on c.loop-i.invariant (every_at _ _ _ c.requires.0 c.loop-i-test.true) c.start.ensures c.from_code.ensures
    c.run.result _ _ _ c.run.ensures _ c.in_ok-made.was

pub returns : goal.returns
returns c = listing_end c.loop-i.invariant (every_past c.args.step c.loop-i.i c.args.lits.now (omega (arith, c.loop-i-test.false)))
