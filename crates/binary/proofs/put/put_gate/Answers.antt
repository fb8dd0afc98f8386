-- `binary::put::put_gate` meets its contract: its two deltas stand one after the other, whether or not both fit. Assumes nothing.
use native.Mathlib.Omega.{arith}
use Rattle.binary.proofs.Most.{delta_few}
use Rattle.binary.proofs.Putting.{gate_within, gate_past}
use Rattle.binary.proofs.put.put_gate.Goals as goal

pub put_delta-requires : goal.put_delta-requires
put_delta-requires c =
    (omega (arith, c.put_delta-after.ensures.1, c.put_delta-after.auto.out, delta_few c.args.first c.requires.0), c.requires.1)

pub returns-then-out-at-ge6 : goal.returns-then-out-at-ge6
returns-then-out-at-ge6 c =
    gate_within c.args.out.now c.args.at c.args.first c.args.second (omega arith) _ _ _ _ (omega arith) c.requires.0
    c.requires.1 c.put_delta-after.ensures c.put_delta.ensures

pub returns : goal.returns
returns c =
    gate_past c.args.out.now c.args.at c.args.first c.args.second (omega arith) _ _ _ _ c.put_groups-after.ensures
    c.put_groups.ensures
