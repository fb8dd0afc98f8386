-- `sheet_lines::put_gates` meets its contract: a turn of the loop puts the line of one gate more (`Listing`). Assumes nothing.
use mathlib.Core.Path.{refl}
use native.Mathlib.Omega.{arith}
use Rattle.sheet_lines.proofs.Texts.{listing_none, listing_more, listing_all, no_gate, made_length, made_line}
use Rattle.sheet_lines.proofs.put_gates.Goals as goal

pub loop-j-init : goal.loop-j-init
loop-j-init c = listing_none _ _ _ _ (omega arith)

pub loop-j-preserved : goal.loop-j-preserved
loop-j-preserved c =
    let a = c.args in
    listing_more c.loop-j.invariant no_gate (omega arith) (omega (arith, made_length a.first a.gates.now))
    (made_line a.first a.gates.now c.loop-j.j _ _ _ (omega arith) refl refl refl) c.put_gate-place.ensures

pub returns : goal.returns
returns c =
    let a = c.args in
    listing_all c.loop-j.invariant (omega (arith, made_length a.first a.gates.now))
