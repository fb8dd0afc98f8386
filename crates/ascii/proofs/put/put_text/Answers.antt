-- `ascii::put::put_text` meets its contract: header, input lines, latch lines, root section, gate lines, each where the one before it ends. Assumes nothing.
use mathlib.Core.Path.{◌≡◌, refl, sym, ap}
use mathlib.Core.List.{List, ◌++◌}
use Prim.Native.Nat.{ℕ, ◌+◌}
use native.Mathlib.Omega.{arith}
use lib.ListN.{length}
use Rattle.text.proofs.Puts.{onward_all, onward, onward-last}
use Rattle.circuit.specs.Walk.{first_code}
use Rattle.circuit.specs.Ordered.{first_latch}
use Rattle.circuit.specs.Outcome.{pairs_of}
use Rattle.lines.specs.Sections.{roots_of}
use Rattle.sections.specs.Bytes.{header_bytes, roots_bytes}
use Rattle.ascii.specs.Tag.{tag}
use Rattle.ascii.specs.Write.{input_lines, stated_lines, gate_lines, parts_of}
use Rattle.ascii.proofs.put.put_text.Goals as goal

pub returns : goal.returns
unfolding parts_of
returns c =
    let h = c.args.h in
    let nexts = c.args.nexts.now in
    let n = h.inputs + length nexts in
    let inputs = input_lines h.inputs in
    let latches = stated_lines (first_latch h.inputs) nexts c.args.resets.now in
    let roots = roots_bytes h (roots_of c.args.sizes.now c.args.roots.now) in
    let gates = gate_lines (first_code n) (pairs_of c.args.gates.now) in
    let made = gate_lines (first_code (c.wide.result + length nexts)) (pairs_of c.args.gates.now) in
    let from : made ≡ gates
    = ap (λ (k : ℕ). gate_lines (first_code (k + length nexts)) (pairs_of c.args.gates.now)) c.wide.ensures in
    let all = onward_all c.args.out.now 0 (header_bytes tag h ++ (inputs ++ (latches ++ (roots ++ gates)))) in
    let headed =
    onward all (header_bytes tag h) (inputs ++ (latches ++ (roots ++ gates))) refl _ _ (omega arith) c.put_header-after_header.ensures.0
    c.put_header-after_header.ensures.1 in
    let listed =
    onward headed inputs (latches ++ (roots ++ gates)) refl _ _ (omega arith) c.put_inputs-after_inputs.ensures.0 c.put_inputs-after_inputs.ensures.1 in
    let latched = onward listed latches (roots ++ gates) refl _ _ (omega arith) c.put_latches-after_latches.ensures.0 c.put_latches-after_latches.ensures.1 in
    let rooted =
    onward latched roots made (ap (λ (l : List ℕ). roots ++ l) (sym from)) _ _ (omega arith) c.put_roots-after_roots.ensures.0
    c.put_roots-after_roots.ensures.1 in
    onward-last rooted _ _ c.put_gates.ensures.0 c.put_gates.ensures.1
