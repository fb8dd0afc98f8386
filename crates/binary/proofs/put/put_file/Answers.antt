-- `binary::put::put_file` meets its contract: header, latch lines, root section, gates, each where the one before it ends. Assumes nothing.
use mathlib.Core.Path.{◌≡◌, refl, sym, ap, subst⁻¹}
use mathlib.Core.List.{List, ◌++◌}
use Prim.Native.Nat.{ℕ, ◌+◌}
use native.Mathlib.Omega.{arith}
use lib.ListN.{length}
use Rattle.text.proofs.Puts.{onward_all, onward, onward-last}
use Rattle.circuit.specs.Walk.{first_code}
use Rattle.circuit.specs.Ordered.{InOrder}
use Rattle.circuit.specs.Outcome.{pairs_of}
use Rattle.lines.specs.Sections.{roots_of}
use Rattle.sections.specs.Bytes.{latches_bytes, header_bytes, roots_bytes}
use Rattle.binary.specs.File.{tag}
use Rattle.binary.specs.Write.{gates_bytes, parts_of}
use Rattle.binary.proofs.put.put_file.Goals as goal

pub put_gates-requires : goal.put_gates-requires
put_gates-requires c =
    let n : c.wide.result ≡ c.args.h.inputs = c.wide.ensures in
    let in_order = subst⁻¹ (λ (k : ℕ). InOrder (k + length c.args.nexts.now) (pairs_of c.args.gates.now)) n c.requires.1 in
    (omega (arith, n, c.requires.0), in_order)

pub returns : goal.returns
unfolding parts_of
returns c =
    let h = c.args.h in
    let nexts = c.args.nexts.now in
    let resets = c.args.resets.now in
    let n = h.inputs + length nexts in
    let roots = roots_bytes h (roots_of c.args.sizes.now c.args.roots.now) in
    let gates = gates_bytes (first_code n) (pairs_of c.args.gates.now) in
    let made = gates_bytes (first_code (c.wide.result + length nexts)) (pairs_of c.args.gates.now) in
    let from : made ≡ gates
    = ap (λ (k : ℕ). gates_bytes (first_code (k + length nexts)) (pairs_of c.args.gates.now)) c.wide.ensures in
    let all = onward_all c.args.out.now 0 (header_bytes tag h ++ (latches_bytes nexts resets ++ (roots ++ gates))) in
    let headed =
    onward all (header_bytes tag h) (latches_bytes nexts resets ++ (roots ++ gates)) refl _ _ (omega arith) c.put_header-after_header.ensures.0
    c.put_header-after_header.ensures.1 in
    let latched = onward headed (latches_bytes nexts resets) (roots ++ gates) refl _ _ (omega arith) c.put_latches-after_latches.ensures.0 c.put_latches-after_latches.ensures.1 in
    let rooted =
    onward latched roots made (ap (λ (l : List ℕ). roots ++ l) (sym from)) _ _ (omega arith) c.put_roots-after_roots.ensures.0
    c.put_roots-after_roots.ensures.1 in
    onward-last rooted _ _ c.put_gates.ensures.0 c.put_gates.ensures.1
