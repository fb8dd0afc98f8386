-- `ascii::put::put_gate` meets its contract: the digits of the output, the two inputs, and then the newline. Assumes nothing.
use mathlib.Core.Path.{refl}
use mathlib.Core.List.{[], ◌∷◌, ◌++◌}
use native.Mathlib.Omega.{arith}
use Rattle.token.specs.Format.{digits_of}
use Rattle.text.proofs.Puts.{onward_all, onward, onward-last}
use Rattle.sections.specs.Bytes.{count_bytes}
use Rattle.ascii.specs.Write.{gate_line}
use Rattle.ascii.proofs.put.put_gate.Goals as goal

pub returns : goal.returns
unfolding gate_line
returns c =
    let output = c.args.output in
    let first = count_bytes c.args.first in
    let second = count_bytes c.args.second in
    let all = onward_all c.args.out.now c.args.at (gate_line output c.args.first c.args.second) in
    let rest = first ++ (second ++ (10 ∷ [])) in
    let after_output = onward all (digits_of output) rest refl _ _ (omega arith) c.put_decimal-after_output.ensures.0 c.put_decimal-after_output.ensures.1 in
    let after_first = onward after_output first (second ++ (10 ∷ [])) refl _ _ (omega arith) c.put_count-after_first.ensures.0 c.put_count-after_first.ensures.1 in
    let after_second = onward after_first second (10 ∷ []) refl _ _ (omega arith) c.put_count-after_second.ensures.0 c.put_count-after_second.ensures.1 in
    onward-last after_second _ _ c.put.ensures.0 c.put.ensures.1
