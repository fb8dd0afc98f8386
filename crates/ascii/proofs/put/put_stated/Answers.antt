-- `ascii::put::put_stated` meets its contract: the digits of the state, the space, and then the rest of the line. Assumes nothing.
use mathlib.Core.Path.{refl}
use mathlib.Core.List.{[], ◌∷◌}
use native.Mathlib.Omega.{arith}
use Rattle.token.specs.Format.{digits_of}
use Rattle.text.proofs.Puts.{onward_all, onward, onward-last}
use Rattle.sections.specs.Bytes.{latch_bytes}
use Rattle.ascii.specs.Write.{stated_bytes}
use Rattle.ascii.proofs.put.put_stated.Goals as goal

pub returns : goal.returns
unfolding stated_bytes
returns c =
    let state = c.args.state in
    let line = latch_bytes c.args.next c.args.reset in
    let all = onward_all c.args.out.now c.args.at (stated_bytes state c.args.next c.args.reset) in
    let digits = onward all (digits_of state) (32 ∷ line) refl _ _ (omega arith) c.put_decimal-after_state.ensures.0 c.put_decimal-after_state.ensures.1 in
    let space = onward digits (32 ∷ []) line refl _ _ (omega arith) c.put-after_space.ensures.0 c.put-after_space.ensures.1 in
    onward-last space _ _ c.put_latch.ensures.0 c.put_latch.ensures.1
