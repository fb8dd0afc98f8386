-- `put_delta` meets its contract: a delta takes at most eight bytes. Assumes nothing.
use mathlib.Core.Path.{sym, ◌∙◌}
use native.Mathlib.Omega.{arith}
use Rattle.token.proofs.Deltas.{delta_used}
use Rattle.delta_bytes.proofs.put_delta.Goals as goal

pub put_value-requires : goal.put_value-requires
put_value-requires c =
    let code = c.in-Ok.code in
    let read = delta_used _ _ _ code.value code.used (sym c.delta_code.ensures ∙ c.in-Ok.is) in
    (c.if-out-lt9.false, omega (arith, read))
