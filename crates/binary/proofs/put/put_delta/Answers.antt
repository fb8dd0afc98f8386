-- `binary::put::put_delta` meets its contract: its bytes one by one are those of the shortest groups. Assumes nothing.
use native.Mathlib.Omega.{arith}
use Rattle.binary.proofs.Putting.{delta_1, delta_2, delta_3}
use Rattle.binary.proofs.put.put_delta.Goals as goal

pub returns-then-d-lt128 : goal.returns-then-d-lt128
returns-then-d-lt128 c =
    let a = c.args in
    delta_1 a.out.now a.at a.d (omega arith)

pub returns-then-d-lt16384 : goal.returns-then-d-lt16384
returns-then-d-lt16384 c =
    let a = c.args in
    delta_2 a.out.now a.at a.d (omega arith) (omega arith)

pub returns : goal.returns
returns c =
    let a = c.args in
    delta_3 a.out.now a.at a.d (omega arith) c.requires.1
