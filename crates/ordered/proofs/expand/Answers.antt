-- `ordered::expand` meets its contract: where nothing is wrong each list is filled. Assumes nothing.
use native.Mathlib.Omega.{arith}
use Rattle.ordered.proofs.Expansions.{expands}
use Rattle.ordered.proofs.expand.Goals as goal

pub returns : goal.returns
returns c =
    let a = c.args in
    expands a.inputs a.latches a.gates.now (record { inputs = a.input_codes.now; states = a.state_codes.now; triples = a.triples.now })
    (omega arith) c.if-gates-ne0.false (omega arith) (omega arith) (omega arith) _ _ _ c.codes.ensures c.codes-2.ensures c.triples_of.ensures
