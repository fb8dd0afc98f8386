-- `records::flatten` meets its contract: each turn lays one gate more. Assumes nothing.
use Rattle.std.proofs.Common.{◌≡◌, get_or, arith, rules}
use Rattle.aig_records.specs.Records.{no_gate, record_words}
use Rattle.aig_records.proofs.Flat.{laid_more}
use Rattle.aig_records.proofs.records.flatten.Goals as goal

pub loop-i-preserved : goal.loop-i-preserved
loop-i-preserved c =
    let words : c.copy_from_slice.new.self ≡ record_words (get_or c.args.gates.now c.loop-i.i no_gate) = search rules in
    rw c.loop-i.invariant (laid_more c.args.gates.now c.args.flat.now c.loop-i.i (omega arith) _ (omega arith) _ words)
