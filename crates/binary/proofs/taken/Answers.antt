-- `binary::taken` meets its contract: the header, and the body that it announces. Assumes nothing.
use mathlib.Core.Path.{sym}
use Rattle.std.proofs.Common.{rules}
use Rattle.binary.specs.Promise.{lists_of}
use Rattle.binary.proofs.Whole.{taken_no_header, read_within, taken_broken, taken_is}
use Rattle.binary.proofs.taken.Goals as goal

pub returns-in_err-first : goal.returns-in_err-first
returns-in_err-first c =
    let l = lists_of c.args.nexts.now c.args.resets.now c.args.gates.now c.args.sizes.now c.args.roots.now in
    taken_no_header c.args.s.now l _ _ _ (sym c.in_err-first.ensures) (search rules)

pub body-requires : goal.body-requires
body-requires c =
    let l = lists_of c.args.nexts.now c.args.resets.now c.args.gates.now c.args.sizes.now c.args.roots.now in
    read_within c.args.s.now l _ (sym c.in_ok-first.ensures)

pub returns-in_err-rest : goal.returns-in_err-rest
returns-in_err-rest c =
    let l = lists_of c.args.nexts.now c.args.resets.now c.args.gates.now c.args.sizes.now c.args.roots.now in
    taken_broken c.args.s.now l _ (sym c.in_ok-first.ensures) _ _ c.body.ensures _ _ c.in_err-rest.was (search rules)

pub returns : goal.returns
returns c =
    let l = lists_of c.args.nexts.now c.args.resets.now c.args.gates.now c.args.sizes.now c.args.roots.now in
    taken_is c.args.s.now l _ (sym c.in_ok-first.ensures) _ _ c.body.ensures _ c.in_ok-rest.was
