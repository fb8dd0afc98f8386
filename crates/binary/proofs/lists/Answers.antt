-- `binary::lists` meets its contract: the sections in the order of the file, each into its list. Assumes nothing.
use native.Mathlib.Omega.{arith}
use Rattle.std.proofs.Common.{rules}
use Rattle.binary.proofs.Files.{first-is, latches_told_lem, gates_told_lem, lists_latches, lists_roots, lists_gates, lists_is}
use Rattle.binary.proofs.lists.Goals as goal

pub returns-in_err-after_latches : goal.returns-in_err-after_latches
returns-in_err-after_latches c =
    lists_latches c.args.s.now c.args.h c.args.at c.args.nexts.now c.args.resets.now c.args.gates.now c.args.sizes.now
    c.args.roots.now c.requires.1 _ _ _
    (latches_told_lem c.args.s.now _ _ _ _ c.args.h.latches c.args.at _ _ _ (first-is c.args.h.inputs) c.wide-latches.ensures c.latches.ensures)
    _ _ _ c.in_err-after_latches.was (search rules)

pub returns-in_err-rooted : goal.returns-in_err-rooted
returns-in_err-rooted c =
    lists_roots c.args.s.now c.args.h c.args.at c.args.nexts.now c.args.resets.now c.args.gates.now c.args.sizes.now
    c.args.roots.now c.requires.1 _ _ _
    (latches_told_lem c.args.s.now _ _ _ _ c.args.h.latches c.args.at _ _ _ (first-is c.args.h.inputs) c.wide-latches.ensures c.latches.ensures)
    _ c.in_ok-after_latches.was _ _ _ c.roots.ensures _ _ _ c.in_err-rooted.was (search rules)

pub returns-in_err-after : goal.returns-in_err-after
returns-in_err-after c =
    lists_gates c.args.s.now c.args.h c.args.at c.args.nexts.now c.args.resets.now c.args.gates.now c.args.sizes.now
    c.args.roots.now c.requires.1 _ _ _
    (latches_told_lem c.args.s.now _ _ _ _ c.args.h.latches c.args.at _ _ _ (first-is c.args.h.inputs) c.wide-latches.ensures c.latches.ensures)
    _ c.in_ok-after_latches.was _ _ _ c.roots.ensures _ c.in_ok-rooted.was _ _
    (gates_told_lem c.args.s.now c.args.h _ _ _ _ _ _ (omega (arith, c.wide-latches.ensures, c.wide.ensures)) c.wide-2.ensures c.gates_into.ensures)
    _ _ _ c.in_err-after.was (search rules)

pub returns : goal.returns
returns c =
    lists_is c.args.s.now c.args.h c.args.at c.args.nexts.now c.args.resets.now c.args.gates.now c.args.sizes.now
    c.args.roots.now c.requires.1 _ _ _
    (latches_told_lem c.args.s.now _ _ _ _ c.args.h.latches c.args.at _ _ _ (first-is c.args.h.inputs) c.wide-latches.ensures c.latches.ensures)
    _ c.in_ok-after_latches.was _ _ _ c.roots.ensures _ c.in_ok-rooted.was _ _
    (gates_told_lem c.args.s.now c.args.h _ _ _ _ _ _ (omega (arith, c.wide-latches.ensures, c.wide.ensures)) c.wide-2.ensures c.gates_into.ensures)
    _ c.in_ok-after.was
