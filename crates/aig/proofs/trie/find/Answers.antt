-- `trie::find`: a search follows at most 22 links, and a gate that all 22 bits lead to has the pair. Assumes nothing.
use Rattle.std.proofs.Common.{◌≡◌, suc, ◌-◌, arith, rules, get_or}
use Rattle.aig.specs.Trie.{key_bits}
use Rattle.aig.proofs.Finding.{seek_reads, seek_free, seek_low, seek_inside, seek_last, seek_hit, seek_on}
use Rattle.aig.proofs.trie.find.Goals as goal

pub offset_bounds-scratch-place : goal.offset_bounds-scratch-place
offset_bounds-scratch-place c =
    let inv = c.loop.invariant in
    let sought = inv.2 inv.1.0 inv.1.1 in
    record { fits = omega (arith, seek_reads sought, sought.made_in.room) }

pub bounds-scratch-place : goal.bounds-scratch-place
bounds-scratch-place c =
    let inv = c.loop.invariant in
    seek_reads (inv.2 inv.1.0 inv.1.1)

pub returns-then-linked-eq0 : goal.returns-then-linked-eq0
returns-then-linked-eq0 c =
    let free : get_or c.args.scratch.now c.loop.place 0 ≡ 0 = search rules in
    λ made m. seek_free (c.loop.invariant.2 made m) free

pub is_at-requires : goal.is_at-requires
is_at-requires c =
    let inv = c.loop.invariant in
    let there : get_or c.args.scratch.now c.loop.place 0 ≡ suc (c.wide-linked.result - 1) = omega (arith, c.wide-linked.ensures, c.if-linked-eq0.false) in
    seek_inside (inv.2 inv.1.0 inv.1.1) there

pub code_at-requires : goal.code_at-requires
code_at-requires c =
    let inv = c.loop.invariant in
    let sought = inv.2 inv.1.0 inv.1.1 in
    let there : get_or c.args.scratch.now c.loop.place 0 ≡ suc (c.wide-linked.result - 1) = omega (arith, c.wide-linked.ensures, c.if-linked-eq0.false) in
    (omega (arith, sought.made_in.room), seek_low sought there)

pub returns-then-is_at : goal.returns-then-is_at
returns-then-is_at c =
    let there : get_or c.args.scratch.now c.loop.place 0 ≡ suc (c.wide-linked.result - 1) = omega (arith, c.wide-linked.ensures, c.if-linked-eq0.false) in
    λ made m. seek_hit (c.loop.invariant.2 made m) there c.is_at.ensures c.if-is_at.true c.code_at.ensures

pub link_of-place-requires : goal.link_of-place-requires
link_of-place-requires c =
    let inv = c.loop.invariant in
    let sought = inv.2 inv.1.0 inv.1.1 in
    let there : get_or c.args.scratch.now c.loop.place 0 ≡ suc (c.wide-linked.result - 1) = omega (arith, c.wide-linked.ensures, c.if-linked-eq0.false) in
    (sought.made_in.room.vars, seek_low sought there)

pub loop-preserved : goal.loop-preserved
loop-preserved c =
    let inv = c.loop.invariant in
    let there : get_or c.args.scratch.now c.loop.place 0 ≡ suc (c.wide-linked.result - 1) = omega (arith, c.wide-linked.ensures, c.if-linked-eq0.false) in (
      omega arith,
      inv.1,
      λ made m. seek_on (inv.2 made m) there c.is_at.ensures c.if-is_at.false c.link_of-place.ensures,
    )

pub offset_bounds-scratch-place-2 : goal.offset_bounds-scratch-place-2
offset_bounds-scratch-place-2 c =
    let inv = c.loop.invariant in
    let sought = inv.2 inv.1.0 inv.1.1 in
    record { fits = omega (arith, seek_reads sought, sought.made_in.room) }

pub bounds-scratch-place-2 : goal.bounds-scratch-place-2
bounds-scratch-place-2 c =
    let inv = c.loop.invariant in
    seek_reads (inv.2 inv.1.0 inv.1.1)

pub returns-in_default : goal.returns-in_default
returns-in_default c =
    let free : get_or c.args.scratch.now c.loop.place 0 ≡ 0 = search rules in
    λ made m. seek_free (c.loop.invariant.2 made m) free

pub code_at-requires-2 : goal.code_at-requires-2
code_at-requires-2 c =
    let inv = c.loop.invariant in
    let sought = inv.2 inv.1.0 inv.1.1 in
    let there : get_or c.args.scratch.now c.loop.place 0 ≡ suc c.in-Some.k = search rules in
    (omega (arith, sought.made_in.room), seek_low sought there)

pub returns : goal.returns
returns c =
    let inv = c.loop.invariant in
    let there : get_or c.args.scratch.now c.loop.place 0 ≡ suc c.in-Some.k = search rules in
    let all : c.loop.counter ≡ key_bits = omega (arith, inv.0, c.loop-test.false) in
    λ made m. seek_last (inv.2 made m) there all c.code_at-2.ensures
