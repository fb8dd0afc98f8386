-- `binary::fitted` meets its contract: where more bytes are lent than any such file has, it is written; else it is measured by its writer on no bytes, and
-- written where it fits. Assumes nothing.
use Prim.Native.Nat.{ℕ}
use mathlib.Core.Path.{refl, ap, ◌∙◌}
use mathlib.Core.List.{List, [], ◌++◌}
use native.Mathlib.Omega.{arith}
use lib.ListN.{length}
use Rattle.ordered.specs.declared.given.Fault.TheVariants.{Short}
use Rattle.binary.specs.Write.{unwritten, wrote}
use Rattle.binary.proofs.Fitting.{few, ready, its_header, its_top, countable, roomy, its_parts, file_ends, measured, none_put, too_short, whole}
use Rattle.binary.proofs.fitted.Goals as goal

pub header_for-h-requires : goal.header_for-h-requires
header_for-h-requires c = few _ c.requires

pub most_bytes-requires : goal.most_bytes-requires
most_bytes-requires c =
    countable _ c.requires c.wide.result
    (its_top _ c.requires c.header_for-h.result c.header_for-h.ensures c.wide.result c.wide.ensures)

pub put_file-requires : goal.put_file-requires
put_file-requires c =
    ready _ c.requires c.header_for-h.result c.header_for-h.ensures

pub returns-then-most_bytes-out : goal.returns-then-most_bytes-out
returns-then-most_bytes-out c =
    let made = c.header_for-h.result in
    let same = its_parts _ c.requires made (its_header _ c.requires made c.header_for-h.ensures) in
    let top = its_top _ c.requires c.header_for-h.result c.header_for-h.ensures c.wide.result c.wide.ensures in
    let n = measured same (file_ends _ c.requires) c.put_file.result c.put_file.ensures.1 in
    let room = roomy _ c.requires c.wide.result c.most_bytes.result top c.most_bytes.ensures in
    whole same [] c.args.out.now _ c.put_file.result n (omega (arith, n, room)) refl
    c.put_file.ensures.0

pub put_file-needed-requires : goal.put_file-needed-requires
put_file-needed-requires c =
    ready _ c.requires c.header_for-h.result c.header_for-h.ensures

pub returns-then-out-needed : goal.returns-then-out-needed
returns-then-out-needed c =
    let made = c.header_for-h.result in
    let same = its_parts _ c.requires made (its_header _ c.requires made c.header_for-h.ensures) in
    let n = measured same (file_ends _ c.requires) c.put_file-needed.result c.put_file-needed.ensures.1 in
    let none = none_put same _ c.put_file-needed.ensures.0 in
    ap (λ (x : List ℕ). wrote (unwritten Short c.put_file-needed.result) (x ++ c.args.out.now)) none
    ∙ too_short same c.args.out.now c.put_file-needed.result n (omega arith)

pub put_file-requires-2 : goal.put_file-requires-2
put_file-requires-2 c =
    ready _ c.requires c.header_for-h.result c.header_for-h.ensures

pub returns : goal.returns
returns c =
    let made = c.header_for-h.result in
    let same = its_parts _ c.requires made (its_header _ c.requires made c.header_for-h.ensures) in
    let n = measured same (file_ends _ c.requires) c.put_file-needed.result c.put_file-needed.ensures.1 in
    let none = none_put same _ c.put_file-needed.ensures.0 in
    let long = ap (λ (x : List ℕ). length (x ++ c.args.out.now)) none in
    whole same _ c.args.out.now _ c.put_file-needed.result n (omega (arith, long, c.if-out-needed.false))
    none c.put_file-2.ensures.0
