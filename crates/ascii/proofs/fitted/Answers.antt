-- `ascii::fitted` meets its contract: where more bytes are lent than any such text has, it is written; else it is measured by its writer on no bytes, and
-- written where it fits. Assumes nothing.
use Prim.Native.Nat.{ℕ}
use mathlib.Core.Path.{refl, ap, ◌∙◌}
use mathlib.Core.List.{List, [], ◌++◌}
use native.Mathlib.Omega.{arith}
use lib.ListN.{length}
use Rattle.ordered.specs.declared.given.Fault.TheVariants.{Short}
use Rattle.binary.specs.Write.{unwritten, wrote}
use Rattle.binary.proofs.Fitting.{few, ready, its_header, its_top, countable, measured, none_put, too_short, whole}
use Rattle.ascii.proofs.WriteFitting.{text_roomy, text_ends, text_parts}
use Rattle.ascii.proofs.fitted.Goals as goal

pub header_for-h-requires : goal.header_for-h-requires
header_for-h-requires c = few _ c.requires

pub most_bytes-requires : goal.most_bytes-requires
most_bytes-requires c =
    let counts =
    countable _ c.requires c.wide.result
    (its_top _ c.requires c.header_for-h.result c.header_for-h.ensures c.wide.result c.wide.ensures) in
    (counts.0, counts.2, counts.3)

pub put_text-requires : goal.put_text-requires
put_text-requires c =
    (ready _ c.requires c.header_for-h.result c.header_for-h.ensures).0

pub returns-then-most_bytes-out : goal.returns-then-most_bytes-out
returns-then-most_bytes-out c =
    let made = c.header_for-h.result in
    let same = text_parts _ c.requires made (its_header _ c.requires made c.header_for-h.ensures) in
    let top = its_top _ c.requires c.header_for-h.result c.header_for-h.ensures c.wide.result c.wide.ensures in
    let n = measured same (text_ends _ c.requires) c.put_text.result c.put_text.ensures.1 in
    let room = text_roomy _ c.requires c.wide.result c.most_bytes.result top c.most_bytes.ensures in
    whole same [] c.args.out.now _ c.put_text.result n (omega (arith, n, room)) refl
    c.put_text.ensures.0

pub put_text-needed-requires : goal.put_text-needed-requires
put_text-needed-requires c =
    (ready _ c.requires c.header_for-h.result c.header_for-h.ensures).0

pub returns-then-out-needed : goal.returns-then-out-needed
returns-then-out-needed c =
    let made = c.header_for-h.result in
    let same = text_parts _ c.requires made (its_header _ c.requires made c.header_for-h.ensures) in
    let n = measured same (text_ends _ c.requires) c.put_text-needed.result c.put_text-needed.ensures.1 in
    let none = none_put same _ c.put_text-needed.ensures.0 in
    ap (λ (x : List ℕ). wrote (unwritten Short c.put_text-needed.result) (x ++ c.args.out.now)) none
    ∙ too_short same c.args.out.now c.put_text-needed.result n (omega arith)

pub put_text-requires-2 : goal.put_text-requires-2
put_text-requires-2 c =
    (ready _ c.requires c.header_for-h.result c.header_for-h.ensures).0

pub returns : goal.returns
returns c =
    let made = c.header_for-h.result in
    let same = text_parts _ c.requires made (its_header _ c.requires made c.header_for-h.ensures) in
    let n = measured same (text_ends _ c.requires) c.put_text-needed.result c.put_text-needed.ensures.1 in
    let none = none_put same _ c.put_text-needed.ensures.0 in
    let long = ap (λ (x : List ℕ). length (x ++ c.args.out.now)) none in
    whole same _ c.args.out.now _ c.put_text-needed.result n (omega (arith, long, c.if-out-needed.false))
    none c.put_text-2.ensures.0
