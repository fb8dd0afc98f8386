-- `text::put_decimal` meets its contract: from a place past the end nothing is put; where not all digits fit they are put as bytes, of a row that has them all.
-- Assumes nothing.
use mathlib.Core.Path.{◌≡◌, sym, ap, ◌∙◌}
use mathlib.Core.List.{List}
use Prim.Native.Nat.{ℕ}
use native.Mathlib.Omega.{arith}
use lib.ListN.{length, take}
use lib.Seq.{length-take-le}
use Rattle.place.specs.Place.{further}
use Rattle.token.specs.Format.{digits_of}
use Rattle.text.specs.Put.{put_all}
use Rattle.text.proofs.Puts.{put_all_past, put_all_front}
use Rattle.text.proofs.Digits.{digits_few}
use Rattle.text.proofs.put_decimal.Goals as goal

pub returns-then-out-at : goal.returns-then-out-at
returns-then-out-at c = (
  sym (put_all_past c.args.out.now c.args.at (digits_of c.args.v) (omega arith)),
  c.further.ensures ∙ ap (further c.args.at) c.digit_count-n.ensures,
)

pub digits_from-requires : goal.digits_from-requires
digits_from-requires c =
    (omega (arith, c.digit_count-n.ensures, digits_few c.args.v (omega arith)), c.digit_count-n.ensures)

pub slice_bounds-row-end : goal.slice_bounds-row-end
slice_bounds-row-end c =
    let long : length c.digits_from.new.out ≡ 20 = c.digits_from.auto.out in
    omega (arith, long, c.digit_count-n.ensures, digits_few c.args.v (omega arith))

pub slice_bounds-put_bytes-end : goal.slice_bounds-put_bytes-end
slice_bounds-put_bytes-end c =
    let long : length c.digits_from.new.out ≡ 20 = c.digits_from.auto.out in
    let few = digits_few c.args.v (omega arith) in
    sym (length-take-le c.digit_count-n.result c.digits_from.new.out (omega (arith, long, c.digit_count-n.ensures, few)))

pub returns-then-out-at-2 : goal.returns-then-out-at-2
returns-then-out-at-2 c =
    let n = c.digit_count-n.result in
    let few = digits_few c.args.v (omega arith) in
    let digits : take n c.digits_from.new.out ≡ digits_of c.args.v
    = ap (take n) c.digits_from.ensures
    ∙ put_all_front _ (digits_of c.args.v) n c.digit_count-n.ensures (omega (arith, c.digit_count-n.ensures, few)) in (
      c.put_bytes.ensures.0 ∙ ap (put_all c.args.out.now c.args.at) digits,
      c.put_bytes.ensures.1 ∙ ap (λ (l : List ℕ). further c.args.at (length l)) digits,
    )

pub returns : goal.returns
returns c =
    (c.digits_from-2.ensures, omega (arith, digits_few c.args.v (omega arith)))
