-- The map at the start, and the resets carried over, by the numbers of inputs and latches. Assumes nothing.
use Prim.Native.Nat.{ℕ, ◌+◌, ◌*◌, ◌≤◌, ◌<◌}
use mathlib.Core.Path.{◌≡◌, sym, ap, ◌∙◌}
use mathlib.Core.List.{List, ◌++◌}
use native.Mathlib.Omega.{arith}
use lib.ListN.{length, get_or, set, take, drop}
use borrow.Author.Tests.{le-ltb}
use Rattle.circuit.specs.Ordered.{carried, carried_from}
use Rattle.circuit.specs.Outcome.{limit}
use Rattle.circuit.proofs.Carried.{carried-length, carried_at}
use Rattle.lent.proofs.Rows.{onto_more}
use Rattle.images.specs.Begin.{beginning, begun}

pub few : (m inputs states : List ℕ) → length inputs ≤ limit → length states ≤ limit → beginning m (inputs ++ states) ≡ begun m inputs states
unfolding begun
few m inputs states h k = rw (le-ltb limit (length inputs) h, le-ltb limit (length states) k)

-- resets, one a turn, where the latch's new literal is `own`
pub carried_more : (first : ℕ) (rs o o' : List ℕ) (i own x : ℕ) → i < length rs → i < length o → own ≡ first + 2 * i
    → o' ≡ take i (carried_from first rs) ++ drop i o → x ≡ carried own (get_or rs i 0)
    → set o' i x ≡ take (i + 1) (carried_from first rs) ++ drop (i + 1) o
carried_more first rs o o' i own x h k e d f =
    let b : x ≡ get_or (carried_from first rs) i 0 = f ∙ ap (λ (t : ℕ). carried t (get_or rs i 0)) e ∙ sym (carried_at first rs i h) in
    rw d (onto_more (carried_from first rs) o i x (omega (arith, carried-length first rs)) k b)
