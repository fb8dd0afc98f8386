-- What a circuit that passed its checks gives to the writer of its text: the bytes that it has at most, and its parts in a row. Assumes nothing.
use Prim.Native.Nat.{ℕ, ◌+◌, ◌*◌, ◌≤◌}
use mathlib.Core.Path.{◌≡◌, ap}
use native.Mathlib.Omega.{arith}
use lib.ListN.{length}
use Rattle.place.specs.Place.{last}
use Rattle.circuit.specs.Outcome.{pairs_of}
use Rattle.lines.specs.declared.Header.{Header}
use Rattle.ordered.specs.WellOrdered.{variables_of}
use Rattle.ordered.specs.Check.{Words, circuit_in}
use Rattle.ordered.specs.Given.{Given}
use Rattle.binary.specs.Write.{header_for, file_in}
use Rattle.ascii.specs.Write.{parts_of, text_of}
use Rattle.ascii.proofs.WriteMost.{text_most}

module _ (w : Words) (g : Given w) where
  pub text_roomy : (top most : ℕ) → top ≡ variables_of (circuit_in w) → most ≡ 76 + 8 * (3 * top + length w.roots + length w.sizes)
      → length (text_of (file_in w)) ≤ most
  text_roomy top most t m = omega (arith, t, m, text_most w g)

  -- so it ends at a place of 64 bits
  pub text_ends : length (text_of (file_in w)) ≤ last
  text_ends = omega (arith, text_most w g, g.ordered.variables, g.ordered.few, g.sets)

  pub text_parts : (h : Header) → h ≡ header_for (file_in w)
      → parts_of h w.nexts w.resets w.sizes w.roots (h.inputs + length w.nexts) (pairs_of w.gates) ≡ text_of (file_in w)
  text_parts h e = ap (λ (x : Header). parts_of x w.nexts w.resets w.sizes w.roots (x.inputs + length w.nexts) (pairs_of w.gates)) e
