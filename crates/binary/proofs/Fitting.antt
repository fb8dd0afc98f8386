-- What a circuit that passed its checks gives to its writer: sums that fit, gates in order, its header; and each end of writing. Assumes nothing.
use Prim.Native.Nat.{ℕ, ◌+◌, ◌*◌, ◌/◌, ◌≤◌, ◌<◌}
use mathlib.Core.Path.{◌≡◌, sym, ap, ap₂, ◌∙◌, subst⁻¹}
use mathlib.Core.List.{List, [], ◌++◌}
use native.Mathlib.Omega.{arith}
use lib.ListN.{length}
use borrow.Author.Tests.{lt-ltb, le-ltb}
use Rattle.place.specs.Place.{last, further}
use Rattle.text.specs.Put.{put_all}
use Rattle.text.proofs.Puts.{put_all_past}
use Rattle.circuit.specs.Ordered.{InOrder}
use Rattle.circuit.specs.Outcome.{limit, onto, pairs_of}
use Rattle.lines.specs.declared.Header.{Header}
use Rattle.ordered.specs.declared.given.Fault.TheVariants.{Short}
use Rattle.ordered.specs.WellOrdered.{variables_of}
use Rattle.ordered.specs.Check.{Words, circuit_in}
use Rattle.ordered.specs.Given.{Given}
use Rattle.ordered.proofs.Laid.{put_onto, pairs_length}
use Rattle.std.specs.Prelude.{Ok}
use Rattle.binary.specs.Write.{header_with, header_for, parts_of, file_of, file_in, unwritten, wrote, written_to}
use Rattle.binary.proofs.Lengths.{file_short}
use Rattle.binary.proofs.Most.{file_most}

module _ (w : Words) (g : Given w) where
  pub few : (w.inputs + length w.nexts + length w.gates / 2 ≤ limit) × (length w.sizes ≤ limit)
  few = (omega (arith, g.ordered.variables, pairs_length w.gates), g.sets)

  -- its codes fit a word, and its gates are in order
  pub ready : (h : Header) → h ≡ header_with w.inputs w.counts (length w.nexts) (length w.gates / 2) (length w.sizes)
      → (2 * (h.inputs + length w.nexts) + length w.gates ≤ 2097150) × InOrder (h.inputs + length w.nexts) (pairs_of w.gates)
  ready h e =
      subst⁻¹ (λ (x : Header). (2 * (x.inputs + length w.nexts) + length w.gates ≤ 2097150) × InOrder (x.inputs + length w.nexts) (pairs_of w.gates)) e
      (omega (arith, few.0, g.whole), g.ordered.gates)

  -- the header that the writer makes is the file's
  pub its_header : (h : Header) → h ≡ header_with w.inputs w.counts (length w.nexts) (length w.gates / 2) (length w.sizes)
      → h ≡ header_for (file_in w)
  its_header h e = e ∙ ap (λ (a : ℕ). header_with w.inputs w.counts (length w.nexts) a (length w.sizes)) (sym (pairs_length w.gates))

  -- its largest variable, the roots and the sets are few, and with them so are the bytes
  pub its_top : (h : Header) → h ≡ header_with w.inputs w.counts (length w.nexts) (length w.gates / 2) (length w.sizes) → (top : ℕ)
      → top ≡ h.top → top ≡ variables_of (circuit_in w)
  its_top h e top t = t ∙ ap (λ (x : Header). x.top) e ∙ omega (arith, pairs_length w.gates)

  pub countable : (top : ℕ) → top ≡ variables_of (circuit_in w) → (top ≤ limit) × (length w.nexts ≤ limit) × (length w.roots ≤ limit)
      × (length w.sizes ≤ limit)
  countable top t = (omega (arith, g.ordered.variables), omega (arith, g.ordered.variables), g.ordered.few, g.sets)

  pub roomy : (top most : ℕ) → top ≡ variables_of (circuit_in w) → most ≡ 76 + 8 * (top + length w.nexts + length w.roots + length w.sizes)
      → length (file_of (file_in w)) ≤ most
  roomy top most t m = omega (arith, t, m, file_most w g)

  pub its_parts : (h : Header) → h ≡ header_for (file_in w)
      → parts_of h w.nexts w.resets w.sizes w.roots (h.inputs + length w.nexts) (pairs_of w.gates) ≡ file_of (file_in w)
  its_parts h e = ap (λ (x : Header). parts_of x w.nexts w.resets w.sizes w.roots (x.inputs + length w.nexts) (pairs_of w.gates)) e

  -- and its bytes end at a place of 64 bits
  pub file_ends : length (file_of (file_in w)) ≤ last
  file_ends =
      file_short (header_for (file_in w)) w.nexts w.resets w.sizes w.roots (w.inputs + length w.nexts) (pairs_of w.gates)
      (omega (arith, few.0)) g.sets g.ordered.few (omega (arith, few.0, pairs_length w.gates))

-- a file of either form, and its parts in a row as they are put
module _ {file parts : List ℕ} (same : parts ≡ file) where
  -- the place after all of it is its length
  pub measured : length file ≤ last → (n : ℕ) → n ≡ further 0 (length parts) → n ≡ length file
  measured ends n m = m ∙ ap (λ (l : List ℕ). further 0 (length l)) same ∙ omega (arith, ends)

  -- nothing is put into no bytes
  pub none_put : (out : List ℕ) → out ≡ put_all [] 0 parts → out ≡ []
  none_put out e = e ∙ put_all_past [] 0 parts (omega arith)

  pub too_short : (out : List ℕ) (n : ℕ) → n ≡ length file → length out < n → wrote (unwritten Short n) out ≡ written_to file out
  too_short out n e h = rw (lt-ltb (length out) (length file) (omega (arith, e, h))) (ap (λ (k : ℕ). wrote (unwritten Short k) out) e)

  -- the bytes that fit are put, after nothing was
  pub whole : (none out out' : List ℕ) (n : ℕ) → n ≡ length file → n ≤ length out → none ≡ [] → out' ≡ put_all (none ++ out) 0 parts
      → wrote (Ok n) out' ≡ written_to file out
  whole none out out' n m fits nothing put =
      let there : out' ≡ onto file out
      = put ∙ ap (λ (x : List ℕ). put_all (x ++ out) 0 parts) nothing ∙ ap (put_all out 0) same ∙ put_onto out file (omega (arith, m, fits)) in
      rw (le-ltb (length out) (length file) (omega (arith, m, fits))) (ap₂ (λ (k : ℕ) (l : List ℕ). wrote (Ok k) l) m there)
