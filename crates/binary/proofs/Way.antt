-- The whole way: what is read is a well ordered circuit, what is lent of it is that circuit, and renumbering takes it and keeps its values. Assumes
-- nothing.
use Prim.Native.Nat.{ℕ, ◌*◌}
use mathlib.Core.Path.{◌≡◌, refl, sym, ap, subst⁻¹, subst}
use mathlib.Core.List.{List}
use native.Mathlib.Omega.{arith}
use lib.ListN.{length}
use Rattle.circuit.specs.Outcome as C
use Rattle.circuit.specs.Outcome.{Lent, circuit_of, total, pair_words}
use Rattle.circuit.specs.Claims.{Roomy}
use Rattle.circuit.proofs.Outcome.{onto-take}
use Rattle.lines.specs.Reading.{Read, got, no}
use Rattle.ordered.specs.Expand as E
use Rattle.ordered.proofs.Laid.{words_length}
use Rattle.ordered.proofs.Theorems as ordered
use Rattle.binary.specs.File.{File, read_file}
use Rattle.binary.specs.Promise.{room_of, numbers, Outcome, left, outcome}
use Rattle.binary.specs.Known.{Known}
use Rattle.binary.specs.Way.{Lending, expanded, handed, Enough, Arrives, End, refused, ordered}
use Rattle.binary.proofs.Known.{read_known}

-- of a file that was read
module _ (bytes : List ℕ) (f : File) (used : ℕ) (g : Lending) (known : Known bytes (room_of g.file) f)
    (enough : Enough (numbers (left (got f used) g.file).read) g) where
  abbrev r : Outcome
  r = left (got f used) g.file

  abbrev x : E.Outcome
  x = expanded r g

  abbrev l : Lent
  l = handed r x g

  counts : total f.ordered.counts ≡ length f.ordered.roots
  counts = known.well_ordered.counts

  -- what is handed over is the circuit of the file
  lends : E.Lends f.ordered g.trim g.hash g.fold x.lists l
  lends =
      record {
        circuit = refl;
        inputs = refl;
        states = refl;
        nexts = onto-take f.ordered.nexts g.file.nexts (length f.ordered.nexts) refl known.nexts_fit;
        resets =
            onto-take f.ordered.resets g.file.resets (length f.ordered.nexts) (sym known.well_ordered.reset_count)
            (omega (arith, known.well_ordered.reset_count, known.resets_fit));
        gates = refl;
        roots = onto-take f.ordered.roots g.file.roots (total f.ordered.counts) (sym counts) (omega (arith, counts, known.roots_fit));
      }

  -- its gates are expanded from the words that reading left
  expands : x ≡ E.expansion f.ordered.inputs (length f.ordered.nexts) (pair_words f.ordered.gates) g.codes
  expands =
      ap (λ (ws : List ℕ). E.expansion f.ordered.inputs (length f.ordered.nexts) ws g.codes)
      (onto-take (pair_words f.ordered.gates) g.file.gates (2 * length f.ordered.gates) (words_length f.ordered.gates) known.gates_fit)

  filled : x.answer ≡ E.expanded
  filled =
      subst⁻¹ (λ (o : E.Outcome). o.answer ≡ E.expanded) expands
      (ordered.fills f.ordered known.well_ordered g.codes enough.inputs enough.states enough.triples)

  -- the lists that renumbering writes are long enough
  roomy : Roomy l (circuit_of l)
  roomy =
      ordered.long_enough_lem f.ordered known.well_ordered g.trim g.hash g.fold g.codes x expands filled l lends
      enough.map enough.nexts enough.resets (omega (arith, counts, enough.roots)) enough.gates enough.scratch

  arrives : Arrives f.ordered l
  arrives =
      let O = f.ordered in
      let w = known.well_ordered in
      let done = ordered.always_renumbers O w g.trim g.hash g.fold g.codes x expands filled l lends roomy in
      record {
        summary = done.0;
        renumbered = done.1;
        no_more = ordered.no_more_gates O w g.trim g.hash g.fold g.codes x expands filled l lends (C.outcome l) refl done.0 done.1;
        in_order = ordered.result_in_order O w g.trim g.hash g.fold g.codes x expands filled l lends (C.outcome l) refl done.0 done.1;
        keeps = ordered.values_kept O w g.trim g.hash g.fold g.codes x expands filled l lends (C.outcome l) refl done.0 done.1;
      }

pub two_ends : (bytes : List ℕ) (g : Lending) → Enough (numbers (outcome bytes g.file).read) g → End bytes g
two_ends bytes g enough = go (read_file bytes (room_of g.file)) refl
  where
    go : (R : Read File) → read_file bytes (room_of g.file) ≡ R → End bytes g
    go (no why place) e = refused why place (ap (λ (R : Read File). left R g.file) e)
    go (got f used) e =
        let holds : outcome bytes g.file ≡ left (got f used) g.file = ap (λ (R : Read File). left R g.file) e in
        ordered f used e
        (subst⁻¹ (λ (o : Outcome). Arrives f.ordered (handed o (expanded o g) g)) holds
        (arrives bytes f used g (read_known bytes (room_of g.file) f used e) (subst (λ (o : Outcome). Enough (numbers o.read) g) holds enough)))
