-- A file whose ordered circuit keeps another's values, with its inputs, counts and sizes, asks what that one asks: where two rows are alike place by place,
-- so is each part of them, and a kind of roots, and a justice set, is a part. Assumes nothing.
use Prim.Native.Nat.{ℕ, ◌+◌, ◌-◌, ◌<◌, min}
use mathlib.Core.Path.{◌≡◌, ap, ◌∙◌, subst⁻¹}
use mathlib.Core.List.{List}
use native.Mathlib.Omega.{arith}
use lib.ListN.{length, get_or, take, drop, length-take, length-drop}
use lib.Seq.{get_or-take, get_or-drop}
use Rattle.circuit.specs.Outcome.{total}
use Rattle.ordered.specs.Keeps.{Keeps}
use Rattle.binary.specs.File.{File}
use Rattle.runs.specs.Runs.{kind_in, justice_of}
use Rattle.runs.specs.Carries.{Alike, SameQuestions}

-- n of a row after its first k, and what stands there
part_length : (k n : ℕ) (row : List ℕ) → length (take n (drop k row)) ≡ min n (length row - k)
part_length k n row = length-take n (drop k row) ∙ ap (min n) (length-drop k row)

part_get_d : (k n : ℕ) (row : List ℕ) (j : ℕ) → j < n → get_or (take n (drop k row)) j 0 ≡ get_or row (k + j) 0
part_get_d k n row j h = get_or-take n (drop k row) j 0 h ∙ get_or-drop k row j 0

module _ (f d : File) where
  -- where two rows are alike, so are the parts of them at the same places
  part_alike : (k n : ℕ) (row row' : List ℕ) → Alike f d row row' → Alike f d (take n (drop k row)) (take n (drop k row'))
  part_alike k n row row' a =
      record {
        count = omega (arith, part_length k n row, part_length k n row', a.count);
        values = λ given j h.
            rw (part_get_d k n row j (omega (arith, part_length k n row)), part_get_d k n row' j (omega (arith, part_length k n row)))
            (a.values given (k + j) (omega (arith, part_length k n row)));
      }

  -- the law on kinds: of rows that are alike, divided by the same counts, each kind is
  kind_alike : (counts counts' row row' : List ℕ) → counts' ≡ counts → Alike f d row row' → (k : ℕ)
      → Alike f d (kind_in counts row k) (kind_in counts' row' k)
  kind_alike counts counts' row row' e a k =
      subst⁻¹ (λ (ns : List ℕ). Alike f d (kind_in counts row k) (kind_in ns row' k)) e
      (part_alike (total (take k counts)) (get_or counts k 0) row row' a)

-- the roots are one row, by five counts; the justice literals are one row, by the sizes of the sets
pub same_questions : (f d : File) → d.ordered.inputs ≡ f.ordered.inputs → d.ordered.counts ≡ f.ordered.counts → d.sizes ≡ f.sizes
    → Keeps f.ordered d.ordered → SameQuestions f d
same_questions f d inputs counts sizes keeps =
    record {
      inputs = inputs;
      nexts = record { count = keeps.latches; values = keeps.nexts };
      outputs = kind 0;
      bad_states = kind 1;
      constraints = kind 2;
      fairness = kind 3;
      justice = kind 4;
      sizes = sizes;
      sets = kind_alike f d f.sizes d.sizes (justice_of f) (justice_of d) sizes (kind 4);
      firsts = keeps.firsts;
    }
  where
    kind : (k : ℕ) → Alike f d (kind_in f.ordered.counts f.ordered.roots k) (kind_in d.ordered.counts d.ordered.roots k)
    kind =
        kind_alike f d f.ordered.counts d.ordered.counts f.ordered.roots d.ordered.roots counts
        (record { count = keeps.root_count; values = keeps.roots })
