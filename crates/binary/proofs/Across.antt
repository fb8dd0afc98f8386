-- Across the file: what renumbering leaves can be written, and since it is read back as it was, all that renumbering promises of it holds of what is read, the
-- values of its literals too. Assumes nothing.
use Prim.Native.Nat.{ℕ, ◌≤◌}
use mathlib.Core.Path.{◌≡◌, sym, ap, ◌∙◌, subst}
use mathlib.Core.List.{List, ◌++◌}
use lib.ListN.{length, get_or}
use Rattle.circuit.specs.declared.Summary.{Summary}
use Rattle.std.specs.Prelude.{Ok}
use Rattle.circuit.specs.Outcome.{Lent, circuit_of, limit, total, held, outcome}
use Rattle.circuit.specs.Demands.{AfterSuccess}
use Rattle.circuit.proofs.Demands.{demands}
use Rattle.lines.specs.Reading.{got}
use Rattle.lines.proofs.Heads.{got_same}
use Rattle.ordered.proofs.Theorems.{result_well_ordered}
use Rattle.binary.specs.File.{File, Room, read_file}
use Rattle.binary.specs.Write.{file_of}
use Rattle.binary.specs.Sound.{Sound, Holds, result_with}
use Rattle.binary.proofs.Written.{reads_back_lem}

-- a file that was written is read as nothing else
pub reads_only : (room : Room) (f : File) → Sound f → Holds room f → (after : List ℕ) (g : File) (n : ℕ) → read_file (file_of f ++ after) room ≡ got g n → g ≡ f
reads_only room f k fits after g n e = got_same (sym e ∙ reads_back_lem f k room fits after)

module _ (l : Lent) (s : Summary) (renumbered : (outcome l).answer ≡ Ok s) (sizes : List ℕ) (five : length (circuit_of l).counts ≡ 5)
    (sums : total sizes ≡ get_or (circuit_of l).counts 4 0) (few : length sizes ≤ limit) where
  pub result_sound : Sound (result_with l s sizes)
  unfolding held
  result_sound = record { well_ordered = result_well_ordered l s renumbered; five = five; sizes = sums; sets = few }

  pub values_across : (room : Room) → Holds room (result_with l s sizes) → (after : List ℕ) (g : File) (n : ℕ)
      → read_file (file_of (result_with l s sizes) ++ after) room ≡ got g n → AfterSuccess l (circuit_of l) (outcome l) s g.ordered × (g.sizes ≡ sizes)
  values_across room fits after g n e =
      let back : g ≡ result_with l s sizes = reads_only room (result_with l s sizes) result_sound fits after g n e in (
        subst (AfterSuccess l (circuit_of l) (outcome l) s) (sym (ap (λ (x : File). x.ordered) back)) ((demands l).success s renumbered),
        ap (λ (x : File). x.sizes) back,
      )
