-- Whatever the answer, lent lists keep their lengths, and their cells past those named: what is written onto a list's front is as long as check 3 asks.
-- Assumes nothing.
use Prim.Native.Nat.{ℕ, ◌*◌, ◌-◌, ◌≤◌}
use mathlib.Core.Path.{◌≡◌, refl, sym, ◌∙◌}
use mathlib.Core.List.{List, ◌++◌}
use native.Mathlib.Omega.{arith}
use lib.ListN.{length, replicate, length-append, length-map, length-replicate, get_or-replicate}
use Rattle.circuit.specs.declared.Refusal.{Refusal}
use Rattle.circuit.specs.declared.Refusal.TheVariants.{TooBig, Misshapen, Short, Over, Reset, Again, StateAgain, Undefined, Cycle}
use Rattle.circuit.specs.Map.{no_image, image_in, code_of}
use Rattle.circuit.specs.Walk.{Work, Out, reached, stopped}
use Rattle.circuit.specs.Circuit.{Circuit}
use Rattle.circuit.specs.Ordered.{images_in, carried_from, first_latch, ordered_of}
use Rattle.circuit.specs.Outcome.{Lent, circuit_of, map_words, scratch_words, onto, zeros, pair_words, conclusion, written, cleared, untouched, after, outcome}
use Rattle.circuit.specs.Claims.{Roomy, Keeps, KeepsPast, Filled}
use Rattle.circuit.specs.Tested.{Fits}
use Rattle.circuit.proofs.Settled.{settled_le}
use Rattle.circuit.proofs.Renumber.{Done}
use Rattle.circuit.proofs.Words.{pairs_length}
use Rattle.circuit.proofs.Carried.{carried-length}
use Rattle.circuit.proofs.Outcome.{WhyLent, agrees, roomy, Concluded, concluded, onto-length, onto_at, onto_past}

same : (n : ℕ) (lent : List ℕ) → Keeps n lent lent
same n lent = (refl, λ i h. refl)

onto_keeps : (ws lent : List ℕ) (n : ℕ) → length ws ≡ n → n ≤ length lent → Keeps n lent (onto ws lent)
onto_keeps ws lent n e h = (onto-length ws lent, λ i k. onto_past ws lent i 0 (omega arith) (omega arith))

-- and with one word in all of it
pub filled : (n word : ℕ) (lent : List ℕ) → n ≤ length lent → Keeps n lent (onto (replicate n word) lent) → Filled n word lent (onto (replicate n word) lent)
filled n word lent h k =
    record {
      enough = omega (arith, k.0);
      front =
          λ i j. onto_at (replicate n word) lent i 0 (omega (arith, length-replicate n word)) (omega (arith, length-replicate n word))
          ∙ get_or-replicate n i word 0 j;
      past = k;
    }

module _ (l : Lent) where
  abbrev C : Circuit
  C = circuit_of l

  after_early : (r : Refusal) → KeepsPast l C (untouched l r)
  after_early r =
      record {
        map = same (map_words C) l.map;
        nexts = same (length C.states) l.next_images;
        resets = same (length C.states) l.reset_images;
        roots = same (length C.roots) l.root_images;
        gates = same (2 * length C.gates) l.gates_out;
        scratch = same (scratch_words C) l.scratch;
      }

  module _ (f : Fits l) where
    abbrev room : Roomy l C
    room = roomy l f.three

    zeros_keep : (n : ℕ) (lent : List ℕ) → n ≤ length lent → Keeps n lent (onto (zeros n) lent)
    zeros_keep n lent h = onto_keeps (zeros n) lent n (length-replicate n 0) h

    after_late : (r : Refusal) → KeepsPast l C (cleared l C r)
    after_late r =
        record {
          map = onto_keeps (replicate (map_words C) no_image) l.map (map_words C) (length-replicate (map_words C) no_image) room.map;
          nexts = zeros_keep (length C.states) l.next_images room.nexts;
          resets = zeros_keep (length C.states) l.reset_images room.resets;
          roots = zeros_keep (length C.roots) l.root_images room.roots;
          gates = zeros_keep (2 * length C.gates) l.gates_out room.gates;
          scratch = zeros_keep (scratch_words C) l.scratch room.scratch;
        }

    images_length : (w : Work) (cs : List ℕ) → length (images_in w.images cs) ≡ length cs
    unfolding images_in
    images_length w cs = length-map cs (λ c. code_of (image_in w.images c))

    gates_length : (w : Work) → Done C w → length (pair_words w.made ++ zeros (2 * (length C.gates - length w.made))) ≡ 2 * length C.gates
    gates_length w d =
        let rest : ℕ = 2 * (length C.gates - length w.made) in
        omega (
          arith,
          length-append (pair_words w.made) (zeros rest),
          length-replicate {A = ℕ} rest 0,
          pairs_length w.made,
          d.inv.few,
          settled_le w.images C.gates,
        )

    after-success : (w : Work) → Done C w → KeepsPast l C (written l C w.images (ordered_of C w))
    unfolding ordered_of
    after-success w d =
        record {
          map = onto_keeps w.images l.map (map_words C) d.inv.size room.map;
          nexts =
              onto_keeps (images_in w.images C.nexts) l.next_images (length C.states)
              (images_length w C.nexts ∙ sym (agrees l f.two).latches) room.nexts;
          resets =
              onto_keeps (carried_from (first_latch (length C.inputs)) C.resets) l.reset_images (length C.states)
              (carried-length (first_latch (length C.inputs)) C.resets ∙ sym (agrees l f.two).resets) room.resets;
          roots = onto_keeps (images_in w.images C.roots) l.root_images (length C.roots) (images_length w C.roots) room.roots;
          gates =
              onto_keeps (pair_words w.made ++ zeros (2 * (length C.gates - length w.made))) l.gates_out (2 * length C.gates)
              (gates_length w d) room.gates;
          scratch = zeros_keep (scratch_words C) l.scratch room.scratch;
        }

  after-refusal : (r : Refusal) → WhyLent l r → KeepsPast l C (after l (stopped r))
  unfolding after
  after-refusal TooBig k = after_early TooBig
  after-refusal Misshapen k = after_early Misshapen
  after-refusal Short k = after_early Short
  after-refusal (Over d) k = after_early (Over d)
  after-refusal (Reset d) k = after_early (Reset d)
  after-refusal (Again d) k = after_late k.0.fits (Again d)
  after-refusal (StateAgain d) k = after_late k.0.fits (StateAgain d)
  after-refusal (Undefined d) k = after_late k.0.fits (Undefined d)
  after-refusal (Cycle d) k = after_late k.0.fits (Cycle d)

  by_conclusion : (x : Out) → Concluded l x → KeepsPast l C (after l x)
  unfolding after
  by_conclusion (reached w) k = after-success k.0 w k.1
  by_conclusion (stopped r) k = after-refusal r k

  pub keeps_past : KeepsPast l C (outcome l)
  unfolding outcome
  keeps_past = by_conclusion (conclusion l) (concluded l)
