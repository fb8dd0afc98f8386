-- The customer's demands, proved of the outcome that renumbering has by definition. specs/Demands.antt says what is demanded, in the words of
-- specs/Claims.antt;
-- here is that it holds, and that words of the definition mean what they should. The theorems by computation are passed on from their files. Assumes nothing.
pub use Rattle.circuit.proofs.Starred.{starred}
pub use Rattle.circuit.proofs.Examples.{examples, lookups, numbers}
pub use Rattle.circuit.proofs.Pins.{pins, limits_pinned, fields_pinned, ordered_pinned, order_pinned, members_pinned, words_pinned, givens_pinned}
pub use Rattle.circuit.proofs.Improvements.{improvements}
pub use Rattle.circuit.proofs.Told.{told}
pub use Rattle.circuit.proofs.Deepest.{as_deep_as_can_be}
pub use Rattle.circuit.proofs.Resets.{resets_unseen, as_before, stray_exactly, reset_exactly, zeros-carried}
use Rattle.std.specs.Prelude.{Some, Ok}
use Prim.Native.Nat.{ℕ, ◌≤◌}
use mathlib.Core.Path.{◌≡◌, sym, ◌∙◌, subst⁻¹}
use mathlib.Core.Logic.{◌↔◌}
use mathlib.Core.Bool.{Bool, false}
use lib.ListN.{length, get_or}
use Rattle.circuit.specs.declared.Summary.{Summary}
use Rattle.circuit.specs.Graph.{In, Graph, DefinedOnce, Means}
use Rattle.circuit.specs.Walk.{folded}
use Rattle.circuit.specs.Circuit.{Circuit, graph, walked}
use Rattle.circuit.specs.Ordered.{Ordered, first_latch, count_from, sources_of, ordered_graph, InOrder}
use Rattle.circuit.specs.Outcome.{Lent, Outcome, circuit_of, too_big, misshapen, too_short, outcome, held}
use Rattle.circuit.specs.Claims.{Within, Agrees, Roomy, AllReset, Passes, first_value, SameValue, Folds, Holds, IsLent, IsWalked}
use Rattle.circuit.specs.Tested.{Tested}
use Rattle.circuit.specs.Demands.{Demands, AfterSuccess, NeverTooDeep}
use Rattle.circuit.proofs.Meaning.{means_one}
use Rattle.circuit.proofs.Rows.{rows_exactly}
use Rattle.circuit.proofs.Listed as L
use Rattle.circuit.proofs.Exactly.{exactly}
use Rattle.circuit.proofs.Outcome as O
use Rattle.circuit.proofs.Lengths.{keeps_past}
use Rattle.circuit.proofs.Refusing as R
use Rattle.circuit.proofs.Cells as K
use Rattle.circuit.proofs.Room as D
use Rattle.circuit.proofs.Success as S

-- any two outcomes that a contract of this form allows are equal
pub determined : (l : Lent) (o o' : Outcome) → o ≡ outcome l → o' ≡ outcome l → o ≡ o'
determined l o o' p q = p ∙ sym q

-- a literal means at most one bit where no variable is defined twice
pub one_meaning : (G : Graph) → DefinedOnce G → (given : ℕ → Bool) (c : ℕ) (b b' : Bool) → Means G given c b → Means G given c b' → b ≡ b'
one_meaning G once given c b b' p q = means_one G once given p q

-- the folding rows are document 01's
pub folding_rows : (hi lo t : ℕ) → lo ≤ hi → (folded hi lo ≡ Some t) ↔ Folds hi lo t
folding_rows = rows_exactly

module _ (l : Lent) where
  abbrev C : Circuit
  C = circuit_of l

  -- the circuit that is lent, field by field; and what is walked of it
  pub circuit_lent : IsLent l C
  circuit_lent = L.is_lent l

  pub walked_exactly : (c : ℕ) → In c (walked C) ↔ IsWalked C c
  walked_exactly = L.walked_exactly C

  -- each of checks 1 to 3 is passed exactly when sizes are within their limits, the lists agree, those lent are long enough; and all of 1 to 4 and 22
  -- exactly when besides no code of any list is over 2V + 1, and every reset is 0, 1 or its latch's own literal
  pub check_1 : (too_big C ≡ false) ↔ Within C
  check_1 = (O.within l, O.from_within l)

  pub check_2 : (misshapen l ≡ false) ↔ Agrees l
  check_2 = (O.agrees l, O.from_agrees l)

  pub check_3 : (too_short l C ≡ false) ↔ Roomy l C
  check_3 = (O.roomy l, O.from_roomy l)

  pub tests_exactly : Tested l ↔ Passes l
  tests_exactly = (R.passes l, R.tested l)

  after-success : (s : Summary) → (outcome l).answer ≡ Ok s → AfterSuccess l C (outcome l) s (held l s (outcome l))
  after-success s e =
      let from = S.success l s e in
      let sizes = S.sizes l s e in
      record {
        passes = R.passes l (S.tested l from.work from.ends);
        fills = K.fills l from.work from.ends s from.made;
        holds = subst⁻¹ (Holds l (outcome l) s) from.holds (K.holds l from.work from.ends s from.made);
        image_cells = K.image_cell l from.work from.ends;
        walked_have_images = S.walked_image l from.work from.ends;
        images_exactly = S.images_exactly_lem l from.work from.ends;
        images_keep_values =
            λ c t h given.
            subst⁻¹ (λ (O : Ordered). SameValue (graph C) (ordered_graph O) given c t.0) from.holds
            (S.same_value l from.work from.ends c t h given);
        gates_in_order = subst⁻¹ (λ (O : Ordered). InOrder (sources_of O) O.gates) from.holds (S.in_order l from.work from.ends);
        next_images = S.next_image l from.work from.ends;
        root_images = S.root_image l from.work from.ends;
        first_values = λ j h. subst⁻¹ (λ (O : Ordered). first_value (get_or O.resets j 0) ≡ first_value (get_or l.resets j 0)) from.holds
            (S.first_value_lem l from.work from.ends j h);
        resets_pass = subst⁻¹ (λ (O : Ordered). AllReset (count_from (first_latch O.inputs) (length O.nexts)) O.resets) from.holds
            (S.resets_pass_lem l from.work from.ends);
        made = sizes.0;
        made_few = sizes.1;
        top = sizes.2;
        top_few = sizes.3;
        codes_within = S.codes-within l s e;
        constant_code = S.constant_code_lem l from.work from.ends;
        source_codes = S.source_code l from.work from.ends;
        gates_ruled = K.ruled l from.work from.ends s from.made;
        gates_kept = K.kept_apart l from.work from.ends s from.made;
        gates_shared = K.shared l from.work from.ends s from.made;
        no_twins = S.twins l s e;
      }

  -- the outcome that the definition gives is all that is demanded
  pub demands : Demands l C (outcome l)
  demands =
      record {
        succeeds_exactly = λ p. exactly l (R.tested l p);
        refusals_true = R.refusals_true_lem l;
        early_or_late = R.early_or_late_lem;
        early_refusals_keep = R.early l;
        late_refusals_clear = R.late l;
        past_kept = keeps_past l;
        success = after-success;
      }

  -- where no variable is defined twice, the walk of what passes checks 1 to 4 and 22 is never too deep: with two entries a gate it ends first, by success, 7 or 8, and
  -- any more room gives the same
  pub never_too_deep : Passes l → DefinedOnce (graph C) → NeverTooDeep C
  never_too_deep p once = let t = R.tested l p in D.never_too_deep C (O.limits l t.fits) (O.bounds l t) once
