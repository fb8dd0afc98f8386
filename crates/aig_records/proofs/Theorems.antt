-- What renumbering with gate records promises, in the words of a caller: it is renumbering of the records laid flat, the last lent list is left or
-- cleared, and the
-- contract determines the answer and all seven lists. Assumes nothing.
use Rattle.std.specs.Prelude.{Err}
use Prim.Native.Nat.{ℕ, ◌<◌, ◌≤◌}
use mathlib.Core.Path.{◌≡◌, refl, sym, ap, subst⁻¹, ◌∙◌}
use mathlib.Core.Bool.{Bool, true, false, not, cond, ◌&&◌}
use mathlib.Core.List.{List, [], ◌∷◌}
use lib.ListN.{length}
use borrow.Author.Tests.{le-ltb, lt-ltb}
use seplogic.Ra.Ura.{Ura}
use prog.Memory.{Memory}
use prog.Routine.{Routine}
use types.Logic.{Logic}
use base.Logic.{SProp, ent}
use contract.Lifetimes.{Lfts}
use contract.Monad.{Fun, conj, conj_l, conj_r, fact, fact_i, fact_use}
use denote.Triple.Clauses.{AtExit}
use denote.Triple.Entry.{Res}
use Rattle.lit.specs.Code.{literal}
use Rattle.circuit.specs.declared.Refusal.{Refusal}
use Rattle.circuit.specs.declared.Refusal.TheVariants.{Short}
use Rattle.circuit.specs.Outcome.{Lent, circuit_of, too_big, misshapen, onto, zeros, untouched, is_early, outcome, outcome_of}
use Rattle.circuit.specs.Claims.{Passes}
use Rattle.circuit.specs.Demands.{Demands}
use Rattle.circuit.proofs.Demands.{demands}
use Rattle.circuit.proofs.Refusing.{tested}
use Rattle.circuit.proofs.Outcome.{refusal_from}
use Rattle.aig_records.specs.Records.{flat_of}
use Rattle.aig_records.specs.Outcome.{FlatOutcome, with_flat, flat_short, flat_after, outcome_of_records}
use Rattle.circuit.specs.Passed.{left_in}
use Rattle.aig_records.specs.Determined.{DeterminesSeen}
use Rattle.aig_records.proofs.Joined.{early, cleared-after}
use Rattle.aig_records.specs.contracts.renumber_records as entry

-- a record's codes stand output, first, second
pub laid_in_order : flat_of (record { output = literal 6; first = literal 2; second = literal 4 }
    ∷ record { output = literal 8; first = literal 7; second = literal 3 } ∷ []) ≡ 6 ∷ 2 ∷ 4 ∷ 8 ∷ 7 ∷ 3 ∷ []
laid_in_order = refl

and_no : (b : Bool) → b && false ≡ false
and_no true = refl
and_no false = refl

module _ (l : Lent) (flat : List ℕ) where
  -- the last list has room: the answer and the six lists are those of the flat entry
  enough : length l.gates ≤ length flat → flat_short l flat ≡ false
  unfolding flat_short
  enough h =
      ap (λ (b : Bool). not (too_big (circuit_of l)) && not (misshapen l) && b) (le-ltb (length flat) (length l.gates) h)
      ∙ and_no (not (too_big (circuit_of l)) && not (misshapen l))

  with_room : length l.gates ≤ length flat → outcome_of_records l flat ≡ with_flat (outcome l) (flat_after l (outcome l).answer flat)
  unfolding outcome_of_records
  with_room h = ap (λ (b : Bool). cond b (with_flat (untouched l Short) flat) (with_flat (outcome l) (flat_after l (outcome l).answer flat))) (enough h)

  pub as_flat : length l.gates ≤ length flat → (outcome_of_records l flat).outcome ≡ outcome l
  as_flat h = ap (λ (o : FlatOutcome). o.outcome) (with_room h)

  -- it has not, and 1 and 2 pass: 3, and nothing is written
  pub short_of_room : too_big (circuit_of l) ≡ false → misshapen l ≡ false → length flat < length l.gates
      → outcome_of_records l flat ≡ with_flat (untouched l Short) flat
  unfolding outcome_of_records flat_short
  short_of_room p q h = rw (p, q, lt-ltb (length flat) (length l.gates) h)

  -- 1 to 4 and 22 write nothing, the last list included
  pub early_untouched : length l.gates ≤ length flat → (r : Refusal) → is_early r ≡ true → (outcome l).answer ≡ Err r
      → outcome_of_records l flat ≡ with_flat (untouched l r) flat
  early_untouched h r n e = with_room h ∙ early l flat r n (refusal_from l r e)

  -- where they pass, the words that the records took are 0 afterwards, and the others are kept
  pub cleared_where_passed : Passes l → length l.gates ≤ length flat → (outcome_of_records l flat).flat ≡ onto (zeros (length l.gates)) flat
  cleared_where_passed p h = ap (λ (o : FlatOutcome). o.flat) (with_room h) ∙ cleared-after l flat (tested l p)

  -- the six lists and the answer are all that the customer demands, of the records laid flat
  pub records_demands : length l.gates ≤ length flat → Demands l (circuit_of l) (outcome_of_records l flat).outcome
  records_demands h = subst⁻¹ (Demands l (circuit_of l)) (ap (λ (o : FlatOutcome). o.outcome) (with_room h)) (demands l)

-- two that equal the same are equal
both_equal : {M : Type 1} (𝓤 : Ura M) {D : Type 0} (x y v : D) → ent 𝓤 (conj 𝓤 (fact 𝓤 (x ≡ v)) (fact 𝓤 (y ≡ v))) (fact 𝓤 (x ≡ y))
both_equal 𝓤 x y v =
    fact_use 𝓤 (x ≡ v) (conj_l 𝓤 (fact 𝓤 (x ≡ v)) (fact 𝓤 (y ≡ v)))
    (λ p. fact_use 𝓤 (y ≡ v) (conj_r 𝓤 (fact 𝓤 (x ≡ v)) (fact 𝓤 (y ≡ v)))
    (λ q. fact_i 𝓤 (x ≡ y) (conj 𝓤 (fact 𝓤 (x ≡ v)) (fact 𝓤 (y ≡ v))) (p ∙ sym q)))

-- the answer and all seven lists, as a caller sees them
abbrev seen : (κs : Lfts 4) → Res entry.signature κs → AtExit entry.ended κs → FlatOutcome
seen κs r e = with_flat (left_in r e.1.1.0) e.1.1.1.0.now

pub renumber_records_determined : {M : Type 1} {𝓤 : Ura M} (𝓛 : Logic 𝓤) (mem : Memory → SProp 𝓤) (run : Routine → Fun 𝓤)
    → DeterminesSeen 𝓤 entry.ended (entry.clauses 𝓛 mem run) seen
renumber_records_determined {𝓤 = 𝓤} 𝓛 mem run κs a g x y e f = both_equal 𝓤 (seen κs x e) (seen κs y f) _
