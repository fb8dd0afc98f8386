-- Files that ask the same have the same verdicts: literals with one bit each, and the same, have the same bits; so a run of the one is a run of the other, and
-- what holds along it holds there. Each verdict is carried one way, and the other way by the symmetry of the questions. Assumes nothing.
use Prim.Native.Nat.{ℕ, suc, ◌<◌}
use mathlib.Core.Path.{ap, subst⁻¹}
use mathlib.Core.Logic.{◌↔◌}
use mathlib.Core.Bool.{Bool, true}
use Rattle.std.specs.Prelude.{Option}
use mathlib.Core.List.{List}
use native.Mathlib.Omega.{arith}
use lib.ListN.{length, get_or}
use Rattle.circuit.specs.Graph.{Graph, Means}
use Rattle.circuit.specs.Claims.{SameValue}
use Rattle.binary.specs.File.{File}
use Rattle.runs.specs.Runs.{constraints_of, fairness_of, set_of, nexts_of, graph_of, Bits, setting, Has, Allows, Run, AllHold, AgainAndAgain, Reaches, Meets}
use Rattle.runs.specs.Carries.{Alike, SameQuestions, SameBits, SameVerdicts}
use Rattle.runs.proofs.Symmetry.{questions_back}

-- literals of one value mean the same bits
one_value : {G H : Graph} {given : ℕ → Bool} {c t : ℕ} → SameValue G H given c t → (b : Bool) → Means G given c b ↔ Means H given t b
one_value {G} {H} {given} {c} {t} v b = (
  λ m. subst⁻¹ (Means H given t) (v.only_here b m) v.there,
  λ m. subst⁻¹ (Means G given c) (v.only_there b m) v.here,
)

module _ (f d : File) (q : SameQuestions f d) where
  -- the law on lists: where they are alike, their literals have the same bits at every step
  bits : (cs ds : List ℕ) → Alike f d cs ds → SameBits f d cs ds
  bits cs ds a inputs latches j h b =
      subst⁻¹ (λ (n : ℕ). Has f inputs latches (get_or cs j 0) b ↔ Means (graph_of d) (setting n inputs latches) (get_or ds j 0) b) q.inputs
      (one_value (a.values (setting f.ordered.inputs inputs latches) j h) b)

  -- from f to d, whatever is said of a list place by place: a bit, that all are 1, that each is 1 again and again
  has : (cs ds : List ℕ) → Alike f d cs ds → (inputs latches : Bits) (j : ℕ) → j < length cs → (b : Bool) → Has f inputs latches (get_or cs j 0) b
      → Has d inputs latches (get_or ds j 0) b
  has cs ds a inputs latches j h b = (bits cs ds a inputs latches j h b).0

  hold : (cs ds : List ℕ) → Alike f d cs ds → (inputs latches : Bits) → AllHold f inputs latches cs → AllHold d inputs latches ds
  hold cs ds a inputs latches all j h = let h' : j < length cs = omega (arith, a.count) in has cs ds a inputs latches j h' true (all j h')

  again : (cs ds : List ℕ) → Alike f d cs ds → (inputs latches : ℕ → Bits) → AgainAndAgain f inputs latches cs → AgainAndAgain d inputs latches ds
  again cs ds a inputs latches all j h t =
      let h' : j < length cs = omega (arith, a.count) in
      let later = all j h' t in
      (later.0, later.1, has cs ds a (inputs later.0) (latches later.0) j h' true later.2)

  -- a run begins and goes on in d as in f
  run : (inputs latches : ℕ → Bits) → Run f inputs latches → Run d inputs latches
  run inputs latches r =
      record {
        begins = λ j h.
            let h' : j < length (nexts_of f) = omega (arith, q.nexts.count) in
            subst⁻¹ (λ (v : Option Bool). Allows v (latches 0 j)) (q.firsts j h') (r.begins j h');
        goes_on = λ t j h.
            let h' : j < length (nexts_of f) = omega (arith, q.nexts.count) in
            has (nexts_of f) (nexts_of d) q.nexts (inputs t) (latches t) j h' (latches (suc t) j) (r.goes_on t j h');
      }

  -- the same run shows in d what it shows in f
  reaches : (cs ds : List ℕ) → Alike f d cs ds → (i k : ℕ) → Reaches f cs i k → Reaches d ds i k
  reaches cs ds a i k r =
      record {
        inputs = r.inputs;
        latches = r.latches;
        run = run r.inputs r.latches r.run;
        step = r.step;
        soon = r.soon;
        is_there = omega (arith, r.is_there, a.count);
        bad = has cs ds a (r.inputs r.step) (r.latches r.step) i r.is_there true r.bad;
        constrained = λ t h. hold (constraints_of f) (constraints_of d) q.constraints (r.inputs t) (r.latches t) (r.constrained t h);
      }

  sets_again : (s : ℕ) (inputs latches : ℕ → Bits) → AgainAndAgain f inputs latches (set_of f s) → AgainAndAgain d inputs latches (set_of d s)
  sets_again s = again (set_of f s) (set_of d s) (q.sets s)

  fair_again : (inputs latches : ℕ → Bits) → AgainAndAgain f inputs latches (fairness_of f) → AgainAndAgain d inputs latches (fairness_of d)
  fair_again = again (fairness_of f) (fairness_of d) q.fairness

  meets : (s : ℕ) (inputs latches : ℕ → Bits) → Meets f s inputs latches → Meets d s inputs latches
  meets s inputs latches m =
      record {
        run = run inputs latches m.run;
        is_set = omega (arith, m.is_set, ap length q.sizes);
        justice = sets_again s inputs latches m.justice;
        fairness = fair_again inputs latches m.fairness;
        constrained = λ t. hold (constraints_of f) (constraints_of d) q.constraints (inputs t) (latches t) (m.constrained t);
      }

-- both ways
pub same_verdicts : (f d : File) → SameQuestions f d → SameVerdicts f d
same_verdicts f d q =
    let p = questions_back f d q in
    record {
      runs = λ inputs latches. (run f d q inputs latches, run d f p inputs latches);
      outputs = bits f d q _ _ q.outputs;
      bad_states = bits f d q _ _ q.bad_states;
      constraints = bits f d q _ _ q.constraints;
      fairness = bits f d q _ _ q.fairness;
      justice = bits f d q _ _ q.justice;
      reaches = λ i k. (reaches f d q _ _ q.bad_states i k, reaches d f p _ _ p.bad_states i k);
      reaches_outputs = λ i k. (reaches f d q _ _ q.outputs i k, reaches d f p _ _ p.outputs i k);
      again = λ s inputs latches. (
        λ a. (sets_again f d q s inputs latches a.0, fair_again f d q inputs latches a.1),
        λ a. (sets_again d f p s inputs latches a.0, fair_again d f p inputs latches a.1),
      );
      meets = λ s inputs latches. (meets f d q s inputs latches, meets d f p s inputs latches);
    }
