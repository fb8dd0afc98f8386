-- What is proved of files and what a solver is asked of them: nothing is cut or bent from a file to one that keeps its values, its verdicts are the same, and
-- there are runs to speak of. Assumes nothing.
use Prim.Native.Nat.{ℕ, ◌<◌}
use mathlib.Core.Path.{◌≡◌}
use lib.ListN.{length, get_or}
use Rattle.circuit.specs.Claims.{first_value}
use Rattle.ordered.specs.Keeps.{Keeps}
use Rattle.ordered.specs.WellOrdered.{WellOrdered}
use Rattle.binary.specs.File.{File}
use Rattle.runs.specs.Runs.{nexts_of, Bits, Allows}
use Rattle.runs.specs.Carries.{SameQuestions, SameVerdicts, Runs}
use Rattle.runs.proofs.Questions as questions
use Rattle.runs.proofs.Symmetry as symmetry
use Rattle.runs.proofs.Verdicts as verdicts
use Rattle.runs.proofs.Existence as existence

-- a file with the inputs, counts and sizes of another, whose circuit keeps the values of the other's, asks what that one asks, kind by kind and set by set
pub same_questions : (f d : File) → d.ordered.inputs ≡ f.ordered.inputs → d.ordered.counts ≡ f.ordered.counts → d.sizes ≡ f.sizes
    → Keeps f.ordered d.ordered → SameQuestions f d
same_questions = questions.same_questions

-- and then the other asks what it asks
pub questions_back : (f d : File) → SameQuestions f d → SameQuestions d f
questions_back = symmetry.questions_back

-- files that ask the same have the same runs, and the verdicts on them are the same
pub same_verdicts : (f d : File) → SameQuestions f d → SameVerdicts f d
same_verdicts = verdicts.same_verdicts

-- a file whose circuit is well ordered has, with all inputs, one run from each first state that its resets allow
pub runs_exist : (f : File) → WellOrdered f.ordered → (inputs : ℕ → Bits) (first : Bits)
    → ((j : ℕ) → j < length (nexts_of f) → Allows (first_value (get_or f.ordered.resets j 0)) (first j)) → Runs f inputs first
runs_exist = existence.runs_exist
