-- Where d asks what f asks, f asks what d asks: to be as many, and to have the same value, is symmetric. Assumes nothing.
use Prim.Native.Nat.{ℕ}
use mathlib.Core.Path.{sym}
use mathlib.Core.Bool.{Bool}
use mathlib.Core.List.{List}
use native.Mathlib.Omega.{arith}
use Rattle.circuit.specs.Graph.{Graph}
use Rattle.circuit.specs.Claims.{SameValue}
use Rattle.binary.specs.File.{File}
use Rattle.runs.specs.Carries.{Alike, SameQuestions}

-- of two literals
value_back : {G H : Graph} {given : ℕ → Bool} {c t : ℕ} → SameValue G H given c t → SameValue H G given t c
value_back v = record { bit = v.bit; here = v.there; there = v.here; only_here = v.only_there; only_there = v.only_here }

-- of two lists of literals
alike_back : (f d : File) (cs ds : List ℕ) → Alike f d cs ds → Alike d f ds cs
alike_back f d cs ds a = record { count = sym a.count; values = λ given j h. value_back (a.values given j (omega (arith, a.count))) }

-- of two files
pub questions_back : (f d : File) → SameQuestions f d → SameQuestions d f
questions_back f d q =
    record {
      inputs = sym q.inputs;
      nexts = alike_back f d _ _ q.nexts;
      outputs = alike_back f d _ _ q.outputs;
      bad_states = alike_back f d _ _ q.bad_states;
      constraints = alike_back f d _ _ q.constraints;
      fairness = alike_back f d _ _ q.fairness;
      justice = alike_back f d _ _ q.justice;
      sizes = sym q.sizes;
      sets = λ s. alike_back f d _ _ (q.sets s);
      firsts = λ j h. sym (q.firsts j (omega (arith, q.nexts.count)));
    }
