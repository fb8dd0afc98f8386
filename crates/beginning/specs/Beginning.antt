-- What stands in the lent lists when the walks begin, whatever is lent. Assumes nothing.
use Rattle.std.specs.Prelude.{ℕ, ◌+◌, ◌*◌, ◌/◌, cond, ◌||◌, List, ◌++◌, ltb, length, take, drop, Err}
use Rattle.circuit.specs.declared.Refusal.TheVariants.{Short}
use Rattle.circuit.specs.Outcome.{gates_of, zeros, onto}
use Rattle.checks.specs.Checks.{Check}
use Rattle.images.specs.Begin.{begun}
use Rattle.defs.specs.Define.{Judged, define_all}

-- what checks 5 and 6 say, and the three lists
pub record Ready : Type 0 where
  pub said : Check
  pub map : List ℕ
  pub out : List ℕ
  pub scratch : List ℕ

abbrev pub ready_of : Check → List ℕ → List ℕ → List ℕ → Ready
ready_of said map out scratch = record { said = said; map = map; out = out; scratch = scratch }

-- the scratch, clean as far as it is named: three words a variable, and three a gate
abbrev pub cleaned : ℕ → List ℕ → List ℕ → List ℕ
cleaned n gates scratch = onto (zeros (3 * n + 3 * (length gates / 3))) scratch

-- the map at the start in the first n words of the map, zeros for the gates, and the table of definitions in the first n words of the scratch
abbrev pub with_table : ℕ → Judged → List ℕ → List ℕ → List ℕ → List ℕ → List ℕ → List ℕ → Ready
with_table n J inputs states gates map out scratch =
    ready_of J.said (begun (take n map) inputs states ++ drop n map) (onto (zeros (2 * (length gates / 3))) out)
    (J.words ++ drop n (cleaned n gates scratch))

-- the whole, where the largest variable is `top`
unfoldable pub prepared : ℕ → List ℕ → List ℕ → List ℕ → List ℕ → List ℕ → List ℕ → Ready
prepared top inputs states gates map out scratch =
    cond (ltb (length map) (top + 1) || ltb (length scratch) (top + 1)) (ready_of (Err Short) map out scratch)
    (with_table (top + 1) (define_all (take (top + 1) (cleaned (top + 1) gates scratch)) inputs states (gates_of gates)) inputs states gates map out scratch)
