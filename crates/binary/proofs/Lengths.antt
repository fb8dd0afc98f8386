-- How long a file is at most: a line has 21 bytes or fewer, a latch's 42, a gate sixteen, so that every place in it is one of 64 bits. Assumes nothing.
use Prim.Native.Nat.{ℕ, zero, suc, ◌+◌, ◌-◌, ◌*◌, ◌/◌, ◌%◌, ◌≤◌}
use mathlib.Core.Bool.{Bool, true, false, cond}
use mathlib.Core.List.{List, [], ◌∷◌, ◌++◌}
use native.Mathlib.Omega.{arith}
use lib.Dec.{ltb}
use lib.ListN.{length, take, drop, length-append, length-take, length-drop}
use Rattle.place.specs.Place.{last}
use Rattle.token.specs.Format.{digits_up_to, digits_of, groups_up_to, shortest}
use Rattle.token.proofs.Shortest.{groups_few}
use Rattle.circuit.specs.Walk.{Pair, first_code}
use Rattle.circuit.specs.Outcome.{limit}
use Rattle.lines.specs.declared.Header.{Header}
use Rattle.lines.specs.Sections.{roots_of}
use Rattle.sections.specs.Bytes.{row_bytes, line_bytes, lines_bytes, count_bytes, counts_bytes, counts_of, after_tag, header_bytes, roots_bytes, latch_bytes, latches_bytes}
use Rattle.sections.proofs.Parts.{kept_few, latch_most}
use Rattle.binary.specs.File.{tag}
use Rattle.binary.specs.Write.{gates_bytes, parts_of}

digits_few : (k v : ℕ) → length (digits_up_to k v) ≤ suc k
digits_few zero v = omega arith
digits_few (suc k) v = go (ltb v 10) (digits_few k (v / 10))
  where
    go : (b : Bool) → length (digits_up_to k (v / 10)) ≤ suc k
        → length (cond b ((48 + v) ∷ []) (digits_up_to k (v / 10) ++ ((48 + v % 10) ∷ []))) ≤ suc (suc k)
    go true h = omega arith
    go false h = omega (arith, length-append (digits_up_to k (v / 10)) ((48 + v % 10) ∷ []))

line_short : (v : ℕ) → length (line_bytes v) ≤ 21
unfolding line_bytes digits_of
line_short v = omega (arith, length-append (digits_up_to 19 v) (10 ∷ []), digits_few 19 v)

count_short : (v : ℕ) → length (count_bytes v) ≤ 21
unfolding count_bytes digits_of
count_short v = omega (arith, digits_few 19 v)

row_short : (each : ℕ → List ℕ) → ((v : ℕ) → length (each v) ≤ 21) → (vs : List ℕ) → length (row_bytes each vs) ≤ 21 * length vs
row_short each short [] = omega arith
row_short each short (v ∷ vs) = omega (arith, length-append (each v) (row_bytes each vs), short v, row_short each short vs)

header_short : (h : Header) → length (header_bytes tag h) ≤ 193
unfolding after_tag
header_short h =
    omega (
      arith,
      length-append tag (counts_bytes (counts_of h) ++ (10 ∷ [])),
      length-append (counts_bytes (counts_of h)) (10 ∷ []),
      row_short count_bytes count_short (counts_of h),
      kept_few h,
    )

latches_short : (ns rs : List ℕ) → length (latches_bytes ns rs) ≤ 42 * length ns
unfolding digits_of
latches_short [] rs = omega arith
latches_short (n ∷ ns) [] = omega arith
latches_short (n ∷ ns) (r ∷ rs) =
    omega (arith, length-append (latch_bytes n r) (latches_bytes ns rs), latch_most n r, digits_few 19 n, digits_few 19 r, latches_short ns rs)

roots_short : (h : Header) (sizes roots : List ℕ) → length (roots_bytes h (roots_of sizes roots)) ≤ 21 * (length sizes + 3 * length roots)
unfolding roots_bytes
roots_short h sizes roots =
    let n = h.outputs + h.bad + h.constraints in
    let a = lines_bytes (take n roots) in
    let b = lines_bytes sizes in
    let c = lines_bytes (drop (n + h.fairness) roots) in
    let d = lines_bytes (take h.fairness (drop n roots)) in
    omega (
      arith,
      length-append a (b ++ (c ++ d)),
      length-append b (c ++ d),
      length-append c d,
      row_short line_bytes line_short (take n roots),
      row_short line_bytes line_short sizes,
      row_short line_bytes line_short (drop (n + h.fairness) roots),
      row_short line_bytes line_short (take h.fairness (drop n roots)),
      length-take n roots,
      length-drop (n + h.fairness) roots,
      length-take h.fairness (drop n roots),
      length-drop n roots,
    )

gates_short : (t : ℕ) (gs : List Pair) → length (gates_bytes t gs) ≤ 16 * length gs
unfolding shortest
gates_short t [] = omega arith
gates_short t (p ∷ ps) =
    let x = groups_up_to 7 (t - p.larger) in
    let y = groups_up_to 7 (p.larger - p.smaller) in
    omega (
      arith,
      length-append (x ++ y) (gates_bytes (t + 2) ps),
      length-append x y,
      groups_few 7 (t - p.larger),
      groups_few 7 (p.larger - p.smaller),
      gates_short (t + 2) ps,
    )

-- a file within the limits ends at a place of 64 bits
pub file_short : (h : Header) (nexts resets sizes roots : List ℕ) (n : ℕ) (gates : List Pair) → length nexts ≤ limit → length sizes ≤ limit → length roots ≤ limit
    → length gates ≤ limit → length (parts_of h nexts resets sizes roots n gates) ≤ last
unfolding parts_of
file_short h nexts resets sizes roots n gates i j k l =
    let a = header_bytes tag h in
    let b = latches_bytes nexts resets in
    let c = roots_bytes h (roots_of sizes roots) in
    let d = gates_bytes (first_code n) gates in
    omega (
      arith,
      length-append a (b ++ (c ++ d)),
      length-append b (c ++ d),
      length-append c d,
      header_short h,
      latches_short nexts resets,
      roots_short h sizes roots,
      gates_short (first_code n) gates,
    )
