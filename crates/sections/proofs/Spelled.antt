-- What is written spells what it is of: lines, latch lines, the header, the root section. Each part is put together as the format says.
-- Assumes nothing.
use Prim.Native.Nat.{ℕ, zero, suc, ◌+◌, ◌-◌, ◌*◌, ◌^◌, ◌≤◌, ◌<◌}
use mathlib.Core.Path.{◌≡◌, refl, sym, ap, ◌∙◌, subst}
use mathlib.Core.Bool.{Bool, true, false, cond}
use mathlib.Core.Logic.{inl, inr}
use Rattle.std.specs.Prelude.{Some, None}
use mathlib.Core.List.{List, [], ◌∷◌, ◌++◌, append-nil, append_assoc}
use native.Mathlib.Omega.{arith}
use lib.Dec.{eqb}
use lib.ListN.{length, get_or, take, drop, length-drop, length-map, take-append-drop}
use lib.Seq.{length-take-le, drop-drop}
use borrow.Author.Tests.{eqb-true}
use Rattle.token.specs.Format.{digits_of}
use Rattle.circuit.specs.Graph.{In}
use Rattle.circuit.specs.Circuit.{is_reset, first_stray}
use Rattle.circuit.specs.Ordered.{count_from}
use Rattle.circuit.specs.Outcome.{limit, total}
use Rattle.circuit.specs.Claims.{AllWithin, IsReset}
use Rattle.circuit.proofs.Checks.{is_reset_lem}
use Rattle.circuit.proofs.Lists.{In-left, In-right}
use Rattle.lines.specs.declared.Header.{Header}
use Rattle.lines.specs.Limits.{Within}
use Rattle.lines.specs.Lines.{LatchLine, latch_line, nexts_of, resets_of}
use Rattle.lines.specs.Sections.{Roots, roots_of, header_of, first_roots, root_count}
use Rattle.lines.specs.Spelling.{Both, Nothing, Row, Line, Lines, Reset, Latch, Latches, Count, Options, HeaderCounts, Properties, Sizes, Rooting}
use Rattle.sections.specs.Bytes.{row_bytes, line_bytes, lines_bytes, count_bytes, counts_bytes, kept_before, up_to_last, optional, after_tag, roots_bytes}
use Rattle.sections.specs.Bytes.{reset_bytes, latch_bytes, latches_bytes}
use Rattle.sections.specs.Claims.{Fit, latch_lines_of}
use Rattle.sections.proofs.Parts.{up_to_last_front, kept_few}

within_fit : (most : ℕ) (vs : List ℕ) → most < 2 ^ 64 → AllWithin most vs → Fit vs
within_fit most vs fits within v i = omega (arith, within v i)

-- parts in a row

pub in_a_row : {A B : Type 0} {First : A → List ℕ → Type 0} {Second : A → B → List ℕ → Type 0} {b : B} (a : A) (x y : List ℕ)
    → First a x → Second a b y → Both First Second b (x ++ y)
in_a_row a x y p q = record { middle = a; front = x; back = y; first = p; second = q; joined = refl }

-- a part, after which all is known
pub at_last : {A B : Type 0} {First : A → List ℕ → Type 0} {b : B} {x : List ℕ} (known : A → B) (a : A)
    → First a x → b ≡ known a → Both First (λ c. Nothing (known c)) b x
at_last {A} {B} {First} {b} {x} known a p e =
    record { middle = a; front = x; back = []; first = p; second = (e, refl); joined = sym (append-nil x) }

pub row_spelled : (Thing : ℕ → List ℕ → Type 0) (each : ℕ → List ℕ) (vs : List ℕ) → ((v : ℕ) → In v vs → Thing v (each v))
    → (k : ℕ) → Row (λ _. Thing) k vs (row_bytes each vs)
row_spelled Thing each [] spells k = refl
row_spelled Thing each (v ∷ vs) spells k =
    (each v, row_bytes each vs, spells v (inl refl), row_spelled Thing each vs (λ u i. spells u (inr i)) (suc k), refl)

-- lines

pub lines_spelled : (most : ℕ) (vs : List ℕ) → AllWithin most vs → Fit vs → Lines most (length vs) vs (lines_bytes vs)
unfolding line_bytes
lines_spelled most vs within fit = (refl, row_spelled (Line most) line_bytes vs (λ v i. (within v i, fit v i, refl)) 0)

-- latch lines

reset_spelled : (most own r : ℕ) → r ≤ most → r < 2 ^ 64 → IsReset own r → Reset most own r (reset_bytes r ++ (10 ∷ []))
unfolding reset_bytes
reset_spelled most own r within fits may = go (eqb r 0) refl
  where
    go : (t : Bool) → eqb r 0 ≡ t → Reset most own r (cond t [] (32 ∷ digits_of r) ++ (10 ∷ []))
    go true e = inr (at_last (λ _. 0) tt refl (eqb-true r 0 e))
    go false e = inl (in_a_row tt (32 ∷ []) (digits_of r ++ (10 ∷ [])) refl (may, (within, fits, refl)))

pub latch_spelled : (most own : ℕ) (l : LatchLine) → l.next ≤ most → l.reset ≤ most → most < 2 ^ 64 → IsReset own l.reset
    → Latch most own l (latch_bytes l.next l.reset)
unfolding latch_bytes
latch_spelled most own l low small fits may =
    in_a_row l.next (digits_of l.next) (reset_bytes l.reset ++ (10 ∷ [])) (low, omega arith, refl)
    (at_last (latch_line l.next) l.reset (reset_spelled most own l.reset small (omega arith) may) refl)

-- where no reset of a list is a stray, the first is none, and the others are not
pub passes : (own r : ℕ) (owns rs : List ℕ) → first_stray (own ∷ owns) (r ∷ rs) ≡ None → (is_reset own r ≡ true) × (first_stray owns rs ≡ None)
passes own r owns rs e = go (is_reset own r) e
  where
    go : (t : Bool) → cond t (first_stray owns rs) (Some r) ≡ None → (t ≡ true) × (first_stray owns rs ≡ None)
    go true f = (refl, f)
    go false f = absurd (let z : ◌≡◌ {A = ℕ} 0 1 = cc in omega arith)

latches_row : (most first k : ℕ) (ls : List LatchLine) → AllWithin most (nexts_of ls) → AllWithin most (resets_of ls) → most < 2 ^ 64
    → first_stray (count_from (first + 2 * k) (length ls)) (resets_of ls) ≡ None
    → Row (λ j. Latch most (first + 2 * j)) k ls (latches_bytes (nexts_of ls) (resets_of ls))
latches_row most first k [] low small fits pass = refl
latches_row most first k (l ∷ ls) low small fits pass =
    let own : ℕ = first + 2 * k in
    let p = passes own l.reset (count_from (own + 2) (length ls)) (resets_of ls) pass in
    let later : first + 2 * suc k ≡ own + 2 = omega arith in
    let rest = ap (λ (c : ℕ). first_stray (count_from c (length ls)) (resets_of ls)) later ∙ p.1 in (
      latch_bytes l.next l.reset,
      latches_bytes (nexts_of ls) (resets_of ls),
      latch_spelled most own l (low l.next (inl refl)) (small l.reset (inl refl)) fits ((is_reset_lem own l.reset).0 p.0),
      latches_row most first (suc k) ls (λ v i. low v (inr i)) (λ v i. small v (inr i)) fits rest,
      refl,
    )

pub latches_spelled : (most first : ℕ) (ls : List LatchLine) → AllWithin most (nexts_of ls) → AllWithin most (resets_of ls) → most < 2 ^ 64
    → first_stray (count_from first (length ls)) (resets_of ls) ≡ None
    → Latches most first (length ls) ls (latches_bytes (nexts_of ls) (resets_of ls))
latches_spelled most first ls low small fits pass =
    let zeroth : first + 2 * 0 ≡ first = omega arith in
    (refl, latches_row most first 0 ls low small fits (ap (λ (c : ℕ). first_stray (count_from c (length ls)) (resets_of ls)) zeroth ∙ pass))

-- next states and resets as lines, and back

pub nexts_back : (ns rs : List ℕ) → length rs ≡ length ns → nexts_of (latch_lines_of ns rs) ≡ ns
nexts_back [] rs e = refl
nexts_back (n ∷ ns) [] e = absurd (omega arith)
nexts_back (n ∷ ns) (r ∷ rs) e = ap (λ (l : List ℕ). n ∷ l) (nexts_back ns rs (omega arith))

pub resets_back : (ns rs : List ℕ) → length rs ≡ length ns → resets_of (latch_lines_of ns rs) ≡ rs
resets_back [] [] e = refl
resets_back [] (r ∷ rs) e = absurd (omega arith)
resets_back (n ∷ ns) [] e = absurd (omega arith)
resets_back (n ∷ ns) (r ∷ rs) e = ap (λ (l : List ℕ). r ∷ l) (resets_back ns rs (omega arith))

-- lists as long as each other, as a caller has them
pub lists_spelled : (most first : ℕ) (ns rs : List ℕ) → length rs ≡ length ns → AllWithin most ns → AllWithin most rs → most < 2 ^ 64
    → first_stray (count_from first (length ns)) rs ≡ None
    → Latches most first (length ns) (latch_lines_of ns rs) (latches_bytes ns rs)
lists_spelled most first ns rs e low small fits pass =
    let ls : List LatchLine = latch_lines_of ns rs in
    let a : nexts_of ls ≡ ns = nexts_back ns rs e in
    let b : resets_of ls ≡ rs = resets_back ns rs e in
    let n : length ls ≡ length ns = sym (length-map ls (λ l. l.next)) ∙ ap length a in
    let all = latches_spelled most first ls (subst (AllWithin most) (sym a) low) (subst (AllWithin most) (sym b) small) fits
    (ap (λ (k : ℕ). first_stray (count_from first k) (resets_of ls)) n ∙ ap (first_stray (count_from first (length ns))) b ∙ pass) in
    subst (λ (k : ℕ). Latches most first k ls (latches_bytes ns rs)) n
    (subst (λ (v : List ℕ). Latches most first (length ls) ls (latches_bytes v rs)) a
    (subst (λ (v : List ℕ). Latches most first (length ls) ls (latches_bytes (nexts_of ls) v)) b all))

-- the header

pub count_spelled : (most v : ℕ) → v ≤ most → v < 2 ^ 64 → Count most v (count_bytes v)
unfolding count_bytes
count_spelled most v within fits = in_a_row tt (32 ∷ []) (digits_of v) refl (within, fits, refl)

pub options_spelled : (n : ℕ) (vs : List ℕ) → length vs ≤ n → AllWithin limit vs → Options n vs (counts_bytes vs ++ (10 ∷ []))
options_spelled zero [] few within = at_last (λ _. []) tt refl refl
options_spelled zero (v ∷ vs) few within = absurd (omega arith)
options_spelled (suc n) [] few within = inr (at_last (λ _. []) tt refl refl)
options_spelled (suc n) (v ∷ vs) few within =
    let rest : Options n vs (counts_bytes vs ++ (10 ∷ [])) = options_spelled n vs (omega arith) (λ u i. within u (inr i)) in
    let count : Count limit v (count_bytes v) = count_spelled limit v (within v (inl refl)) (omega (arith, within v (inl refl))) in
    inl (record {
      middle = v;
      front = count_bytes v;
      back = counts_bytes vs ++ (10 ∷ []);
      first = count;
      second = at_last (λ more. v ∷ more) vs rest refl;
      joined = append_assoc (count_bytes v) (counts_bytes vs) (10 ∷ []);
    })

-- a count that is left out is read as zero
kept_reads : (v : ℕ) (vs ks : List ℕ) → ((i : ℕ) → get_or ks i 0 ≡ get_or vs i 0) → (i : ℕ) → get_or (kept_before v ks) i 0 ≡ get_or (v ∷ vs) i 0
kept_reads v vs [] same i = go (eqb v 0) refl i
  where
    go : (t : Bool) → eqb v 0 ≡ t → (j : ℕ) → get_or (cond t [] (v ∷ [])) j 0 ≡ get_or (v ∷ vs) j 0
    go true e zero = sym (eqb-true v 0 e)
    go true e (suc j) = same j
    go false e zero = refl
    go false e (suc j) = same j
kept_reads v vs (k ∷ ks) same zero = refl
kept_reads v vs (k ∷ ks) same (suc i) = same i

pub up_to_last_reads : (vs : List ℕ) (i : ℕ) → get_or (up_to_last vs) i 0 ≡ get_or vs i 0
up_to_last_reads [] i = refl
up_to_last_reads (v ∷ vs) i = kept_reads v vs (up_to_last vs) (up_to_last_reads vs) i

-- and what is kept is within the limit
kept_within : (h : Header) → Within h → AllWithin limit (up_to_last (optional h))
kept_within h w v i =
    all v (rw (take-append-drop (length (up_to_last (optional h))) (optional h)) at (In-left v (take (length (up_to_last (optional h))) (optional h))
    (drop (length (up_to_last (optional h))) (optional h)) (rw (up_to_last_front (optional h)) i)))
  where
    all : (u : ℕ) → In u (optional h) → u ≤ limit
    all u (inl e) = omega (arith, w.bad)
    all u (inr (inl e)) = omega (arith, w.constraints)
    all u (inr (inr (inl e))) = omega (arith, w.justice)
    all u (inr (inr (inr (inl e)))) = omega (arith, w.fairness)
    all u (inr (inr (inr (inr e)))) = absurd e

pub header_spelled : (h : Header) → Within h → HeaderCounts h (after_tag h)
unfolding after_tag
header_spelled h w =
    let ks : List ℕ = up_to_last (optional h) in
    let fits = w.top in
    let read : h ≡ header_of h.top h.inputs h.latches h.outputs h.gates ks =
    rw (up_to_last_reads (optional h) 0, up_to_last_reads (optional h) 1, up_to_last_reads (optional h) 2, up_to_last_reads (optional h) 3) in
    let options : Options 4 ks (counts_bytes ks ++ (10 ∷ [])) = options_spelled 4 ks (kept_few h) (kept_within h w) in
    let gates : List ℕ = count_bytes h.gates ++ (counts_bytes ks ++ (10 ∷ [])) in
    let outputs : List ℕ = count_bytes h.outputs ++ gates in
    let latches : List ℕ = count_bytes h.latches ++ outputs in
    let inputs : List ℕ = count_bytes h.inputs ++ latches in
    let all : HeaderCounts h (count_bytes h.top ++ inputs) =
    in_a_row h.top (count_bytes h.top) inputs (count_spelled limit h.top w.top (omega arith))
    (in_a_row h.inputs (count_bytes h.inputs) latches (count_spelled h.top h.inputs (omega (arith, w.defined)) (omega (arith, w.defined)))
    (in_a_row h.latches (count_bytes h.latches) outputs
    (count_spelled (h.top - h.inputs) h.latches (omega (arith, w.defined)) (omega (arith, w.defined)))
    (in_a_row h.outputs (count_bytes h.outputs) gates (count_spelled limit h.outputs w.outputs (omega (arith, w.outputs)))
    (in_a_row h.gates (count_bytes h.gates) (counts_bytes ks ++ (10 ∷ []))
    (count_spelled (h.top - h.inputs - h.latches) h.gates (omega (arith, w.defined)) (omega (arith, w.defined)))
    (at_last (λ more. header_of h.top h.inputs h.latches h.outputs h.gates more) ks options read))))) in
    simp append_assoc all

-- the root section

take_within_all : (most n : ℕ) (vs : List ℕ) → AllWithin most vs → AllWithin most (take n vs)
take_within_all most n vs within v i = within v (rw (take-append-drop n vs) at (In-left v (take n vs) (drop n vs) i))

drop_within_all : (most n : ℕ) (vs : List ℕ) → AllWithin most vs → AllWithin most (drop n vs)
drop_within_all most n vs within v i = within v (rw (take-append-drop n vs) at (In-right v (take n vs) (drop n vs) i))

-- lines of which it is known how many they are
lines_counted : (most n : ℕ) (vs : List ℕ) → length vs ≡ n → most < 2 ^ 64 → AllWithin most vs → Lines most n vs (lines_bytes vs)
lines_counted most n vs count fits within =
    subst (λ (k : ℕ). Lines most k vs (lines_bytes vs)) count (lines_spelled most vs within (within_fit most vs fits within))

-- no number of a list is above their sum
below_total : (v : ℕ) (vs : List ℕ) → In v vs → v ≤ total vs
below_total v [] i = absurd i
below_total v (u ∷ us) (inl e) = omega arith
below_total v (u ∷ us) (inr i) = omega (arith, below_total v us i)

pub roots_spelled : (h : Header) (most room : ℕ) (r : Roots) → length r.sizes ≡ h.justice
    → length r.roots ≡ root_count h (total r.sizes) → root_count h (total r.sizes) ≤ limit → root_count h (total r.sizes) ≤ room
    → most < 2 ^ 64 → AllWithin most r.roots → Rooting h most room r (roots_bytes h r)
unfolding roots_bytes
roots_spelled h most room r sets count few fit fits within =
    let n : ℕ = first_roots h in
    let rest : List ℕ = drop n r.roots in
    let long = length-drop n r.roots in
    let longer = length-drop (n + h.fairness) r.roots in
    let fair : List ℕ = take h.fairness rest in
    let later : List ℕ = drop (n + h.fairness) r.roots in
    let others : rest ≡ fair ++ later =
    sym (take-append-drop h.fairness rest) ∙ ap (λ (l : List ℕ). fair ++ l) (drop-drop h.fairness n r.roots) in
    let all : r ≡ roots_of r.sizes (take n r.roots ++ rest) = ap (roots_of r.sizes) (sym (take-append-drop n r.roots)) in
    let first = lines_counted most n (take n r.roots) (length-take-le n r.roots (omega arith)) fits (take_within_all most n r.roots within) in
    let set = lines_counted limit h.justice r.sizes sets (omega arith) (λ v i. omega (arith, below_total v r.sizes i)) in
    let just = lines_counted most (total r.sizes) later (omega arith) fits (drop_within_all most (n + h.fairness) r.roots within) in
    let fairs =
    lines_counted most h.fairness fair (length-take-le h.fairness rest (omega arith)) fits
    (take_within_all most h.fairness rest (drop_within_all most n r.roots within)) in
    let properties : Properties h most (total r.sizes) room rest (lines_bytes later ++ lines_bytes fair) =
    in_a_row tt [] (lines_bytes later ++ lines_bytes fair) (few, fit, refl)
    (in_a_row later (lines_bytes later) (lines_bytes fair) just (at_last (λ f. f ++ later) fair fairs others)) in
    let sized : Sizes h most room (roots_of r.sizes rest) (lines_bytes r.sizes ++ (lines_bytes later ++ lines_bytes fair)) =
    in_a_row r.sizes (lines_bytes r.sizes) (lines_bytes later ++ lines_bytes fair) set (at_last (roots_of r.sizes) rest properties refl) in
    in_a_row (take n r.roots) (lines_bytes (take n r.roots)) (lines_bytes r.sizes ++ (lines_bytes later ++ lines_bytes fair)) first
    (at_last (λ p. roots_of p.sizes (take n r.roots ++ p.roots)) (roots_of r.sizes rest) sized all)
