-- What the checks say, both ways: each test has a view that says what its answer means, so that an answer is given exactly where what it says is true.
-- Assumes nothing.
use Prim.Native.Nat.{ℕ, zero, suc, ◌+◌, ◌*◌, ◌/◌, ◌%◌, ◌<◌, ◌≤◌}
use mathlib.Core.Path.{◌≡◌, refl, sym, ap, ◌∙◌, subst, subst⁻¹}
use mathlib.Core.Logic.{inl, inr, ◌↔◌}
use mathlib.Core.Bool.{Bool, true, false, cond, not, ◌||◌}
use Rattle.std.specs.Prelude.{Option, Some, None, Ok, Err}
use mathlib.Core.List.{List, [], ◌∷◌, ◌++◌}
use native.Mathlib.Omega.{arith}
use lib.Dec.{eqb, leb, ltb}
use lib.ListN.{length, get_or}
use borrow.Author.Tests.{le-leb, lt-leb}
use Rattle.circuit.specs.Graph.{In}
use Rattle.circuit.specs.Walk.{Pair, first_code}
use Rattle.circuit.specs.Circuit.{first_over, first_stray}
use Rattle.circuit.specs.Ordered.{Ordered, first_latch, sources_of, no_pair}
use Rattle.circuit.specs.Outcome.{limit, total, pairs_of, pair_words}
use Rattle.circuit.specs.Resets.{side_by_side}
use Rattle.circuit.specs.Claims.{AllWithin, IsReset, AllReset, FirstOver}
use Rattle.circuit.proofs.Tests.{Same, same, other, same_test, AtMost, at_most, above, le_test}
use Rattle.circuit.proofs.Checks as checks
use Rattle.circuit.proofs.Checks.{no_over, one_over, over_test, none_over, Stray, none_stray, one_stray, stray_test, none_stray_lem, same_place, is_first_stray}
use Rattle.circuit.proofs.Ordered.{count_from-length, count_from_get_d}
use Rattle.circuit.proofs.Listed.{within-left, within_right, within_join}
use Rattle.ordered.specs.declared.given.Fault.TheVariants.{TooBig, Misshapen, Over, Reset, Disordered, Short}
use Rattle.ordered.specs.WellOrdered.{variables_of, latches_of, WellOrdered}
use Rattle.ordered.specs.Check.{Checked, fits, Words, circuit_in, words_of, too_large, uneven, uneven_in, codes_in, breaks_order, first_disordered, fault_at, checked}
use Rattle.ordered.specs.Given.{Given, limited, Even, GateInOrder, FirstLoose, Says}
use Rattle.ordered.proofs.Laid.{pairs_length, words_length, pairs_of_words}

-- check 1

pub data Large (w : Words) : Bool → Type 0 where
  is_large : (n : ℕ) → In n (limited w) → limit < n → Large w true
  is_small : AllWithin limit (limited w) → Large w false

in_limits : (w : Words) → variables_of (circuit_in w) ≤ limit → length w.roots ≤ limit → length w.sizes ≤ limit → AllWithin limit (limited w)
in_limits w v r j n (inl e) = omega arith
in_limits w v r j n (inr (inl e)) = omega arith
in_limits w v r j n (inr (inr (inl e))) = omega (arith, pairs_length w.gates)
in_limits w v r j n (inr (inr (inr (inl e)))) = omega arith
in_limits w v r j n (inr (inr (inr (inr (inl e))))) = omega (arith, pairs_length w.gates)
in_limits w v r j n (inr (inr (inr (inr (inr (inl e)))))) = omega arith
in_limits w v r j n (inr (inr (inr (inr (inr (inr h)))))) = absurd h

pub large_test : (w : Words) → Large w (too_large (variables_of (circuit_in w)) (length w.roots) (length w.sizes))
unfolding too_large
large_test w =
    go (ltb limit (variables_of (circuit_in w))) (le_test (suc limit) (variables_of (circuit_in w))) (ltb limit (length w.roots))
    (le_test (suc limit) (length w.roots)) (ltb limit (length w.sizes)) (le_test (suc limit) (length w.sizes))
  where
    go : (a : Bool) → AtMost (suc limit) (variables_of (circuit_in w)) a → (b : Bool) → AtMost (suc limit) (length w.roots) b
        → (d : Bool) → AtMost (suc limit) (length w.sizes) d → Large w (a || b || d)
    go true (at_most h) b q d r =
        is_large (w.inputs + length w.nexts + length w.gates / 2) (inr (inr (inr (inr (inl refl))))) (omega (arith, pairs_length w.gates))
    go false p true (at_most h) d r = is_large (length w.roots) (inr (inr (inr (inl refl)))) (omega arith)
    go false p false q true (at_most h) = is_large (length w.sizes) (inr (inr (inr (inr (inr (inl refl)))))) (omega arith)
    go false (above p) false (above q) false (above r) = is_small (in_limits w (omega arith) (omega arith) (omega arith))

is_large_lem : (w : Words) (n : ℕ) → In n (limited w) → limit < n → too_large (variables_of (circuit_in w)) (length w.roots) (length w.sizes) ≡ true
is_large_lem w n i h = go (too_large (variables_of (circuit_in w)) (length w.roots) (length w.sizes)) (large_test w)
  where
    go : (b : Bool) → Large w b → b ≡ true
    go b (is_large m k g) = refl
    go b (is_small f) = absurd (omega (arith, f n i))

is_small_lem : (w : Words) → AllWithin limit (limited w) → too_large (variables_of (circuit_in w)) (length w.roots) (length w.sizes) ≡ false
is_small_lem w f = go (too_large (variables_of (circuit_in w)) (length w.roots) (length w.sizes)) (large_test w)
  where
    go : (b : Bool) → Large w b → b ≡ false
    go b (is_large m k g) = absurd (omega (arith, f m k))
    go b (is_small g) = refl

-- check 2

pub data Sums (w : Words) : Bool → Type 0 where
  unequal : (Even w → ⊥) → Sums w true
  equal : Even w → Sums w false

pub sums_test : (w : Words) → Sums w (uneven_in w)
unfolding uneven
sums_test w =
    go (eqb (total w.counts) (length w.roots)) (same_test (total w.counts) (length w.roots)) (eqb (total w.sizes) (get_or w.counts 4 0))
    (same_test (total w.sizes) (get_or w.counts 4 0)) (eqb (length w.nexts) (length w.resets))
    (same_test (length w.nexts) (length w.resets)) (eqb (length w.gates % 2) 0) (same_test (length w.gates % 2) 0)
  where
    go : (a : Bool) → Same (total w.counts) (length w.roots) a → (b : Bool) → Same (total w.sizes) (get_or w.counts 4 0) b
        → (l : Bool) → Same (length w.nexts) (length w.resets) l → (d : Bool) → Same (length w.gates % 2) 0 d
        → Sums w (not a || not b || not l || not d)
    go false (other h) b q l s d r = unequal (λ k. h k.roots)
    go true p false (other h) l s d r = unequal (λ k. h k.justice)
    go true p true q false (other h) d r = unequal (λ k. h k.latches)
    go true p true q true s false (other h) = unequal (λ k. h k.words)
    go true (same p) true (same q) true (same s) true (same r) = equal (record { roots = p; justice = q; latches = s; words = r })

is_uneven_lem : (w : Words) → (Even w → ⊥) → uneven_in w ≡ true
is_uneven_lem w f = go (uneven_in w) (sums_test w)
  where
    go : (b : Bool) → Sums w b → b ≡ true
    go b (unequal g) = refl
    go b (equal e) = absurd (f e)

is_even : (w : Words) → Even w → uneven_in w ≡ false
is_even w e = go (uneven_in w) (sums_test w)
  where
    go : (b : Bool) → Sums w b → b ≡ false
    go b (unequal f) = absurd (f e)
    go b (equal g) = refl

-- where a member of a list stands
pub in_place : (xs : List ℕ) (c : ℕ) → In c xs → (j : ℕ) × (j < length xs) × (get_or xs j 0 ≡ c)
in_place [] c i = absurd i
in_place (x ∷ xs) c (inl e) = (0, omega arith, sym e)
in_place (x ∷ xs) c (inr i) = let p = in_place xs c i in (suc p.0, omega (arith, p.1), p.2)

-- check 4: the first over the bound

first_over_lem : (b c : ℕ) (before after : List ℕ) → AllWithin b before → b < c → first_over b (before ++ (c ∷ after)) ≡ Some c
first_over_lem b c [] after w h = rw (lt-leb c b h)
first_over_lem b c (x ∷ before) after w h = rw (le-leb x b (w x (inl refl))) (first_over_lem b c before after (λ y i. w y (inr i)) h)

is_first_over : (b : ℕ) (cs : List ℕ) (c : ℕ) → FirstOver b cs c → first_over b cs ≡ Some c
is_first_over b cs c k = ap (first_over b) k.splits ∙ first_over_lem b c k.before k.after k.within k.is_over

-- of two lists side by side, and check 4 of them
side_within : (b : ℕ) (xs ys : List ℕ) → length xs ≡ length ys → AllWithin b (side_by_side xs ys) → AllWithin b xs
side_within b [] ys e f c i = absurd i
side_within b (x ∷ xs) [] e f c i = absurd (omega arith)
side_within b (x ∷ xs) (y ∷ ys) e f c (inl i) = f c (inl i)
side_within b (x ∷ xs) (y ∷ ys) e f c (inr i) = side_within b xs ys (omega arith) (λ z k. f z (inr (inr k))) c i

within_side : (b : ℕ) (xs ys : List ℕ) → AllWithin b xs → AllWithin b ys → AllWithin b (side_by_side xs ys)
within_side b [] ys f g c i = absurd i
within_side b (x ∷ xs) [] f g c i = absurd i
within_side b (x ∷ xs) (y ∷ ys) f g c (inl i) = f c (inl i)
within_side b (x ∷ xs) (y ∷ ys) f g c (inr (inl i)) = g c (inl i)
within_side b (x ∷ xs) (y ∷ ys) f g c (inr (inr i)) = within_side b xs ys (λ z k. f z (inr k)) (λ z k. g z (inr k)) c i

-- the resets that pass check 22 are not over 2V + 1: a latch's literal is at most 2 (I + L)
pub resets_within : (O : Ordered) → length O.nexts ≡ length O.resets → AllReset (latches_of O) O.resets
    → AllWithin (2 * variables_of O + 1) O.resets
resets_within O e f c i =
    let p = in_place O.resets c i in
    let h : p.0 < length O.nexts = omega (arith, p.1) in
    let own : get_or (latches_of O) p.0 0 ≡ first_latch O.inputs + 2 * p.0 = count_from_get_d (first_latch O.inputs) (length O.nexts) p.0 h in
    one_of p.0 h own (f p.0 (omega (arith, count_from-length (first_latch O.inputs) (length O.nexts)))) p.2
  where
    one_of : (j : ℕ) → j < length O.nexts → get_or (latches_of O) j 0 ≡ first_latch O.inputs + 2 * j
        → IsReset (get_or (latches_of O) j 0) (get_or O.resets j 0) → get_or O.resets j 0 ≡ c → c ≤ 2 * variables_of O + 1
    one_of j h own (inl z) at = omega arith
    one_of j h own (inr (inl z)) at = omega arith
    one_of j h own (inr (inr z)) at = omega arith

-- check 23, where the first gate has the code t

abbrev AllInOrder : ℕ → List Pair → Type 0
AllInOrder t ps = (j : ℕ) → j < length ps → GateInOrder t ps j

pub data Loose (t : ℕ) (ps : List Pair) : Option ℕ → Type 0 where
  none_loose : AllInOrder t ps → Loose t ps None
  one_loose : (d : ℕ) → FirstLoose t ps d → Loose t ps (Some d)

-- one gate
pub data Breaks (t : ℕ) (p : Pair) : Bool → Type 0 where
  breaks : ((p.smaller ≤ p.larger) × (p.larger < t + 2 * 0) → ⊥) → Breaks t p true
  keeps : (p.smaller ≤ p.larger) × (p.larger < t + 2 * 0) → Breaks t p false

breaks_test : (t : ℕ) (p : Pair) → Breaks t p (breaks_order t p)
breaks_test t p = go (leb t p.larger) (le_test t p.larger) (ltb p.larger p.smaller) (le_test (suc p.larger) p.smaller)
  where
    go : (a : Bool) → AtMost t p.larger a → (b : Bool) → AtMost (suc p.larger) p.smaller b → Breaks t p (a || b)
    go true (at_most h) b q = breaks (λ k. omega (arith, k.1))
    go false r true (at_most h) = breaks (λ k. omega (arith, k.0))
    go false (above h) false (above g) = keeps (omega arith, omega arith)

-- a gate of the list is one of what is left, whose first has the code t + 2
later : (t : ℕ) (p : Pair) (ps : List Pair) (j : ℕ) → GateInOrder (t + 2) ps j → GateInOrder t (p ∷ ps) (suc j)
later t p ps j k = (k.0, omega (arith, k.1))

earlier : (t : ℕ) (p : Pair) (ps : List Pair) (j : ℕ) → GateInOrder t (p ∷ ps) (suc j) → GateInOrder (t + 2) ps j
earlier t p ps j k = (k.0, omega (arith, k.1))

pub loose_test : (t : ℕ) (ps : List Pair) → Loose t ps (first_disordered t ps)
loose_test t [] = none_loose (λ j h. absurd (omega arith))
loose_test t (p ∷ ps) = go (breaks_order t p) (breaks_test t p) (first_disordered (t + 2) ps) (loose_test (t + 2) ps)
  where
    upto : (n : ℕ) → GateInOrder t (p ∷ ps) 0 → ((j : ℕ) → j < n → GateInOrder (t + 2) ps j) → (j : ℕ) → j < suc n → GateInOrder t (p ∷ ps) j
    upto n k f zero h = k
    upto n k f (suc j) h = later t p ps j (f j (omega arith))

    go : (b : Bool) → Breaks t p b → (o : Option ℕ) → Loose (t + 2) ps o → Loose t (p ∷ ps) (cond b (Some t) o)
    go true (breaks h) o v =
        one_loose t (record { place = 0; inside = omega arith; code = omega arith; is_loose = h; before = λ j i. absurd (omega arith) })
    go false (keeps h) o (none_loose f) = none_loose (upto (length ps) h f)
    go false (keeps h) o (one_loose d k) =
        one_loose d
        (record {
          place = suc k.place;
          inside = omega (arith, k.inside);
          code = omega (arith, k.code);
          is_loose = λ i. k.is_loose (earlier t p ps k.place i);
          before = upto k.place h k.before;
        })

none_loose_lem : (t : ℕ) (ps : List Pair) → AllInOrder t ps → first_disordered t ps ≡ None
none_loose_lem t ps f = go (first_disordered t ps) (loose_test t ps)
  where
    go : (o : Option ℕ) → Loose t ps o → o ≡ None
    go o (none_loose g) = refl
    go o (one_loose d k) = absurd (k.is_loose (f k.place k.inside))

is_first_loose : (t : ℕ) (ps : List Pair) (d : ℕ) → FirstLoose t ps d → first_disordered t ps ≡ Some d
is_first_loose t ps d k = go (first_disordered t ps) (loose_test t ps)
  where
    go : (o : Option ℕ) → Loose t ps o → o ≡ Some d
    go o (none_loose f) = absurd (k.is_loose (f k.place k.inside))
    go o (one_loose d' k') =
        let e = same_place k'.place k.place (λ h. k'.is_loose (k.before k'.place h)) (λ h. k.is_loose (k'.before k.place h)) in
        ap Some (omega (arith, k.code, k'.code))

-- where check 2 is passed the sums agree; the gates have two words each, and each latch has its reset
passes_2 : (w : Words) → uneven_in w ≡ false → Even w
passes_2 w e = go (uneven_in w) (sums_test w) e
  where
    go : (b : Bool) → Sums w b → b ≡ false → Even w
    go b (unequal f) e = absurd cc
    go b (equal k) e = k

pub even_words : (w : Words) → uneven_in w ≡ false → length w.gates % 2 ≡ 0
even_words w e = (passes_2 w e).words

pub as_many_resets : (w : Words) → uneven_in w ≡ false → length w.nexts ≡ length w.resets
as_many_resets w e = (passes_2 w e).latches

-- words that are two a gate
words_within : (b : ℕ) (ws : List ℕ) → length ws % 2 ≡ 0
    → ((j : ℕ) → j < length (pairs_of ws) → ((get_or (pairs_of ws) j no_pair).larger ≤ b) × ((get_or (pairs_of ws) j no_pair).smaller ≤ b)) → AllWithin b ws
words_within b [] e f c i = absurd i
words_within b (x ∷ []) e f c i = absurd (omega arith)
words_within b (x ∷ y ∷ ws) e f c (inl i) = omega (arith, (f 0 (omega arith)).0)
words_within b (x ∷ y ∷ ws) e f c (inr (inl i)) = omega (arith, (f 0 (omega arith)).1)
words_within b (x ∷ y ∷ ws) e f c (inr (inr i)) = words_within b ws (omega arith) (λ j h. f (suc j) (omega arith)) c i

-- the inputs of gates that are in order are below the gates' own codes, so that none is over a bound that these keep
pub in_order_within : (t b : ℕ) (ws : List ℕ) → length ws % 2 ≡ 0 → t + length ws ≤ b + 1 → AllInOrder t (pairs_of ws) → first_over b ws ≡ None
in_order_within t b ws even room f =
    none_over b ws
    (words_within b ws even
    (λ j i. let g = f j i in (omega (arith, g.1, i, pairs_length ws), omega (arith, g.0, g.1, i, pairs_length ws))))

pub words_back : (ws : List ℕ) → length ws % 2 ≡ 0 → pair_words (pairs_of ws) ≡ ws
words_back [] e = refl
words_back (x ∷ []) e = absurd (omega arith)
words_back (x ∷ y ∷ ws) e = ap {B = List ℕ} (λ l. x ∷ y ∷ l) (words_back ws (omega arith))

module _ (w : Words) (asked : ℕ) where
  abbrev bound : ℕ
  bound = 2 * variables_of (circuit_in w) + 1

  abbrev all : List ℕ
  all = codes_in w asked

  abbrev owns : List ℕ
  owns = latches_of (circuit_in w)

  abbrev first : ℕ
  first = first_code (sources_of (circuit_in w))

  -- what is left where each check is passed
  collected : AllWithin limit (limited w) → Even w → AllWithin bound all → AllReset owns w.resets → AllInOrder first (circuit_in w).gates
      → Given w × (asked ≤ bound)
  collected small even within reset ordered =
      let past-gates : AllWithin bound (side_by_side w.nexts w.resets ++ (w.roots ++ (asked ∷ []))) = within_right bound w.gates _ within in
      let past-nexts : AllWithin bound (w.roots ++ (asked ∷ [])) = within_right bound (side_by_side w.nexts w.resets) _ past-gates in (
        record {
          ordered =
              record {
                variables = omega (arith, small _ (inr (inr (inr (inr (inl refl))))), pairs_length w.gates);
                few = small _ (inr (inr (inr (inl refl))));
                counts = even.roots;
                nexts =
                    side_within bound w.nexts w.resets even.latches
                    (within-left bound (side_by_side w.nexts w.resets) _ past-gates);
                reset_count = even.latches;
                resets = reset;
                roots = within-left bound w.roots _ past-nexts;
                gates = ordered;
              };
          sets = small _ (inr (inr (inr (inr (inr (inl refl))))));
          sizes = even.justice;
          whole = even.words;
        },
        within_right bound w.roots (asked ∷ []) past-nexts asked (inl refl),
      )

  -- each answer is true
  pub says : Says w asked (checked w asked)
  unfolding checked
  says = one (too_large (variables_of (circuit_in w)) (length w.roots) (length w.sizes)) (large_test w)
    where
      last : AllWithin limit (limited w) → Even w → AllWithin bound all → AllReset owns w.resets → (o : Option ℕ) → Loose first (circuit_in w).gates o
          → Says w asked (fault_at o Disordered fits)
      last small even within reset o (none_loose f) = collected small even within reset f
      last small even within reset o (one_loose d k) = (small, even, within, reset, k)

      stray : AllWithin limit (limited w) → Even w → AllWithin bound all → (o : Option ℕ) → Stray owns w.resets o
          → Says w asked (fault_at o Reset (fault_at (first_disordered first (circuit_in w).gates) Disordered fits))
      stray small even within o (none_stray f) =
          last small even within f (first_disordered first (circuit_in w).gates) (loose_test first (circuit_in w).gates)
      stray small even within o (one_stray r k) = (small, even, within, k)

      four : AllWithin limit (limited w) → Even w → (o : Option ℕ) → checks.Over bound all o
          → Says w asked
          (fault_at o Over
          (fault_at (first_stray owns w.resets) Reset (fault_at (first_disordered first (circuit_in w).gates) Disordered fits)))
      four small even o (no_over f) = stray small even f (first_stray owns w.resets) (stray_test owns w.resets)
      four small even o (one_over c k) = (small, even, k)

      two : AllWithin limit (limited w) → (b : Bool) → Sums w b
          → Says w asked
          (cond b (Err Misshapen) (fault_at (first_over bound all) Over
          (fault_at (first_stray owns w.resets) Reset (fault_at (first_disordered first (circuit_in w).gates) Disordered fits))))
      two small b (unequal f) = (small, f)
      two small b (equal e) = four small e (first_over bound all) (over_test bound all)

      one : (b : Bool) → Large w b
          → Says w asked
          (cond b (Err TooBig)
          (cond (uneven_in w) (Err Misshapen)
          (fault_at (first_over bound all) Over
          (fault_at (first_stray owns w.resets) Reset (fault_at (first_disordered first (circuit_in w).gates) Disordered fits)))))
      one b (is_large n i h) = (n, i, h)
      one b (is_small f) = two f (uneven_in w) (sums_test w)

  -- where an ordered circuit is lent no code is over the bound
  pub given-within : Given w → asked ≤ bound → AllWithin bound all
  unfolding first_code
  given-within k h =
      let o = k.ordered in
      within_join bound w.gates _
      (words_within bound w.gates k.whole (λ j i. let g = o.gates j i in (omega (arith, g.1), omega (arith, g.0, g.1))))
      (within_join bound (side_by_side w.nexts w.resets) _
      (within_side bound w.nexts w.resets o.nexts (resets_within (circuit_in w) o.reset_count o.resets))
      (within_join bound w.roots (asked ∷ []) o.roots only))
    where
      only : AllWithin bound (asked ∷ [])
      only c (inl e) = omega arith
      only c (inr i) = absurd i

  -- and what is true is answered
  pub answered : (a : Checked) → Says w asked a → checked w asked ≡ a
  unfolding checked
  answered (Ok t) k =
      let o = k.0.ordered in
      rw (
        is_small_lem w (in_limits w o.variables o.few k.0.sets),
        is_even w (record { roots = o.counts; justice = k.0.sizes; latches = o.reset_count; words = k.0.whole }),
        none_over bound all (given-within k.0 k.1),
        none_stray_lem owns w.resets o.resets,
        none_loose_lem first (circuit_in w).gates o.gates,
      )
  answered (Err TooBig) k = rw (is_large_lem w k.0 k.1 k.2)
  answered (Err Misshapen) k = rw (is_small_lem w k.0, is_uneven_lem w k.1)
  answered (Err (Over d)) k = rw (is_small_lem w k.0, is_even w k.1, is_first_over bound all d.0 k.2)
  answered (Err (Reset d)) k =
      rw (is_small_lem w k.0, is_even w k.1, none_over bound all k.2, is_first_stray owns w.resets d.0 k.3)
  answered (Err (Disordered d)) k =
      rw (
        is_small_lem w k.0,
        is_even w k.1,
        none_over bound all k.2,
        none_stray_lem owns w.resets k.3,
        is_first_loose first (circuit_in w).gates d.0 k.4,
      )
  answered (Err Short) k = absurd k

  -- an answer is given exactly where what it says is true
  pub exactly : (a : Checked) → (checked w asked ≡ a) ↔ Says w asked a
  exactly a = (λ e. subst (Says w asked) e says, answered a)

-- the words of an ordered circuit
circuit_back : (O : Ordered) (sizes : List ℕ) → circuit_in (words_of O sizes) ≡ O
circuit_back O sizes =
    ap (λ (gs : List Pair). record { inputs = O.inputs; nexts = O.nexts; resets = O.resets; gates = gs; counts = O.counts; roots = O.roots })
    (pairs_of_words O.gates)

pub given_ordered : (O : Ordered) (sizes : List ℕ) → WellOrdered O → length sizes ≤ limit → total sizes ≡ get_or O.counts 4 0 → Given (words_of O sizes)
given_ordered O sizes k few e =
    record {
      ordered = subst⁻¹ WellOrdered (circuit_back O sizes) k;
      sets = few;
      sizes = e;
      whole = omega (arith, words_length O.gates);
    }

pub always_fits : (O : Ordered) (sizes : List ℕ) → WellOrdered O → length sizes ≤ limit → total sizes ≡ get_or O.counts 4 0
    → (asked : ℕ) → asked ≤ 2 * variables_of O + 1 → checked (words_of O sizes) asked ≡ fits
always_fits O sizes k few e asked h =
    answered (words_of O sizes) asked fits
    (given_ordered O sizes k few e, subst⁻¹ (λ (P : Ordered). asked ≤ 2 * variables_of P + 1) (circuit_back O sizes) h)

-- what is lent is the circuit's own words
pub given_words : (w : Words) → Given w → words_of (circuit_in w) w.sizes ≡ w
given_words w k =
    ap
    (λ (gs : List ℕ). record {
      inputs = w.inputs;
      counts = w.counts;
      nexts = w.nexts;
      resets = w.resets;
      gates = gs;
      sizes = w.sizes;
      roots = w.roots;
    })
    (words_back w.gates k.whole)
