-- Checks 5 and 6 where checks 1 to 4 are passed: what the table of definitions says is what the checks say, and where they pass the lists are as the
-- walks want them. Assumes nothing.
use Rattle.std.specs.Prelude.{Option, Some, None, Result, Err}
use Prim.Native.Nat.{ℕ, zero, suc, ◌+◌, ◌*◌, ◌-◌, ◌/◌, ◌≤◌}
use mathlib.Core.Path.{◌≡◌, refl, sym, ap, ◌∙◌, subst, subst⁻¹}
use mathlib.Core.List.{List, [], ◌∷◌, ◌++◌, map, append_assoc}
use native.Mathlib.Omega.{arith}
use lib.ListN.{length, take, drop, replicate, length-append, length-drop, length-replicate}
use lib.Seq.{length-take-le, take_at, drop_at}
use borrow.Author.Tests.{le-ltb}
use Rattle.lit.specs.Code.{var, literal}
use Rattle.circuit.specs.declared.Refusal.{Refusal}
use Rattle.circuit.specs.declared.Refusal.TheVariants as R
use Rattle.circuit.specs.Graph.{Distinct, out_var, DefinedOnce}
use Rattle.circuit.specs.Map.{no_image, store}
use Rattle.circuit.specs.Walk.{Out, stopped, stack_room}
use Rattle.circuit.specs.Circuit.{Circuit, graph, net, gate_outputs, first_again, definitions, store_from, start, walk_with, or_refuse, numbered}
use Rattle.circuit.specs.Outcome.{Lent, circuit_of, map_words, scratch_words, zeros, onto}
use Rattle.circuit.proofs.Checks.{Apart, Again, once, again_test, map-append, map_outputs, parts_join}
use Rattle.circuit.proofs.Words.{gates_length}
use Rattle.checks.specs.Checks.{Check, passed, fail_at}
use Rattle.circuit.proofs.Outcome.{onto_long}
use Rattle.images.specs.Begin.{begun}
use Rattle.images.proofs.Few.{few}
use Rattle.defs.specs.Define.{Judged, define_all}
use Rattle.beginning.specs.Beginning.{Ready, ready_of, cleaned, with_table, prepared}
use Rattle.aig.specs.Table.{Tabled, Codes}
use Rattle.aig.specs.Walked.{WalkIn, WalkReady, WalkEnds, EndsIn}
use Rattle.aig.proofs.Bounds.{input_low, output_low, state_low}
use Rattle.aig.proofs.Defining.{defines, tables}

-- a front of zeros
take-zeros : (j k : ℕ) (ys : List ℕ) → j ≤ k → take j (zeros k ++ ys) ≡ zeros j
take-zeros zero k ys h = refl
take-zeros (suc j) zero ys h = absurd (omega arith)
take-zeros (suc j) (suc k) ys h = ap {B = List ℕ} (λ t. 0 ∷ t) (take-zeros j k ys (omega arith))

drop-zeros : (j k : ℕ) (ys : List ℕ) → j ≤ k → drop j (zeros k ++ ys) ≡ zeros (k - j) ++ ys
drop-zeros zero k ys h = let e : k ≡ k - 0 = omega arith in ap (λ (i : ℕ). zeros i ++ ys) e
drop-zeros (suc j) zero ys h = absurd (omega arith)
drop-zeros (suc j) (suc k) ys h = let e : k - j ≡ suc k - suc j = omega arith in drop-zeros j k ys (omega arith) ∙ ap (λ (i : ℕ). zeros i ++ ys) e

-- zeros over a list that is long enough
onto-zeros : (k : ℕ) (ys : List ℕ) → k ≤ length ys → onto (zeros k) ys ≡ zeros k ++ drop k ys
onto-zeros k ys h = onto_long (zeros k) ys (omega (arith, length-replicate {A = ℕ} k 0)) ∙ ap (λ (j : ℕ). zeros k ++ drop j ys) (length-replicate k 0)

-- a list of two parts, cut between them
cut : (x p q : List ℕ) (k : ℕ) → x ≡ p ++ q → length p ≡ k → (take k x ≡ p) × (drop k x ≡ q)
cut x p q k e h = (ap (take k) e ∙ take_at p q k h, ap (drop k) e ∙ drop_at p q k h)

-- checks 5 and 6
module _ {l : Lent} {words out scratch : List ℕ} (x : WalkIn l words out scratch) where
  abbrev D : Circuit
  D = circuit_of l

  abbrev n : ℕ
  n = map_words D

  abbrev lasts : Out
  lasts = walk_with (stack_room (net D)) D

  abbrev five : Option ℕ
  five = first_again (0 ∷ []) (definitions D)

  abbrev six : Option ℕ
  six = first_again (0 ∷ map var (definitions D)) l.states

  in_order : numbered D ≡ or_refuse five R.Again (or_refuse six R.StateAgain lasts)
  unfolding numbered
  in_order = refl

  -- the codes that the table is asked
  input_codes_lem : Codes n l.inputs
  input_codes_lem c h = omega (arith, input_low x.bounds x.agrees c h)

  state_codes_lem : Codes n l.states
  state_codes_lem c h = omega (arith, state_low x.bounds x.agrees c h)

  output_codes : Codes n (gate_outputs D)
  output_codes c h = omega (arith, output_low x.bounds x.agrees c h)

  -- no variable is defined twice
  pub once_of : five ≡ None → six ≡ None → DefinedOnce (graph D)
  once_of e f = go five (again_test (0 ∷ []) (definitions D)) e six (again_test (0 ∷ map var (definitions D)) l.states) f
    where
      io : map var (definitions D) ≡ map var l.inputs ++ map out_var D.gates
      io = map-append var l.inputs (gate_outputs D) ∙ ap (λ (y : List ℕ). map var l.inputs ++ y) (map_outputs D.gates)

      go : (o : Option ℕ) → Again (0 ∷ []) (definitions D) o → o ≡ None → (o' : Option ℕ) → Again (0 ∷ map var (definitions D)) l.states o' → o' ≡ None
          → DefinedOnce (graph D)
      go (Some d) v p o' v' q = absurd (let z : ◌≡◌ {A = ℕ} 0 1 = cc in omega arith)
      go None v p (Some d) v' q = absurd (let z : ◌≡◌ {A = ℕ} 0 1 = cc in omega arith)
      go None (once d z) p None (once d' n) q =
          subst⁻¹ (λ (y : List ℕ). Distinct (0 ∷ (y ++ map out_var D.gates))) (map-append var l.inputs l.states)
          (parts_join (map var l.inputs) (map var l.states) (map out_var D.gates) (subst Distinct io d)
          (subst (λ (y : List ℕ). Apart y (0 ∷ [])) io z) d' (subst (λ (y : List ℕ). Apart (map var l.states) (0 ∷ y)) io n))

  -- the table over zeros
  abbrev J : Judged
  J = define_all (zeros n) l.inputs l.states D.gates

  says : J.said ≡ fail_at five R.Again (fail_at six R.StateAgain passed)
  says = defines l.inputs l.states D.gates n (omega arith) x.within.gates input_codes_lem state_codes_lem output_codes J.words J.said refl

  refuses : (why : Refusal) → J.said ≡ Err why → numbered D ≡ stopped why
  refuses why p = in_order ∙ go five six (sym p ∙ says)
    where
      go : (a b : Option ℕ) → Err why ≡ fail_at a R.Again (fail_at b R.StateAgain passed) → or_refuse a R.Again (or_refuse b R.StateAgain lasts) ≡ stopped why
      go (Some d) b k = let z : R.Again (literal d) ≡ why = cc in ap stopped z
      go None (Some d) k = let z : R.StateAgain (literal d) ≡ why = cc in ap stopped z
      go None None k = absurd (let z : ◌≡◌ {A = ℕ} 0 1 = cc in omega arith)

  both : J.said ≡ passed → (five ≡ None) × (six ≡ None)
  both p = go five refl six refl (sym p ∙ says)
    where
      go : (a : Option ℕ) → five ≡ a → (b : Option ℕ) → six ≡ b → passed ≡ fail_at a R.Again (fail_at b R.StateAgain passed) → (five ≡ None) × (six ≡ None)
      go (Some d) p₁ b p₂ k = absurd (let z : ◌≡◌ {A = ℕ} 0 1 = cc in omega arith)
      go None p₁ (Some d) p₂ k = absurd (let z : ◌≡◌ {A = ℕ} 0 1 = cc in omega arith)
      go None p₁ None p₂ k = (p₁, p₂)

  by_walks : J.said ≡ passed → numbered D ≡ lasts
  by_walks p = in_order ∙ rw ((both p).0, (both p).1)

  tabled : J.said ≡ passed → Tabled D.gates J.words
  tabled p =
      tables l.inputs l.states D.gates n (omega arith) x.within.gates input_codes_lem state_codes_lem output_codes J.words J.said refl p
      (once_of (both p).0 (both p).1)

  -- what is prepared: the check r, and the lists m, o and s
  module _ (r : Check) (m o s : List ℕ) (e : ready_of r m o s ≡ prepared D.top l.inputs l.states l.gates words out scratch)
      (em : length m ≡ length words) (es : length s ≡ length scratch) where
    abbrev k : ℕ
    k = scratch_words D

    abbrev G : ℕ
    G = length D.gates

    clean_is : cleaned n l.gates scratch ≡ zeros k ++ drop k scratch
    clean_is =
        let w : 3 * n + 3 * (length l.gates / 3) ≡ k = omega (arith, gates_length l.gates) in
        ap (λ (j : ℕ). onto (zeros j) scratch) w ∙ onto-zeros k scratch x.scratch_long

    blank : take n (cleaned n l.gates scratch) ≡ zeros n
    blank = ap (take n) clean_is ∙ take-zeros n k (drop k scratch) (omega arith)

    opened : ready_of r m o s ≡ with_table n J l.inputs l.states l.gates words out scratch
    unfolding prepared
    opened =
        e
        ∙ rw (le-ltb (length words) n x.map_long, le-ltb (length scratch) n (omega (arith, x.scratch_long)))
        (ap (λ (t : List ℕ). with_table n (define_all t l.inputs l.states D.gates) l.inputs l.states l.gates words out scratch) blank)

    said_is : r ≡ J.said
    said_is = ap (λ (y : Ready). y.said) opened

    map_is : m ≡ begun (take n words) l.inputs l.states ++ drop n words
    map_is = ap (λ (y : Ready). y.map) opened

    scratch_is : s ≡ J.words ++ (zeros (k - n) ++ drop k scratch)
    scratch_is =
        ap (λ (y : Ready). y.scratch) opened
        ∙ ap (λ (t : List ℕ). J.words ++ t) (ap (drop n) clean_is ∙ drop-zeros n k (drop k scratch) (omega arith))

    -- each front, and what stood past it
    map_parts : (take n m ≡ begun (take n words) l.inputs l.states) × (drop n m ≡ drop n words)
    map_parts =
        cut m _ _ n map_is
        (omega (arith, em, ap length map_is, length-append (begun (take n words) l.inputs l.states) (drop n words), length-drop n words, x.map_long))

    out_parts : (take (2 * G) o ≡ zeros (2 * G)) × (drop (2 * G) o ≡ drop (2 * G) out)
    out_parts =
        let w : 2 * (length l.gates / 3) ≡ 2 * G = omega (arith, gates_length l.gates) in
        cut o (zeros (2 * G)) _ (2 * G)
        (ap (λ (y : Ready). y.out) opened ∙ ap (λ (j : ℕ). onto (zeros j) out) w ∙ onto-zeros (2 * G) out x.out_long)
        (length-replicate (2 * G) 0)

    table_long : length J.words ≡ n
    table_long =
        omega (
          arith,
          es,
          ap length scratch_is,
          length-append J.words (zeros (k - n) ++ drop k scratch),
          length-append (zeros (k - n)) (drop k scratch),
          length-replicate {A = ℕ} (k - n) 0,
          length-drop k scratch,
          x.scratch_long,
        )

    scratch_parts : (take k s ≡ J.words ++ zeros (k - n)) × (drop k s ≡ drop k scratch)
    scratch_parts =
        cut s (J.words ++ zeros (k - n)) (drop k scratch) k (scratch_is ∙ sym (append_assoc J.words (zeros (k - n)) (drop k scratch)))
        (omega (arith, table_long, length-append J.words (zeros (k - n)), length-replicate {A = ℕ} (k - n) 0))

    pub refused_ends : (why : Refusal) → r ≡ Err why → EndsIn D words out scratch (numbered D) (Err why) m o s
    refused_ends why p =
        record {
          ends = subst⁻¹ (λ (y : Out). WalkEnds D y (Err why) (take n m) (take (2 * G) o)) (refuses why (sym said_is ∙ p)) refl;
          past_map = map_parts.1;
          past_out = out_parts.1;
          past_scratch = scratch_parts.1;
        }

    -- where the checks pass, with v words of the map and c gates
    module _ (p : r ≡ passed) (v c : ℕ) (is_words : v ≡ n) (is_count : c ≡ length l.gates / 3) where
      passes : J.said ≡ passed
      passes = sym said_is ∙ p

      pairs : 2 * c ≡ 2 * G
      pairs = omega (arith, is_count, gates_length l.gates)

      work : 3 * v + 3 * c ≡ k
      work = omega (arith, is_words, is_count, gates_length l.gates)

      -- the map at the start
      begins : begun (take n words) l.inputs l.states ≡ (start D.top (l.inputs ++ l.states)).images
      unfolding start
      begins =
          sym (few (take n words) l.inputs l.states x.within.inputs x.within.latches)
          ∙ ap (λ (j : ℕ). store_from (store (replicate j no_image) 0 0) 2 (l.inputs ++ l.states)) (length-take-le n words x.map_long)

      pub ready : WalkReady l (take v m) (take (2 * c) o) (take (3 * v + 3 * c) s)
      ready =
          record {
            resets = x.resets;
            within = x.within;
            agrees = x.agrees;
            bounds = x.bounds;
            once = once_of (both passes).0 (both passes).1;
            mapped = ap (λ (j : ℕ). take j m) is_words ∙ map_parts.0 ∙ begins;
            outs = ap (λ (j : ℕ). take j o) pairs ∙ out_parts.0;
            table = subst⁻¹ (Tabled D.gates) (ap (take n) front_is ∙ take_at J.words (zeros (k - n)) n table_long) (tabled passes);
            clean = ap (drop n) front_is ∙ drop_at J.words (zeros (k - n)) n table_long ∙ ap zeros left;
            room = ap length front_is ∙ long;
          }
        where
          front_is : take (3 * v + 3 * c) s ≡ J.words ++ zeros (k - n)
          front_is = ap (λ (j : ℕ). take j s) work ∙ scratch_parts.0

          left : k - n ≡ 2 * n + 3 * G
          left = omega arith

          long : length (J.words ++ zeros (k - n)) ≡ k
          long = omega (arith, table_long, length-append J.words (zeros (k - n)), length-replicate {A = ℕ} (k - n) 0)

      -- each front lies within its list
      pub map_front : v ≤ length m
      map_front = omega (arith, is_words, em, x.map_long)

      pub out_front : length o ≡ length out → 2 * c ≤ length o
      out_front eo = omega (arith, pairs, eo, x.out_long)

      pub scratch_front : 3 * v + 3 * c ≤ length s
      scratch_front = omega (arith, work, es, x.scratch_long)

      -- after the walks in the fronts, whose words are m', o' and s' then
      pub ends_in_lem : length o ≡ length out → (y : Result ℕ Refusal) (m' o' s' : List ℕ) → WalkEnds D lasts y m' o' → length m' ≡ length (take v m)
          → length o' ≡ length (take (2 * c) o) → length s' ≡ length (take (3 * v + 3 * c) s)
          → EndsIn D words out scratch (numbered D) y (m' ++ drop v m) (o' ++ drop (2 * c) o) (s' ++ drop (3 * v + 3 * c) s)
      ends_in_lem eo y m' o' s' w fm fo fs =
          let pm = cut (m' ++ drop v m) m' (drop v m) n refl (fm ∙ length-take-le v m map_front ∙ is_words) in
          let po = cut (o' ++ drop (2 * c) o) o' (drop (2 * c) o) (2 * G) refl (fo ∙ length-take-le (2 * c) o (out_front eo) ∙ pairs) in
          let ps = cut (s' ++ drop (3 * v + 3 * c) s) s' (drop (3 * v + 3 * c) s) k refl (fs ∙ length-take-le (3 * v + 3 * c) s scratch_front ∙ work) in
          record {
            ends =
                subst⁻¹ (λ (z : Out). WalkEnds D z y (take n (m' ++ drop v m)) (take (2 * G) (o' ++ drop (2 * c) o))) (by_walks passes)
                (subst⁻¹ (λ (z : List ℕ). WalkEnds D lasts y z (take (2 * G) (o' ++ drop (2 * c) o))) pm.0
                (subst⁻¹ (λ (z : List ℕ). WalkEnds D lasts y m' z) po.0 w));
            past_map = pm.1 ∙ ap (λ (j : ℕ). drop j m) is_words ∙ map_parts.1;
            past_out = po.1 ∙ ap (λ (j : ℕ). drop j o) pairs ∙ out_parts.1;
            past_scratch = ps.1 ∙ ap (λ (j : ℕ). drop j s) work ∙ scratch_parts.1;
          }
