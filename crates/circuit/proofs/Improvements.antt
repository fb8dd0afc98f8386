-- Errors that look like improvements: the walk with its habits as parameters, that with ours it is the walk, and for each improvement the smallest circuit on
-- which it answers otherwise. Assumes nothing.
use Rattle.std.specs.Prelude.{Option, Some, None}
use Prim.Native.Nat.{ℕ, zero, suc, ◌+◌, min, max}
use mathlib.Core.Path.{◌≡◌, refl, ◌∙◌, ap}
use mathlib.Core.Bool.{Bool, cond, ◌&&◌}
use mathlib.Core.List.{List, [], ◌∷◌, ◌++◌, map}
use lib.Dec.{eqb}
use lib.ListN.{get_or, take, drop}
use Rattle.lit.specs.Code.{var, literal, flipped}
use Rattle.circuit.specs.declared.Refusal.TheVariants.{Cycle}
use Rattle.circuit.specs.Graph.{Gate, gate_for}
use Rattle.circuit.specs.Map.{entry_image, image_in, store, code_of}
use Rattle.circuit.specs.Walk.{Net, source_count, Pair, Work, first_code, next_code, folded, or_else, made_if, already, settle_as, settle_on, settle, Out, reached, stopped, Look, mapped, refused, enter, is_middle, look_at, look, and_then, through_inputs, answer, no_room, walk, stack_room, walk_all}
use Rattle.circuit.specs.Circuit.{Circuit, graph, net, gate_outputs, codes, elem, start, walked, numbered, renumber}
use Rattle.circuit.specs.Ordered.{images_in}
use Rattle.circuit.specs.Outcome.{Lent, circuit_of, pair_words, too_big, misshapen, too_short, conclusion}
use Rattle.circuit.specs.Lending.{trimming, folding, trim_folding, lend, circuit}

-- when a literal on the path is a cycle; the folding rows; a code for a gate of which only the first input has been walked
pub record Habits : Type 0 where
  pub cycle : List ℕ → ℕ → Bool
  pub rows : ℕ → ℕ → Option ℕ
  pub early : Net → Work → Gate → Option ℕ

abbrev pub ours : Habits
ours = record { cycle = is_middle; rows = folded; early = λ N w g. None }

-- the walk of specs/Walk.antt, with these habits
abbrev standing : Habits → Net → List Pair → ℕ → ℕ → Option ℕ
standing h N made hi lo = or_else (cond N.fold (h.rows hi lo) None) (made_if N.hash made (first_code (source_count N)) hi lo)

abbrev settle_on_by : Habits → Net → Work → ℕ → ℕ → ℕ → Work
settle_on_by h N w d x y = settle_as N w d (max x y) (min x y) (standing h N w.made (max x y) (min x y))

abbrev settle_by : Habits → Net → Work → Gate → Work
settle_by h N w g = settle_on_by h N w g.output (code_of (image_in w.images g.first)) (code_of (image_in w.images g.second))

abbrev early_or : Option ℕ → Net → Work → ℕ → Out → Out
early_or (Some t) N w d out = reached (settle_as N w d t t (Some t))
early_or None N w d out = out

abbrev through_by : Habits → Net → (Work → ℕ → Out) → Gate → Work → Out
through_by h N rec g w =
    and_then (rec w g.first) (λ w₁. early_or (h.early N w₁ g) N w₁ g.output (and_then (rec w₁ g.second) (λ w₂. reached (settle_by h N w₂ g))))

abbrev look_by : Habits → Net → List ℕ → Work → ℕ → Look
look_by h N path w c = look_at c (image_in w.images c) (h.cycle path c) (gate_for N.graph.gates (var c))

abbrev walk_by : Habits → Net → ℕ → List ℕ → Work → ℕ → Out
walk_by h N zero path w c = answer (look_by h N path w c) w (λ g. no_room)
walk_by h N (suc room) path w c = answer (look_by h N path w c) w (λ g. through_by h N (λ w' c'. walk_by h N room (path ++ (c ∷ [])) w' c') g w)

abbrev walk_all_by : Habits → Net → List ℕ → Work → Out
walk_all_by h N [] w = reached w
walk_all_by h N (c ∷ cs) w = and_then (walk_by h N (stack_room N) [] w c) (λ w'. walk_all_by h N cs w')

-- with our habits it is our walk
then_same : (o o' : Out) (f f' : Work → Out) → o ≡ o' → ((w : Work) → f w ≡ f' w) → and_then o f ≡ and_then o' f'
then_same (reached w) o' f f' e h = h w ∙ ap (λ (x : Out). and_then x f') e
then_same (stopped r) o' f f' e h = ap (λ (x : Out). and_then x f') e

answer_same : (l : Look) (w : Work) (f f' : Gate → Out) → ((g : Gate) → f g ≡ f' g) → answer l w f ≡ answer l w f'
answer_same mapped w f f' h = refl
answer_same (refused r) w f f' h = refl
answer_same (enter g) w f f' h = h g

pub ours_walk : (N : Net) (room : ℕ) (path : List ℕ) (w : Work) (c : ℕ) → walk_by ours N room path w c ≡ walk N room path w c
unfolding walk look through_inputs settle settle_on already
ours_walk N zero path w c = refl
ours_walk N (suc room) path w c =
    answer_same (look N path w c) w _ _
    (λ g.
    then_same _ _ _ _ (ours_walk N room (path ++ (c ∷ [])) w g.first)
    (λ w₁. then_same _ _ _ _ (ours_walk N room (path ++ (c ∷ [])) w₁ g.second) (λ w₂. refl)))

pub ours_walk_all : (N : Net) (cs : List ℕ) (w : Work) → walk_all_by ours N cs w ≡ walk_all N (stack_room N) cs w
unfolding walk_all
ours_walk_all N [] w = refl
ours_walk_all N (c ∷ cs) w = then_same _ _ _ _ (ours_walk N (stack_room N) [] w c) (λ w₁. ours_walk_all N cs w₁)

-- folding x with its negation
abbrev folds_negation : Habits
folds_negation = record { cycle = is_middle; rows = λ hi lo. or_else (folded hi lo) (cond (eqb hi (flipped lo 1)) (Some 0) None); early = λ N w g. None }

-- skipping a gate's second input once the first is 0
abbrev skips_second : Habits
skips_second = record { cycle = is_middle; rows = folded; early = λ N w g. cond (N.fold && eqb (code_of (image_in w.images g.first)) 0) (Some 0) None }

-- marking path gates to find a cycle sooner
abbrev marks_path : Habits
marks_path = record { cycle = λ path c. elem (var c) (map var path); rows = folded; early = λ N w g. None }

abbrev renumber_by : Habits → Lent → Out
renumber_by h l = walk_all_by h (net (circuit_of l)) (walked (circuit_of l)) (start (circuit_of l).top (graph (circuit_of l)).sources)

-- walking justice before fairness
abbrev justice_first : Circuit → List ℕ
justice_first C =
    let before = get_or C.counts 0 0 + get_or C.counts 1 0 + get_or C.counts 2 0 in
    let fairness = get_or C.counts 3 0 in
    cond C.trim [] (gate_outputs C) ++ (C.nexts
    ++ (take before C.roots ++ (drop (before + fairness) C.roots ++ take fairness (drop before C.roots))))

abbrev renumber_justice_first : Lent → Out
renumber_justice_first l =
    walk_all (net (circuit_of l)) (stack_room (net (circuit_of l))) (justice_first (circuit_of l)) (start (circuit_of l).top (graph (circuit_of l)).sources)

-- dropping gates that folding left unused: of the gates from code t on, those that a literal of the list or a gate kept uses
abbrev kept : ℕ → List Pair → List ℕ → List Pair
kept t [] uses = []
kept t (p ∷ ps) uses = cond (elem (var t) (map var (uses ++ pair_words (kept (t + 2) ps uses)))) (p ∷ kept (t + 2) ps uses) (kept (t + 2) ps uses)

abbrev drops_unused : Lent → Out → Out
drops_unused l (stopped r) = stopped r
drops_unused l (reached w) =
    reached
    (record {
      images = w.images;
      made = kept (first_code (source_count (net (circuit_of l)))) w.made (images_in w.images ((circuit_of l).nexts ++ (circuit_of l).roots));
    })

abbrev done : List ℕ → List Pair → Out
done m ps = reached (record { images = m; made = ps })

abbrev pair : ℕ → ℕ → Pair
pair a b = record { larger = a; smaller = b }

-- input 2, gate 4(2,3), folding
abbrev negations : Lent
negations = circuit folding 2 (2 ∷ []) (4 ∷ 2 ∷ 3 ∷ []) []

-- gate 2(0,2), folding: a cycle behind a 0
abbrev behind_zero : Lent
behind_zero = circuit folding 1 [] (2 ∷ 0 ∷ 2 ∷ []) []

-- gates 2(4,0), 4(2,0), root 2, trim
abbrev ring : Lent
ring = circuit trimming 2 [] (2 ∷ 4 ∷ 0 ∷ 4 ∷ 2 ∷ 0 ∷ []) (2 ∷ [])

-- gates 2(0,0), 4(1,1), fairness 4, justice 2, trim
abbrev fairness_and_justice : Lent
fairness_and_justice = lend trimming 2 [] [] [] (2 ∷ 0 ∷ 0 ∷ 4 ∷ 1 ∷ 1 ∷ []) (0 ∷ 0 ∷ 0 ∷ 1 ∷ 1 ∷ []) (4 ∷ 2 ∷ [])

-- input 2, gates 4(2,3), 6(4,0), root 6, trim and folding: gate 4 is left unused
abbrev unused : Lent
unused = circuit trim_folding 3 (2 ∷ []) (4 ∷ 2 ∷ 3 ∷ 6 ∷ 4 ∷ 0 ∷ []) (6 ∷ [])

-- on each circuit: what we conclude, and what the improvement would
pub improvements :
    ((conclusion negations ≡ done (0 ∷ 2 ∷ 4 ∷ []) (pair 3 2 ∷ [])) × (renumber_by folds_negation negations ≡ done (0 ∷ 2 ∷ 0 ∷ []) []))
    × ((conclusion behind_zero ≡ stopped (Cycle (literal 2))) × (renumber_by skips_second behind_zero ≡ done (0 ∷ 0 ∷ []) []))
    × ((conclusion ring ≡ stopped (Cycle (literal 4))) × (renumber_by marks_path ring ≡ stopped (Cycle (literal 2))))
    × ((conclusion fairness_and_justice ≡ done (0 ∷ 4 ∷ 2 ∷ []) (pair 1 1 ∷ pair 0 0 ∷ []))
    × (renumber_justice_first fairness_and_justice ≡ done (0 ∷ 2 ∷ 4 ∷ []) (pair 0 0 ∷ pair 1 1 ∷ [])))
    × ((conclusion unused ≡ done (0 ∷ 2 ∷ 4 ∷ 0 ∷ []) (pair 3 2 ∷ [])) × (drops_unused unused (conclusion unused) ≡ done (0 ∷ 2 ∷ 4 ∷ 0 ∷ []) []))
unfolding conclusion too_big misshapen too_short renumber numbered codes walk_all walked start store flipped walk look image_in entry_image through_inputs settle
    settle_on settle_as already next_code first_code folded code_of images_in
improvements = ((refl, refl), (refl, refl), (refl, refl), (refl, refl), (refl, refl))
