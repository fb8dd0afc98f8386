-- Where the walk does not run out of room, more room changes nothing, by induction on the room: what it came to, it came to without looking at how much
-- was left. So two entries a gate, which are room enough (proofs/InRoom.antt), are no limit. Assumes nothing.
use Prim.Native.Nat.{ℕ, zero, suc, ◌+◌, ◌-◌}
use mathlib.Core.Path.{◌≡◌, refl, ◌∙◌, ap, subst⁻¹}
use mathlib.Core.Logic.{◌≢◌}
use mathlib.Core.List.{List, [], ◌∷◌, ◌++◌}
use native.Mathlib.Omega.{arith}
use Rattle.circuit.specs.declared.Refusal.{Refusal}
use Rattle.circuit.specs.declared.Refusal.TheVariants.{TooBig, Misshapen, Short, Over, Reset, Again, StateAgain, Undefined, Cycle}
use Rattle.circuit.specs.Refusals.{refusal_number}
use Rattle.circuit.specs.Graph.{Gate, DefinedOnce}
use Rattle.circuit.specs.Walk.{Net, Work, Out, reached, stopped, Look, mapped, refused, enter, look, answer, and_then, through_inputs, no_room, walk, stack_room, walk_all}
use Rattle.circuit.specs.Circuit.{Circuit, graph, net, start, walked, walk_with}
use Rattle.circuit.specs.Tested.{InBounds}
use Rattle.circuit.specs.Demands.{EndsFirst, by_success, by_seven, by_eight, NeverTooDeep}
use Rattle.circuit.specs.Invariant.{Sized, Inv, InRoom}
use Rattle.circuit.proofs.Walk.{Cause, Post, AllPost, walk_ok, walk_all_ok}
use Rattle.circuit.proofs.InRoom.{walk_in_room, all_in_room}
use Rattle.circuit.proofs.Start.{start_inv}
use Rattle.circuit.proofs.Renumber.{Limits, sized}

then_same : (o o' : Out) (f f' : Work → Out) → InRoom (and_then o f) → (InRoom o → o' ≡ o) → ((w : Work) → InRoom (f w) → f' w ≡ f w)
    → and_then o' f' ≡ and_then o f
then_same (reached w) o' f f' n e h = ap (λ (x : Out). and_then x f') (e tt) ∙ h w n
then_same (stopped r) o' f f' n e h = ap (λ (x : Out). and_then x f') (e n)

inputs_same : (N : Net) (rec rec' : Work → ℕ → Out) → ((w : Work) (c : ℕ) → InRoom (rec w c) → rec' w c ≡ rec w c) → (g : Gate) (w : Work)
    → InRoom (through_inputs N rec g w) → through_inputs N rec' g w ≡ through_inputs N rec g w
unfolding through_inputs
inputs_same N rec rec' h g w n =
    then_same (rec w g.first) (rec' w g.first) _ _ n (h w g.first)
    (λ w₁ n₁. then_same (rec w₁ g.second) (rec' w₁ g.second) _ _ n₁ (h w₁ g.second) (λ w₂ n₂. refl))

one_more : (N : Net) (k : ℕ) (path : List ℕ) (w : Work) (c : ℕ) → InRoom (walk N k path w c) → walk N (suc k) path w c ≡ walk N k path w c
unfolding walk
one_more N zero path w c n = go (look N path w c) n
  where
    go : (l : Look) → InRoom (answer l w (λ g. no_room))
        → answer l w (λ g. through_inputs N (λ w' c'. walk N zero (path ++ (c ∷ [])) w' c') g w) ≡ answer l w (λ g. no_room)
    go mapped n = refl
    go (refused r) n = refl
    go (enter g) n = absurd (n refl)
one_more N (suc k) path w c n = go (look N path w c) n (λ w' c' n'. one_more N k (path ++ (c ∷ [])) w' c' n')
  where
    go : (l : Look) → InRoom (answer l w (λ g. through_inputs N (λ w' c'. walk N k (path ++ (c ∷ [])) w' c') g w))
        → ((w' : Work) (c' : ℕ) → InRoom (walk N k (path ++ (c ∷ [])) w' c') → walk N (suc k) (path ++ (c ∷ [])) w' c' ≡ walk N k (path ++ (c ∷ [])) w' c')
        → answer l w (λ g. through_inputs N (λ w' c'. walk N (suc k) (path ++ (c ∷ [])) w' c') g w)
        ≡ answer l w (λ g. through_inputs N (λ w' c'. walk N k (path ++ (c ∷ [])) w' c') g w)
    go mapped n rec = refl
    go (refused r) n rec = refl
    go (enter g) n rec = inputs_same N _ _ rec g w n

more : (N : Net) (k room : ℕ) (w : Work) (c : ℕ) → InRoom (walk N room [] w c) → walk N (k + room) [] w c ≡ walk N room [] w c
more N zero room w c n = let z : 0 + room ≡ room = omega arith in ap (λ (r : ℕ). walk N r [] w c) z
more N (suc k) room w c n =
    let e = more N k room w c n in
    let z : suc k + room ≡ suc (k + room) = omega arith in
    ap (λ (r : ℕ). walk N r [] w c) z ∙ one_more N (k + room) [] w c (subst⁻¹ InRoom e n) ∙ e

module _ (N : Net) (top : ℕ) (once : DefinedOnce N.graph) (sized : Sized N top) where
  -- with more than two entries a gate the walk of all the literals comes to the same
  pub more_room : (k : ℕ) (cs : List ℕ) (w : Work) → Inv N top w → walk_all N (k + stack_room N) cs w ≡ walk_all N (stack_room N) cs w
  unfolding walk_all
  more_room k [] w i = refl
  more_room k (c ∷ cs) w i =
      ap (λ (o : Out). and_then o (λ w₁. walk_all N (k + stack_room N) cs w₁)) (more N k (stack_room N) w c (walk_in_room N top once sized w i c))
      ∙ go (walk N (stack_room N) [] w c) (walk_ok N top once sized (stack_room N) [] w c i) (λ w₁ i₁. more_room k cs w₁ i₁)
    where
      go : (o : Out) → Post N top [] w c o → ((w₁ : Work) → Inv N top w₁ → walk_all N (k + stack_room N) cs w₁ ≡ walk_all N (stack_room N) cs w₁)
          → and_then o (λ w₁. walk_all N (k + stack_room N) cs w₁) ≡ and_then o (λ w₁. walk_all N (stack_room N) cs w₁)
      go (reached w₁) p rec = rec w₁ p.0
      go (stopped r) p rec = refl

module _ (C : Circuit) (limits : Limits C) (b : InBounds C) (once : DefinedOnce (graph C)) where
  begun : Inv (net C) C.top (start C.top (graph C).sources)
  begun = start_inv (net C) C.top once (sized C limits b)

  all_ends : (o : Out) → AllPost (net C) C.top (walked C) (start C.top (graph C).sources) o → InRoom o → EndsFirst o
  all_ends (reached w) p q = by_success w
  all_ends (stopped r) p q = go r p.2 q
    where
      go : (r : Refusal) → Cause (graph C) p.0 r → refusal_number r ≢ 1 → EndsFirst (stopped r)
      go TooBig k n = absurd (n refl)
      go Misshapen k n = absurd k
      go Short k n = absurd k
      go (Over l) k n = absurd k
      go (Reset l) k n = absurd k
      go (Again l) k n = absurd k
      go (StateAgain l) k n = absurd k
      go (Undefined l) k n = by_seven l
      go (Cycle l) k n = by_eight l

  pub never_too_deep : NeverTooDeep C
  never_too_deep =
      record {
        ends =
            all_ends (walk_with (stack_room (net C)) C)
            (walk_all_ok (net C) C.top once (sized C limits b) (stack_room (net C)) (walked C) (start C.top (graph C).sources) begun)
            (all_in_room (net C) C.top once (sized C limits b) (walked C) (start C.top (graph C).sources) begun);
        more_is_same =
            λ room h.
            let e : room ≡ room - stack_room (net C) + stack_room (net C) = omega arith in
            ap (λ (k : ℕ). walk_with k C) e
            ∙ more_room (net C) C.top once (sized C limits b) (room - stack_room (net C)) (walked C) (start C.top (graph C).sources) begun;
      }
