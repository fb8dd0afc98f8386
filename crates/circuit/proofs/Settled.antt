-- How many gates have their image: what has an image keeps it, so the number grows with each gate settled and never passes the number of gates.
-- Assumes nothing.
use Prim.Native.Nat.{ℕ, ◌<◌, ◌≤◌}
use mathlib.Core.Path.{◌≡◌, refl, subst}
use mathlib.Core.Logic.{inl, inr, ◌≢◌}
use mathlib.Core.Bool.{Bool, true, false, cond}
use mathlib.Core.List.{List, [], ◌∷◌}
use native.Mathlib.Omega.{arith}
use lib.Dec.{eqb}
use lib.ListN.{length}
use Rattle.circuit.specs.Graph.{In, Gate, out_var}
use Rattle.circuit.specs.Map.{no_image}
use Rattle.circuit.proofs.Tests.{Same, same, other, same_test}
use Rattle.circuit.specs.Invariant.{one_of, settled, entry}

one_of_gone : (e : ℕ) → e ≡ no_image → one_of e ≡ 0
unfolding one_of
one_of_gone e h = rw h

one_of-found : (e : ℕ) → e ≢ no_image → one_of e ≡ 1
unfolding one_of
one_of-found e n = go (eqb e no_image) (same_test e no_image)
  where
    go : (b : Bool) → Same e no_image b → ◌≡◌ {A = ℕ} (cond b 0 1) 1
    go true (same h) = absurd (n h)
    go false (other h) = refl

one_of_mono : (e e' : ℕ) → (e ≢ no_image → e' ≢ no_image) → one_of e ≤ one_of e'
one_of_mono e e' f = go (eqb e no_image) (same_test e no_image)
  where
    go : (b : Bool) → Same e no_image b → one_of e ≤ one_of e'
    go true (same h) = omega (arith, one_of_gone e h)
    go false (other h) = omega (arith, one_of-found e h, one_of-found e' (f h))

one_of_le : (e : ℕ) → one_of e ≤ 1
one_of_le e = go (eqb e no_image) (same_test e no_image)
  where
    go : (b : Bool) → Same e no_image b → one_of e ≤ 1
    go true (same h) = omega (arith, one_of_gone e h)
    go false (other h) = omega (arith, one_of-found e h)

pub settled_le : (m : List ℕ) (gs : List Gate) → settled m gs ≤ length gs
unfolding settled
settled_le m [] = omega arith
settled_le m (g ∷ gs) = omega (arith, settled_le m gs, one_of_le (entry m (out_var g)))

settled_mono : (m m' : List ℕ) (gs : List Gate) → ((v : ℕ) → entry m v ≢ no_image → entry m' v ≢ no_image) → settled m gs ≤ settled m' gs
unfolding settled
settled_mono m m' [] f = omega arith
settled_mono m m' (g ∷ gs) f = omega (arith, settled_mono m m' gs f, one_of_mono (entry m (out_var g)) (entry m' (out_var g)) (f (out_var g)))

pub settled_more : (m m' : List ℕ) (gs : List Gate) → ((v : ℕ) → entry m v ≢ no_image → entry m' v ≢ no_image)
    → (g : Gate) → In g gs → entry m (out_var g) ≡ no_image → entry m' (out_var g) ≢ no_image → settled m gs < settled m' gs
unfolding settled
settled_more m m' [] f g h p q = absurd h
settled_more m m' (g' ∷ gs) f g (inl e) p q =
    omega (
      arith,
      settled_mono m m' gs f,
      one_of_gone (entry m (out_var g')) (subst (λ (x : Gate). entry m (out_var x) ≡ no_image) e p),
      one_of-found (entry m' (out_var g')) (subst (λ (x : Gate). entry m' (out_var x) ≢ no_image) e q),
    )
settled_more m m' (g' ∷ gs) f g (inr h) p q =
    omega (arith, settled_more m m' gs f g h p q, one_of_mono (entry m (out_var g')) (entry m' (out_var g')) (f (out_var g')))

pub settled_room : (m : List ℕ) (gs : List Gate) (g : Gate) → In g gs → entry m (out_var g) ≡ no_image → settled m gs < length gs
unfolding settled
settled_room m [] g h p = absurd h
settled_room m (g' ∷ gs) g (inl e) p =
    omega (arith, settled_le m gs, one_of_gone (entry m (out_var g')) (subst (λ (x : Gate). entry m (out_var x) ≡ no_image) e p))
settled_room m (g' ∷ gs) g (inr h) p = omega (arith, settled_room m gs g h p, one_of_le (entry m (out_var g')))
