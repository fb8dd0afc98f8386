-- Maps in which each variable below some number goes to itself and no other has an image: one store more of a literal at itself takes the number one on, so the
-- map at the start of an ordered circuit is such a map, and a literal below it has itself for its image. Assumes nothing.
use Rattle.std.specs.Prelude.{Some}
use Prim.Native.Nat.{ℕ, zero, suc, ◌+◌, ◌*◌, ◌<◌, ◌≤◌}
use mathlib.Core.Path.{◌≡◌, refl, ◌∙◌, ap, ap₂, subst}
use mathlib.Core.Logic.{◌⊎◌, inl, inr, ◌≢◌}
use mathlib.Core.List.{List, [], ◌∷◌}
use native.Mathlib.Omega.{arith}
use lib.ListN.{length, replicate, length-replicate}
use Rattle.lit.specs.Code.{var, literal, flipped}
use Rattle.circuit.specs.Graph.{In}
use Rattle.circuit.specs.Map.{no_image, image_in, store, code_of}
use Rattle.circuit.specs.Circuit.{store_from, start}
use Rattle.circuit.specs.Ordered.{images_in, count_from}
use Rattle.circuit.specs.Invariant.{entry}
use Rattle.circuit.proofs.Tests.{lt_or}
use Rattle.circuit.proofs.Start.{store_from-length}
use Rattle.circuit.proofs.Map.{entry_same, entry_other, entry-replicate, store_length, code_image}

-- each variable below k goes to itself, and none of the others has an image
pub record Identity (m : List ℕ) (k : ℕ) : Type 0 where
  pub low : (v : ℕ) → v < k → entry m v ≡ 2 * v
  pub high : (v : ℕ) → k ≤ v → entry m v ≡ no_image

-- the variable k is stored at itself
module _ (m : List ℕ) (k c : ℕ) (is : c ≡ 2 * k) (inside : k < length m) (i : Identity m k) where
  stored : (v : ℕ) → v < suc k → (v < k) ⊎ (k ≤ v) → entry (store m c c) v ≡ 2 * v
  unfolding flipped
  stored v h (inl a) = entry_other m c c v (omega arith) ∙ i.low v a
  stored v h (inr b) =
      let z : v ≡ var c = omega arith in
      let y : flipped c c ≡ 2 * v = omega arith in
      ap (entry (store m c c)) z ∙ entry_same m c c (omega arith) ∙ y

  pub one_more : Identity (store m c c) (suc k)
  one_more = record {
    low = λ v h. stored v h (lt_or v k);
    high = λ v h. entry_other m c c v (omega arith) ∙ i.high v (omega arith);
  }

-- and so are the n variables from k on
many_more : (n k : ℕ) (m : List ℕ) → k + n ≤ length m → Identity m k → Identity (store_from m (2 * k) (count_from (2 * k) n)) (k + n)
many_more zero k m h i = subst (Identity m) (let z : k ≡ k + 0 = omega arith in z) i
many_more (suc n) k m h i =
    let e : 2 * suc k ≡ 2 * k + 2 = omega arith in
    let z : suc k + n ≡ k + suc n = omega arith in
    let m' : List ℕ = store m (2 * k) (2 * k) in
    subst (λ (t : ℕ). Identity (store_from m' t (count_from t n)) (k + suc n)) e
    (subst (Identity (store_from m' (2 * suc k) (count_from (2 * suc k) n))) z
    (many_more n (suc k) m' (omega (arith, store_length m (2 * k) (2 * k))) (one_more m k (2 * k) (omega arith) (omega arith) i)))

-- the map at the start, where the sources are 2, 4, ..
pub start_identity : (top n : ℕ) → n ≤ top → Identity (start top (count_from 2 n)).images (n + 1)
unfolding start
start_identity top n h =
    let z : 1 + n ≡ n + 1 = omega arith in
    let l = length-replicate (top + 1) no_image in
    let empty : Identity (replicate (top + 1) no_image) 0 = record { low = λ v k. absurd (omega arith); high = λ v k. entry-replicate (top + 1) v } in
    subst (Identity (store_from (store (replicate (top + 1) no_image) 0 0) 2 (count_from 2 n))) z
    (many_more n 1 (store (replicate (top + 1) no_image) 0 0) (omega (arith, l, store_length (replicate (top + 1) no_image) 0 0))
    (one_more (replicate (top + 1) no_image) 0 0 (omega arith) (omega (arith, l)) empty))

-- it has an entry for each variable up to the largest
pub start_size : (top n : ℕ) → length (start top (count_from 2 n)).images ≡ top + 1
unfolding start
start_size top n =
    store_from-length (store (replicate (top + 1) no_image) 0 0) 2 (count_from 2 n)
    ∙ store_length (replicate (top + 1) no_image) 0 0 ∙ length-replicate (top + 1) no_image

-- a literal of a variable below k is its own image
module _ (m : List ℕ) (k : ℕ) (few : 2 * k ≤ no_image) (i : Identity m k) where
  pub own_image : (c : ℕ) → c < 2 * k → image_in m c ≡ Some (literal c)
  unfolding flipped
  own_image c h =
      let e : entry m (var c) ≡ 2 * var c = i.low (var c) (omega arith) in
      let n : entry m (var c) ≢ no_image = omega arith in
      let z : flipped (2 * var c) c ≡ c = omega arith in
      code_image m c n ∙ ap (λ (x : ℕ). Some (literal (flipped x c))) e ∙ ap (λ (x : ℕ). Some (literal x)) z

  -- and so with a list of them
  pub own_images : (cs : List ℕ) → ((c : ℕ) → In c cs → c < 2 * k) → images_in m cs ≡ cs
  unfolding images_in code_of
  own_images [] h = refl
  own_images (c ∷ cs) h =
      ap₂ {C = List ℕ} (λ x l. x ∷ l) (ap code_of (own_image c (h c (inl refl)))) (own_images cs (λ x j. h x (inr j)))
