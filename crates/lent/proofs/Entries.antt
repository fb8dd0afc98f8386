-- Laws of the map at the start and of the images of lists, in the code's own terms. Assumes nothing.
use Rattle.std.specs.Prelude.{Option}
use Prim.Native.Nat.{ℕ, ◌+◌, ◌*◌, ◌<◌}
use mathlib.Core.Path.{◌≡◌, sym, ap, ◌∙◌}
use mathlib.Core.List.{List, [], ◌∷◌, ◌++◌}
use native.Mathlib.Omega.{arith}
use lib.ListN.{length, get_or, set, take, drop, replicate, length-map, get_or-map}
use Rattle.lit.specs.Code.{literal}
use Rattle.lit.specs.declared.Lit.{Lit}
use Rattle.circuit.specs.Map.{no_image, image_in, store, code_of}
use Rattle.circuit.specs.Circuit.{store_from}
use Rattle.circuit.specs.Ordered.{images_in}
use Rattle.lent.proofs.Rows.{get_d_any, onto_more}

store_from-append : (m : List ℕ) (t : ℕ) (xs ys : List ℕ) → store_from m t (xs ++ ys) ≡ store_from (store_from m t xs) (t + 2 * length xs) ys
store_from-append m t [] ys = ap (λ (k : ℕ). store_from m k ys) (omega arith)
store_from-append m t (x ∷ xs) ys =
    store_from-append (store m x t) (t + 2) xs ys ∙ ap (λ (k : ℕ). store_from (store_from (store m x t) (t + 2) xs) k ys) (omega arith)

pub begun : (m inputs states m₀ m₁ m₂ m₃ : List ℕ) (x y : Lit) (k : ℕ) → m₀ ≡ replicate (length m) no_image → x ≡ literal 0 → y ≡ literal 0
    → m₁ ≡ store m₀ x.0 y.0 → m₂ ≡ store_from m₁ 2 inputs → k ≡ 2 + 2 * length inputs → m₃ ≡ store_from m₂ k states
    → m₃ ≡ store_from (store (replicate (length m) no_image) 0 0) 2 (inputs ++ states)
begun m inputs states m₀ m₁ m₂ m₃ x y k e₀ ex ey e₁ e₂ e e₃ =
    let f₁ : m₁ ≡ store (replicate (length m) no_image) 0 0
    = e₁ ∙ ap (λ (l : Lit). store m₀ l.0 y.0) ex ∙ ap (λ (l : Lit). store m₀ 0 l.0) ey ∙ ap (λ (m : List ℕ). store m 0 0) e₀ in
    e₃ ∙ ap (λ (j : ℕ). store_from m₂ j states) e
    ∙ ap (λ (m : List ℕ). store_from m (2 + 2 * length inputs) states) (e₂ ∙ ap (λ (m : List ℕ). store_from m 2 inputs) f₁)
    ∙ sym (store_from-append (store (replicate (length m) no_image) 0 0) 2 inputs states)

-- the images of a list, a literal a turn
pub images_length : (m ls : List ℕ) → length (images_in m ls) ≡ length ls
unfolding images_in
images_length m ls = length-map ls _

images_at_lem : (m ls : List ℕ) (i : ℕ) → i < length ls → code_of (image_in m (get_or ls i 0)) ≡ get_or (images_in m ls) i 0
unfolding images_in
images_at_lem m ls i h = sym (get_or-map (λ c. code_of (image_in m c)) ls i 0) ∙ get_d_any (images_in m ls) i _ 0 (omega (arith, images_length m ls))

pub images_more : (m ls o o' : List ℕ) (i x : ℕ) (j : Option Lit) (l : Lit) → i < length ls → i < length o → o' ≡ take i (images_in m ls) ++ drop i o
    → x ≡ code_of j → j ≡ image_in m l.0 → l ≡ literal (get_or ls i 0) → set o' i x ≡ take (i + 1) (images_in m ls) ++ drop (i + 1) o
images_more m ls o o' i x j l h k d f g e =
    let b : x ≡ get_or (images_in m ls) i 0 = f ∙ ap code_of (g ∙ ap (λ (y : Lit). image_in m y.0) e) ∙ images_at_lem m ls i h in
    rw d (onto_more (images_in m ls) o i x (omega (arith, images_length m ls)) k b)
