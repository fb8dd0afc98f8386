-- Lists of the definitions against the words that lent lists hold: the stack, the flat gates, the pairs made. Assumes nothing.
use Prim.Native.Nat.{ℕ, zero, suc, ◌+◌, ◌*◌, ◌/◌, ◌%◌, ◌<◌}
use mathlib.Core.Path.{◌≡◌, refl, sym, ◌∙◌, ap, ap₂, subst⁻¹}
use mathlib.Core.Logic.{◌⊎◌, inl, inr}
use mathlib.Core.Bool.{Bool, true, false, cond}
use mathlib.Core.List.{List, [], ◌∷◌, ◌++◌}
use native.Mathlib.Omega.{arith}
use lib.Dec.{eqb}
use lib.ListN.{length, get_or, length-append, get_or-append}
use lib.Seq.{get_or-append_seam}
use Rattle.circuit.specs.Graph.{In, Gate}
use Rattle.circuit.specs.Walk.{Pair, is_middle}
use Rattle.circuit.specs.Machine.{Frame, path_of, frame_word, stack_words}
use Rattle.circuit.specs.Ordered.{no_pair}
use Rattle.circuit.specs.Outcome.{gates_of, pair_words, pairs_of}
use Rattle.circuit.proofs.Tests.{last_or}
use Rattle.circuit.specs.Claims.{gate_at}

-- a word of the stack holds a literal and a phase
pub word_lit : (f : Frame) → frame_word f / 2 ≡ f.lit
word_lit f = go f.on_second
  where
    go : (b : Bool) → (2 * f.lit + cond b 1 0) / 2 ≡ f.lit
    go true = omega arith
    go false = omega arith

pub word_phase : (f : Frame) → frame_word f % 2 ≡ cond f.on_second 1 0
word_phase f = go f.on_second
  where
    go : (b : Bool) → (2 * f.lit + cond b 1 0) % 2 ≡ cond b 1 0
    go true = omega arith
    go false = omega arith

pub stack_length : (fs : List Frame) → length (stack_words fs) ≡ length fs
stack_length [] = refl
stack_length (f ∷ fs) = omega (arith, length-append (stack_words fs) (frame_word f ∷ []), stack_length fs)

pub path_length : (fs : List Frame) → length (path_of fs) ≡ length fs
path_length [] = refl
path_length (f ∷ fs) = omega (arith, length-append (path_of fs) (f.lit ∷ []), path_length fs)

pub stack_lit : (fs : List Frame) (i : ℕ) → i < length fs → get_or (stack_words fs) i 0 / 2 ≡ get_or (path_of fs) i 0
stack_lit [] i h = absurd (omega arith)
stack_lit (f ∷ fs) i h = go (last_or (length fs) i h) (stack_lit fs i)
  where
    go : (i < length fs) ⊎ (i ≡ length fs) → (i < length fs → get_or (stack_words fs) i 0 / 2 ≡ get_or (path_of fs) i 0)
        → get_or (stack_words (f ∷ fs)) i 0 / 2 ≡ get_or (path_of (f ∷ fs)) i 0
    go (inl k) ih =
        rw (
          get_or-append (stack_words fs) (frame_word f ∷ []) 0 i (omega (arith, stack_length fs)),
          get_or-append (path_of fs) (f.lit ∷ []) 0 i (omega (arith, path_length fs)),
        )
        (ih k)
    go (inr e) ih =
        ap (λ (k : ℕ). get_or (stack_words (f ∷ fs)) k 0 / 2) (e ∙ sym (stack_length fs))
        ∙ ap (λ (x : ℕ). x / 2) (get_or-append_seam (stack_words fs) (frame_word f) [] 0) ∙ word_lit f
        ∙ sym (get_or-append_seam (path_of fs) f.lit [] 0) ∙ ap (λ (k : ℕ). get_or (path_of (f ∷ fs)) k 0) (path_length fs ∙ sym e)

-- the test of the middle entry, on words
pub middle_words : (fs : List Frame) (c : ℕ) → 0 < length fs → is_middle (path_of fs) c ≡ eqb (get_or (stack_words fs) (length fs / 2) 0 / 2) c
middle_words fs c h = go (path_of fs) refl
  where
    go : (p : List ℕ) → path_of fs ≡ p → is_middle p c ≡ eqb (get_or (stack_words fs) (length fs / 2) 0 / 2) c
    go [] e = absurd (omega (arith, path_length fs, ap length e))
    go (x ∷ xs) e =
        ap (λ (y : ℕ). eqb y c)
        (ap (λ (l : List ℕ). get_or l (length l / 2) 0) (sym e)
        ∙ ap (λ (n : ℕ). get_or (path_of fs) (n / 2) 0) (path_length fs) ∙ sym (stack_lit fs (length fs / 2) (omega arith)))

-- flat gates
pub gates_length : (ws : List ℕ) → length (gates_of ws) ≡ length ws / 3
gates_length [] = refl
gates_length (o ∷ []) = omega arith
gates_length (o ∷ a ∷ []) = omega arith
gates_length (o ∷ a ∷ b ∷ ws) = omega (arith, gates_length ws)

pub gates_in : (ws : List ℕ) (k : ℕ) → k < length ws / 3 → In (gate_at ws k) (gates_of ws)
gates_in [] k h = absurd (omega arith)
gates_in (o ∷ []) k h = absurd (omega arith)
gates_in (o ∷ a ∷ []) k h = absurd (omega arith)
gates_in (o ∷ a ∷ b ∷ ws) zero h = inl refl
gates_in (o ∷ a ∷ b ∷ ws) (suc k) h =
    let e₀ : 3 * suc k ≡ suc (suc (suc (3 * k))) = omega arith in
    let e₁ : 3 * suc k + 1 ≡ suc (suc (suc (3 * k + 1))) = omega arith in
    let e₂ : 3 * suc k + 2 ≡ suc (suc (suc (3 * k + 2))) = omega arith in
    let at : ℕ → ℕ = λ n. get_or (o ∷ a ∷ b ∷ ws) n 0 in
    let e : gate_at (o ∷ a ∷ b ∷ ws) (suc k) ≡ gate_at ws k =
    ap₂ (λ (x : ℕ) (y : ℕ × ℕ). record { output = x; first = y.0; second = y.1 }) (ap at e₀)
    (ap₂ (λ (x y : ℕ). (x, y)) (ap at e₁) (ap at e₂)) in
    inr (subst⁻¹ (λ (g : Gate). In g (gates_of ws)) e (gates_in ws k (omega arith)))

-- the pairs made, as words
pub pairs_length : (ps : List Pair) → length (pair_words ps) ≡ 2 * length ps
pairs_length [] = refl
pairs_length (p ∷ ps) = omega (arith, pairs_length ps)

pub pairs_snoc : (ps : List Pair) (p : Pair) → pair_words (ps ++ (p ∷ [])) ≡ pair_words ps ++ (p.larger ∷ p.smaller ∷ [])
pairs_snoc [] p = refl
pairs_snoc (q ∷ ps) p = ap {B = List ℕ} (λ l. q.larger ∷ q.smaller ∷ l) (pairs_snoc ps p)

pub pairs_larger : (ps : List Pair) (j : ℕ) → j < length ps → get_or (pair_words ps) (2 * j) 0 ≡ (get_or ps j no_pair).larger
pairs_larger [] j h = absurd (omega arith)
pairs_larger (p ∷ ps) zero h = refl
pairs_larger (p ∷ ps) (suc j) h =
    let e : 2 * suc j ≡ suc (suc (2 * j)) = omega arith in
    rw e (pairs_larger ps j (omega arith))

pub pairs_smaller : (ps : List Pair) (j : ℕ) → j < length ps → get_or (pair_words ps) (2 * j + 1) 0 ≡ (get_or ps j no_pair).smaller
pairs_smaller [] j h = absurd (omega arith)
pairs_smaller (p ∷ ps) zero h = refl
pairs_smaller (p ∷ ps) (suc j) h =
    let e : 2 * suc j + 1 ≡ suc (suc (2 * j + 1)) = omega arith in
    rw e (pairs_smaller ps j (omega arith))

-- and read back
pub pairs_back : (ps : List Pair) → pairs_of (pair_words ps) ≡ ps
pairs_back [] = refl
pairs_back (p ∷ ps) = ap {B = List Pair} (λ l. p ∷ l) (pairs_back ps)
