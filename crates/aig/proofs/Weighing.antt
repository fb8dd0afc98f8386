-- The number that falls, read from the words, is the machine's. Assumes nothing.
use Prim.Native.Nat.{ℕ, ◌+◌, ◌*◌, ◌-◌, ◌%◌, ◌<◌}
use mathlib.Core.Path.{◌≡◌, refl, ◌∙◌, ap, ap₂}
use mathlib.Core.Bool.{Bool, true, false, cond}
use mathlib.Core.List.{List, [], ◌∷◌, ◌++◌}
use native.Mathlib.Omega.{arith}
use lib.Dec.{eqb}
use lib.ListN.{length}
use Rattle.lit.specs.declared.Lit.{Lit}
use Rattle.circuit.specs.Walk.{Net, Work, stack_room}
use Rattle.circuit.specs.Machine.{Frame, stack_words, frame_word}
use Rattle.circuit.specs.Outcome.{gates_of}
use Rattle.circuit.proofs.Machine.{firsts, weight}
use Rattle.circuit.proofs.Words.{word_phase}
use Rattle.circuit.specs.Invariant.{settled}
use Rattle.aig.specs.declared.shape.Shape.{Shape}
use Rattle.aig.specs.declared.walk.Walk.{Walk}
use Rattle.aig.specs.declared.walk.State.TheVariants.{Transfer, First, Second, Return}
use Rattle.aig.specs.Going.{net_of, Holds, Stacked}
use Rattle.aig.specs.Turns.{first_words, weight_of, to_go}
use Rattle.aig.proofs.Stepping.{walking, returning, frame}

words_snoc : (ws : List ℕ) (w : ℕ) → first_words (ws ++ (w ∷ [])) ≡ first_words ws + cond (eqb (w % 2) 0) 2 0
words_snoc [] w = go (cond (eqb (w % 2) 0) 2 0)
  where
    go : (n : ℕ) → n + 0 ≡ 0 + n
    go n = omega arith
words_snoc (v ∷ ws) w = go (cond (eqb (v % 2) 0) 2 0) (first_words ws) (cond (eqb (w % 2) 0) 2 0) (words_snoc ws w)
  where
    go : (a b c : ℕ) {d : ℕ} → d ≡ b + c → a + d ≡ a + b + c
    go a b c e = omega arith

word_first : (f : Frame) → ◌≡◌ {A = ℕ} (cond (eqb (frame_word f % 2) 0) 2 0) (cond f.on_second 0 2)
word_first f = ap (λ (n : ℕ). cond (eqb n 0) 2 0) (word_phase f) ∙ go f.on_second
  where
    go : (b : Bool) → ◌≡◌ {A = ℕ} (cond (eqb (cond b 1 0) 0) 2 0) (cond b 0 2)
    go true = refl
    go false = refl

stack_firsts : (fs : List Frame) → first_words (stack_words fs) ≡ firsts fs
stack_firsts [] = refl
stack_firsts (f ∷ fs) = words_snoc (stack_words fs) (frame_word f) ∙ go (first_words (stack_words fs)) (firsts fs) (stack_firsts fs) (word_first f)
  where
    go : (a b : ℕ) {x y : ℕ} → a ≡ b → x ≡ y → a + x ≡ y + b
    go a b p q = omega arith

module _ {s : Shape} (sources : List ℕ) {gates map out scratch : List ℕ} {fs : List Frame} {w : Work} (n : Walk) (h : Holds s gates n.made w map out scratch)
    (st : Stacked s n.depth fs scratch) where
  abbrev N : Net
  N = net_of s sources gates

  words_weigh : weight_of s gates map scratch n.depth
      ≡ 4 * (length (gates_of gates) - settled w.images (gates_of gates)) + 3 * (2 * length (gates_of gates) - length fs) + firsts fs
  unfolding weight_of
  words_weigh =
      ap₂ (λ (a b : ℕ). 4 * (length (gates_of gates) - settled map (gates_of gates)) + 3 * (2 * length (gates_of gates) - a) + b) st.count
      (ap first_words st.words ∙ stack_firsts fs)
      ∙ ap (λ (m : List ℕ). 4 * (length (gates_of gates) - settled m (gates_of gates)) + 3 * (2 * length (gates_of gates) - length fs) + firsts fs) h.images

  pub weigh_transfer : (l : Lit) → to_go s gates (Transfer n l) map scratch ≡ 2 * weight N (walking fs l.0 w) + 1
  unfolding to_go weight
  weigh_transfer l = omega (arith, words_weigh)

  pub weigh_return : to_go s gates (Return n) map scratch ≡ 2 * weight N (returning fs w) + 2
  unfolding to_go weight
  weigh_return = omega (arith, words_weigh)

  module _ (l : Lit) (room : length fs < stack_room N) where
    pub weigh_first : to_go s gates (First n l) map scratch ≡ 2 * weight N (returning (frame l.0 false ∷ fs) w) + 1
    unfolding to_go weight
    weigh_first = omega (arith, words_weigh)

    pub weigh_second : to_go s gates (Second n l) map scratch ≡ 2 * weight N (returning (frame l.0 true ∷ fs) w) + 1
    unfolding to_go weight
    weigh_second = omega (arith, words_weigh)
