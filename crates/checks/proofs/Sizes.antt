-- Laws of checks 1 to 3: what passes them agrees, and on lengths they say what they say on lists. Assumes nothing.
use Rattle.std.specs.Prelude.{Option, Some, None, Err}
use Prim.Native.Nat.{ℕ, ◌+◌, ◌*◌}
use mathlib.Core.Path.{◌≡◌, refl, sym, ap, ◌∙◌}
use mathlib.Core.Bool.{Bool, true, false, not, ◌||◌}
use lib.Dec.{eqb}
use borrow.Author.Tests.{eqb-true, not-false}
use Rattle.lit.specs.declared.Lit.{Lit}
use Rattle.circuit.specs.declared.CircuitRecord.{CircuitRecord}
use Rattle.circuit.specs.declared.Refusal.{Refusal}
use Rattle.circuit.specs.declared.Refusal.TheVariants.{TooBig, Misshapen, Short, Over}
use Rattle.circuit.specs.Circuit.{codes, first_over}
use Rattle.circuit.specs.Outcome.{Lent, circuit_of, too_big, total, misshapen, too_short}
use Rattle.circuit.proofs.Words.{gates_length}
use Rattle.circuit.proofs.Outcome.{or-false}
use Rattle.checks.specs.declared.Lengths.{Lengths}
use Rattle.checks.specs.Checks.{Check, passed, found, fail_if, fail_at, and_then, over_limit, unequal, lacks, sizing, lengths_of, straying, passing, Shaped}

-- what passes them agrees
pub sizing_shaped : (circuit : CircuitRecord) (n : Lengths) → sizing circuit n ≡ passed
    → (n.states ≡ n.nexts) × (n.states ≡ n.resets) × (n.left_over ≡ 0)
unfolding sizing unequal
sizing_shaped circuit n e = go (over_limit circuit.top.0 n) (counts || latches || resets || words) refl (lacks circuit.top.0 n) e
  where
    counts : Bool
    counts = not (eqb (total circuit.counts) n.roots)

    latches : Bool
    latches = not (eqb n.states n.nexts)

    resets : Bool
    resets = not (eqb n.states n.resets)

    words : Bool
    words = not (eqb n.left_over 0)

    go : (a b : Bool) → counts || latches || resets || words ≡ b → (c : Bool) → fail_if a TooBig (fail_if b Misshapen (fail_if c Short passed)) ≡ passed
        → (n.states ≡ n.nexts) × (n.states ≡ n.resets) × (n.left_over ≡ 0)
    go true b q c k = absurd cc
    go false true q c k = absurd cc
    go false false q c k =
        let three = or-false (counts || latches || resets) words q in
        let two = or-false (counts || latches) resets three.0 in
        let one = or-false counts latches two.0 in (
          eqb-true n.states n.nexts (not-false (eqb n.states n.nexts) one.1),
          eqb-true n.states n.resets (not-false (eqb n.states n.resets) two.1),
          eqb-true n.left_over 0 (not-false (eqb n.left_over 0) three.1),
        )

-- checks 1 to 3 on lengths say what those on the lists say
module _ (l : Lent) where
  big_is : over_limit (circuit_of l).top (lengths_of l) ≡ too_big (circuit_of l)
  unfolding over_limit too_big
  big_is = rw (gates_length l.gates)

  short_is : lacks (circuit_of l).top (lengths_of l) ≡ too_short l (circuit_of l)
  unfolding lacks too_short
  short_is = rw (gates_length l.gates)

  uneven_is : unequal l.circuit.counts (lengths_of l) ≡ misshapen l
  unfolding unequal misshapen
  uneven_is = refl

  pub sizing_is : sizing l.circuit (lengths_of l)
      ≡ fail_if (too_big (circuit_of l)) TooBig (fail_if (misshapen l) Misshapen (fail_if (too_short l (circuit_of l)) Short passed))
  unfolding sizing
  sizing_is = rw (big_is, uneven_is, short_is)

  -- so what checks 4 and 22 say comes after them
  abbrev four : Option ℕ
  four = first_over (2 * (circuit_of l).top + 1) (codes (circuit_of l))

  abbrev last : Check
  last = fail_at four Over (straying l.states l.resets)

  in_turn : passing l ≡ and_then (sizing l.circuit (lengths_of l)) last
  unfolding passing
  in_turn = go (too_big (circuit_of l)) (misshapen l) (too_short l (circuit_of l)) last ∙ ap (λ (c : Check). and_then c last) (sym sizing_is)
    where
      go : (a b c : Bool) (d : Check) → fail_if a TooBig (fail_if b Misshapen (fail_if c Short d))
          ≡ and_then (fail_if a TooBig (fail_if b Misshapen (fail_if c Short passed))) d
      go true b c d = refl
      go false true c d = refl
      go false false true d = refl
      go false false false d = refl

  -- the returns of `checked`
  module _ (r : Check) (e : r ≡ sizing l.circuit (lengths_of l)) where
    pub fails_sized : (why : Refusal) → r ≡ Err why → Err why ≡ passing l
    fails_sized why k = sym (in_turn ∙ ap (λ (c : Check). and_then c last) (sym e ∙ k))

    module _ (k : r ≡ passed) where
      pub shaped : Shaped l.states l.nexts l.resets l.gates
      shaped = let s = sizing_shaped l.circuit (lengths_of l) (sym e ∙ k) in record { latches = s.0; starts = s.1; whole = s.2 }

      past : passing l ≡ last
      past = in_turn ∙ ap (λ (c : Check). and_then c last) (sym e ∙ k)

      module _ (f : Option Lit) (e₄ : f ≡ found four) where
        pub fails_over : (x : Lit) → f ≡ Some x → Err (Over x) ≡ passing l
        fails_over x h = go four (sym h ∙ e₄) ∙ sym past
          where
            go : (o : Option ℕ) → Some x ≡ found o → Err (Over x) ≡ fail_at o Over (straying l.states l.resets)
            go None q = cc
            go (Some d) q = cc

        pub passes : f ≡ None → (s : Check) → s ≡ straying l.states l.resets → s ≡ passing l
        passes h s es = es ∙ go four (sym h ∙ e₄) ∙ sym past
          where
            go : (o : Option ℕ) → None ≡ found o → straying l.states l.resets ≡ fail_at o Over (straying l.states l.resets)
            go None q = refl
            go (Some d) q = cc
