-- The parts of which a section is put: a row's next one, the next latch line, the counts up to the last that is not zero, the roots of each
-- kind. Assumes nothing.
use Prim.Native.Nat.{ℕ, ◌+◌, ◌-◌, ◌≤◌, ◌<◌, min}
use mathlib.Core.Path.{◌≡◌, refl, sym, ap, ◌∙◌}
use mathlib.Core.Bool.{Bool, true, false, cond}
use mathlib.Core.Logic.{◌⊎◌, inl, inr}
use mathlib.Core.List.{List, [], ◌∷◌, ◌++◌}
use native.Mathlib.Numerals.{add-one}
use native.Mathlib.Omega.{arith, min_cases}
use lib.Dec.{eqb}
use lib.ListN.{length, get_or, take, drop, length-append, length-take, length-drop, drop_of_length-le}
use lib.Seq.{drop-cons, take_all, take-append-add}
use borrow.Author.Tests.{eq-eqb, ne_eqb}
use Rattle.std.proofs.lemmas.List.{nil_from_length}
use Rattle.token.specs.Format.{digits_of}
use Rattle.place.specs.Place.{last}
use Rattle.place.proofs.Theorems.{further_none}
use Rattle.text.specs.Put.{Puts}
use Rattle.text.proofs.Puts.{Onward, onward_all, onward, onward-last, onward_none}
use Rattle.lines.specs.declared.Header.{Header}
use Rattle.lines.specs.Sections.{Roots, first_roots}
use Rattle.sections.specs.Bytes.{row_bytes, lines_bytes, count_bytes, reset_bytes, latch_bytes, latches_bytes, kept_before, up_to_last, optional, counts_of, roots_bytes}

-- one text behind another
pub puts_then : (out : List ℕ) (at : ℕ) (bs cs : List ℕ) {mid out' : List ℕ} {place place' : ℕ} → length out ≤ last → Puts out at bs mid place
    → Puts mid place cs out' place' → Puts out at (bs ++ cs) out' place'
puts_then out at bs cs {mid} {out'} {place} {place'} short p q =
    onward-last (onward (onward_all out at (bs ++ cs)) bs cs refl mid place short p.0 p.1) out' place' q.0 q.1

-- a row from a place on: its next one and the rest, or nothing at its end

pub row_next : (each : ℕ → List ℕ) (vs : List ℕ) (i : ℕ) → i < length vs
    → row_bytes each (drop i vs) ≡ each (get_or vs i 0) ++ row_bytes each (drop (i + 1) vs)
row_next each vs i there = ap (row_bytes each) (drop-cons vs i 0 there ∙ ap (λ (k : ℕ). get_or vs i 0 ∷ drop k vs) (sym (add-one i)))

pub row_end : (each : ℕ → List ℕ) (vs : List ℕ) (i : ℕ) → length vs ≤ i → row_bytes each (drop i vs) ≡ []
row_end each vs i end = ap (row_bytes each) (drop_of_length-le vs end)

-- a row is put from a place on: its first i are put, and the next one goes to `place`
pub record Rowing (each : ℕ → List ℕ) (out₀ : List ℕ) (at : ℕ) (vs out : List ℕ) (i place : ℕ) : Type 0 where
  pub inside : i ≤ length vs
  pub there : place ≤ last
  pub left : Onward out₀ at (row_bytes each vs) out place (row_bytes each (drop i vs))

pub rowing_none : (each : ℕ → List ℕ) (out : List ℕ) (at : ℕ) (vs : List ℕ) → at ≤ last → Rowing each out at vs out 0 at
rowing_none each out at vs h = record { inside = omega arith; there = h; left = onward_all out at (row_bytes each vs) }

module _ {each : ℕ → List ℕ} {out₀ : List ℕ} {at : ℕ} {vs out : List ℕ} {i place : ℕ} (p : Rowing each out₀ at vs out i place) where
  pub rowing_more : (out' : List ℕ) (place' : ℕ) → i < length vs → length out₀ ≤ last
      → Puts out place (each (get_or vs i 0)) out' place'
      → Rowing each out₀ at vs out' (i + 1) place'
  rowing_more out' place' there short put =
      record {
        inside = omega arith;
        there = omega (arith, put.1);
        left = onward p.left (each (get_or vs i 0)) (row_bytes each (drop (i + 1) vs)) (row_next each vs i there) out' place' short put.0 put.1;
      }

  pub rowing_all : length vs ≤ i → Puts out₀ at (row_bytes each vs) out place
  rowing_all end = onward_none p.left (row_end each vs i end) p.there

pub ruleset rowings = (rowing_none, rowing_more, rowing_all)

-- a reset, by whether it is 0

pub reset_some : (r : ℕ) → 0 < r → reset_bytes r ≡ count_bytes r
unfolding reset_bytes count_bytes
reset_some r h = rw (ne_eqb r 0 (omega arith))

pub reset_none : (r : ℕ) → r ≤ 0 → reset_bytes r ≡ []
unfolding reset_bytes
reset_none r h = rw (eq-eqb r 0 (omega arith))

pub ruleset resets = (reset_some, reset_none, further_none)

-- latch lines are put from a place on, of next states and resets: `ns` and `rs` are left, and the next line goes to `place`
pub record Latching (out₀ : List ℕ) (at : ℕ) (nexts resets out ns rs : List ℕ) (place : ℕ) : Type 0 where
  pub there : place ≤ last
  pub left : Onward out₀ at (latches_bytes nexts resets) out place (latches_bytes ns rs)

pub latching_none : (out : List ℕ) (at : ℕ) (nexts resets ns rs : List ℕ) → at ≤ last → ns ≡ nexts → rs ≡ resets → Latching out at nexts resets out ns rs at
latching_none out at nexts resets ns rs h e f = record {
  there = h;
  left = rw (e, f) (onward_all out at (latches_bytes nexts resets));
}

module _ {out₀ : List ℕ} {at : ℕ} {nexts resets out ns rs : List ℕ} {place : ℕ} (p : Latching out₀ at nexts resets out ns rs place) where
  pub latching_more : (next reset : ℕ) (ns' rs' out' : List ℕ) (place' : ℕ) → ns ≡ next ∷ ns' → rs ≡ reset ∷ rs' → length out₀ ≤ last
      → Puts out place (latch_bytes next reset) out' place' → Latching out₀ at nexts resets out' ns' rs' place'
  latching_more next reset ns' rs' out' place' e f short put =
      record {
        there = omega (arith, put.1);
        left =
            onward p.left (latch_bytes next reset) (latches_bytes ns' rs') (ap (λ (l : List ℕ). latches_bytes l rs) e ∙ ap (latches_bytes (next ∷ ns')) f) out' place'
            short put.0 put.1;
      }

  -- one of the lists has ended
  pub latching_all : (length ns ≡ 0) ⊎ (length rs ≡ 0) → Puts out₀ at (latches_bytes nexts resets) out place
  latching_all end = onward_none p.left (ended end) p.there
    where
      no_resets_lem : (l : List ℕ) → latches_bytes l [] ≡ []
      no_resets_lem [] = refl
      no_resets_lem (n ∷ l) = refl

      ended : (length ns ≡ 0) ⊎ (length rs ≡ 0) → latches_bytes ns rs ≡ []
      ended (inl e) = ap (λ (l : List ℕ). latches_bytes l rs) (nil_from_length ns e)
      ended (inr e) = ap (latches_bytes ns) (nil_from_length rs e) ∙ no_resets_lem ns

pub ruleset latchings = (latching_none, latching_more, latching_all)

-- a latch's line has at most the digits of its next state, a space, the digits of its reset, a newline
pub latch_most : (next reset : ℕ) → length (latch_bytes next reset) ≤ length (digits_of next) + length (digits_of reset) + 2
unfolding latch_bytes reset_bytes
latch_most next reset = go (eqb reset 0)
  where
    go : (t : Bool) → length (digits_of next ++ (cond t [] (32 ∷ digits_of reset) ++ (10 ∷ []))) ≤ length (digits_of next) + length (digits_of reset) + 2
    go true = omega (arith, length-append (digits_of next) (10 ∷ []))
    go false =
        omega (arith, length-append (digits_of next) (32 ∷ (digits_of reset ++ (10 ∷ []))), length-append (digits_of reset) (10 ∷ []))

-- what is kept of counts is their front

kept_front : (v : ℕ) (vs ks : List ℕ) → take (length ks) vs ≡ ks → take (length (kept_before v ks)) (v ∷ vs) ≡ kept_before v ks
kept_front v vs [] e = go (eqb v 0)
  where
    go : (zeroth : Bool) → take (length (cond zeroth [] (v ∷ []))) (v ∷ vs) ≡ cond zeroth [] (v ∷ [])
    go true = refl
    go false = refl
kept_front v vs (k ∷ ks) e = ap (λ (l : List ℕ). v ∷ l) e

pub up_to_last_front : (vs : List ℕ) → take (length (up_to_last vs)) vs ≡ up_to_last vs
up_to_last_front [] = refl
up_to_last_front (v ∷ vs) = kept_front v vs (up_to_last vs) (up_to_last_front vs)

-- the counts of a header are the front of all nine
abbrev pub nine : Header → List ℕ
nine h = h.top ∷ h.inputs ∷ h.latches ∷ h.outputs ∷ h.gates ∷ optional h

pub counts_front : (h : Header) (k : ℕ) → k ≡ length (up_to_last (optional h)) → take (5 + k) (nine h) ≡ counts_of h
counts_front h k e =
    let five : List ℕ = h.top ∷ h.inputs ∷ h.latches ∷ h.outputs ∷ h.gates ∷ [] in
    take-append-add five (optional h) k ∙ ap (λ (l : List ℕ). five ++ l) (ap (λ (n : ℕ). take n (optional h)) e ∙ up_to_last_front (optional h))

-- how many are kept, by the last that is not zero

pub kept_few : (h : Header) → length (up_to_last (optional h)) ≤ 4
kept_few h = omega (arith, ap length (up_to_last_front (optional h)), length-take (length (up_to_last (optional h))) (optional h))

-- roots of a kind, where the counts may go past the list

pub take_within : (n : ℕ) (l : List ℕ) → take (min n (length l)) l ≡ take n l
take_within n l =
    min_cases n (length l) _ (λ _ e. ap (λ (k : ℕ). take k l) e)
    (λ over e. ap (λ (k : ℕ). take k l) e ∙ take_all (length l) l (omega arith) ∙ sym (take_all n l over))

pub drop-within : (n : ℕ) (l : List ℕ) → drop (min n (length l)) l ≡ drop n l
drop-within n l =
    min_cases n (length l) _ (λ _ e. ap (λ (k : ℕ). drop k l) e)
    (λ over e. ap (λ (k : ℕ). drop k l) e ∙ drop_of_length-le l {i = length l} (omega arith) ∙ sym (drop_of_length-le l over))

pub part-within : (n f : ℕ) (l : List ℕ) → take (min (n + f) (length l) - min n (length l)) (drop (min n (length l)) l) ≡ take f (drop n l)
part-within n f l =
    let long = length-drop n l in
    let k : min (n + f) (length l) - min n (length l) ≡ min f (length (drop n l)) = omega arith in
    ap (λ (d : List ℕ). take (min (n + f) (length l) - min n (length l)) d) (drop-within n l)
    ∙ ap (λ (m : ℕ). take m (drop n l)) k ∙ take_within f (drop n l)

pub rest-within : (n : ℕ) (l : List ℕ) → take (length l - min n (length l)) (drop (min n (length l)) l) ≡ drop n l
rest-within n l =
    take_all (length l - min n (length l)) (drop (min n (length l)) l) (omega (arith, length-drop (min n (length l)) l)) ∙ drop-within n l

pub roots_parts : (h : Header) (r : Roots) (fair just : ℕ) → fair ≡ min (first_roots h) (length r.roots)
    → just ≡ min (first_roots h + h.fairness) (length r.roots)
    → roots_bytes h r ≡ lines_bytes (take fair r.roots)
    ++ (lines_bytes r.sizes
    ++ (lines_bytes (take (length r.roots - just) (drop just r.roots)) ++ lines_bytes (take (just - fair) (drop fair r.roots))))
unfolding roots_bytes
roots_parts h r fair just f j =
    rw (f, j, take_within, rest-within (first_roots h + h.fairness), part-within (first_roots h) h.fairness)
