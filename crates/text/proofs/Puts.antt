-- Bytes put one after the other: the next byte goes to the place after the last, and a slice never reaches the largest place, so that place serves past the
-- end as well as the one meant. Assumes nothing.
use mathlib.Core.Path.{◌≡◌, refl, sym, ap, ◌∙◌}
use mathlib.Core.List.{List, [], ◌∷◌, ◌++◌, append_assoc}
use Prim.Native.Nat.{ℕ, suc, ◌+◌, ◌-◌, ◌≤◌, ◌<◌}
use native.Mathlib.Nat.{add-zero, add-suc, suc-add}
use native.Mathlib.Numerals.{add-one}
use native.Mathlib.Omega.{arith, min_cases}
use lib.ListN.{length, get_or, set, take, drop, length-set, length-append, take-append-drop, drop_of_length-le}
use lib.Seq.{take-suc, take_all, take-append_seam, length-take-le, set_out, set_comm, sets, sets-eq}
use Rattle.place.specs.Place.{last, further}
use Rattle.place.proofs.Theorems.{further_none, further_twice}
use Rattle.text.specs.Put.{put_all}

pub length_put_all : (out : List ℕ) (at : ℕ) (bs : List ℕ) → length (put_all out at bs) ≡ length out
length_put_all out at [] = refl
length_put_all out at (b ∷ bs) = length_put_all (set out at b) (suc at) bs ∙ length-set out at b

-- two texts in a row
pub put_all_append : (out : List ℕ) (at : ℕ) (bs cs : List ℕ) → put_all out at (bs ++ cs) ≡ put_all (put_all out at bs) (at + length bs) cs
put_all_append out at [] cs = ap (λ (i : ℕ). put_all out i cs) (sym (add-zero at))
put_all_append out at (b ∷ bs) cs =
    put_all_append (set out at b) (suc at) bs cs
    ∙ ap (λ (i : ℕ). put_all (put_all (set out at b) (suc at) bs) i cs) (suc-add at (length bs) ∙ sym (add-suc at (length bs)))

pub put_all_past : (out : List ℕ) (at : ℕ) (bs : List ℕ) → length out ≤ at → put_all out at bs ≡ out
put_all_past out at [] h = refl
put_all_past out at (b ∷ bs) h = put_all_past (set out at b) (suc at) bs (omega (arith, length-set out at b)) ∙ set_out out at b h

-- a byte behind a text may be put before it
pub put_all_behind : (out : List ℕ) (at : ℕ) (bs : List ℕ) (place b : ℕ) → at + length bs ≤ place
    → put_all (set out place b) at bs ≡ set (put_all out at bs) place b
put_all_behind out at [] place b h = refl
put_all_behind out at (c ∷ cs) place b h =
    ap (λ (l : List ℕ). put_all l (suc at) cs) (set_comm out place at b c (omega arith)) ∙ put_all_behind (set out at c) (suc at) cs place b (omega arith)

-- a text that fits, and what was there around it
pub put_all_fits : (out : List ℕ) (at : ℕ) (bs : List ℕ) → at + length bs ≤ length out → put_all out at bs ≡ take at out ++ (bs ++ drop (at + length bs) out)
put_all_fits out at bs room = as_sets out at bs ∙ sets-eq bs out at room ∙ append_assoc (take at out) bs (drop (at + length bs) out)
  where
    as_sets : (l : List ℕ) (i : ℕ) (vs : List ℕ) → put_all l i vs ≡ sets l i vs
    as_sets l i [] = refl
    as_sets l i (v ∷ vs) = as_sets (set l i v) (suc i) vs

-- a text that fits from the front on is what stands there
pub put_all_front : (out bs : List ℕ) (n : ℕ) → n ≡ length bs → n ≤ length out → take n (put_all out 0 bs) ≡ bs
put_all_front out bs n e room =
    ap (λ (k : ℕ). take k (put_all out 0 bs)) e ∙ ap (take (length bs)) (put_all_fits out 0 bs (omega arith))
    ∙ take-append_seam bs (drop (0 + length bs) out)

-- any text: as much of it as fits
pub put_all_is : (out : List ℕ) (at : ℕ) (bs : List ℕ) → at ≤ length out
    → put_all out at bs ≡ take at out ++ (take (length out - at) bs ++ drop (at + length bs) out)
put_all_is out at bs there =
    min_cases (length bs) (length out - at) _
    (λ fits _. put_all_fits out at bs (omega arith)
    ∙ ap (λ (l : List ℕ). take at out ++ (l ++ drop (at + length bs) out)) (sym (take_all (length out - at) bs fits)))
    (λ over _. cut (length out - at) (omega arith) over)
  where
    cut : (k : ℕ) → at + k ≡ length out → k ≤ length bs → put_all out at bs ≡ take at out ++ (take k bs ++ drop (at + length bs) out)
    cut k end over =
        let n : length (take k bs) ≡ k = length-take-le k bs over in
        ap (put_all out at) (sym (take-append-drop k bs)) ∙ put_all_append out at (take k bs) (drop k bs)
        ∙ put_all_past (put_all out at (take k bs)) (at + length (take k bs)) (drop k bs) (omega (arith, length_put_all out at (take k bs)))
        ∙ put_all_fits out at (take k bs) (omega arith)
        ∙ ap (λ (l : List ℕ). take at out ++ (take k bs ++ l))
        (drop_of_length-le out {i = at + length (take k bs)} (omega arith) ∙ sym (drop_of_length-le out {i = at + length bs} (omega arith)))

-- a text at the place that the one before it answered: what is left, and the place after both
pub put_all_on : (out : List ℕ) (at : ℕ) (bs cs : List ℕ) → length out ≤ last → put_all (put_all out at bs) (further at (length bs)) cs ≡ put_all out at (bs ++ cs)
put_all_on out at bs cs short = there ∙ sym (put_all_append out at bs cs)
  where
    there : put_all (put_all out at bs) (further at (length bs)) cs ≡ put_all (put_all out at bs) (at + length bs) cs
    there =
        let n : length (put_all out at bs) ≡ length out = length_put_all out at bs in
        min_cases (at + length bs) last _ (λ _ e. ap (λ (i : ℕ). put_all (put_all out at bs) i cs) e)
        (λ over e. ap (λ (i : ℕ). put_all (put_all out at bs) i cs) e ∙ put_all_past (put_all out at bs) last cs (omega arith)
        ∙ sym (put_all_past (put_all out at bs) (at + length bs) cs (omega arith)))

pub place_on : (at : ℕ) (bs cs : List ℕ) → further (further at (length bs)) (length cs) ≡ further at (length (bs ++ cs))
place_on at bs cs = further_twice at (length bs) (length cs) ∙ ap (further at) (sym (length-append bs cs))

-- the bytes of s put so far from a place on, i of them, and where the next one goes
pub record Putting (out₀ : List ℕ) (at : ℕ) (s out : List ℕ) (i place : ℕ) : Type 0 where
  pub inside : i ≤ length s
  pub left : out ≡ put_all out₀ at (take i s)
  pub after : place ≡ further at i

pub putting_none : (out : List ℕ) (at : ℕ) (s : List ℕ) → at ≤ last → Putting out at s out 0 at
putting_none out at s h = record { inside = omega arith; left = refl; after = sym (further_none at h) }

module _ {out₀ : List ℕ} {at : ℕ} {s out : List ℕ} {i place : ℕ} (p : Putting out₀ at s out i place) where
  pub putting_more : (out' : List ℕ) (place' : ℕ) → i < length s → length out₀ ≤ last → out' ≡ set out place (get_or s i 0) → place' ≡ further place 1
      → Putting out₀ at s out' (i + 1) place'
  putting_more out' place' there short e f =
      let n : length (take i s) ≡ i = length-take-le i s (omega arith) in
      let next : take (i + 1) s ≡ take i s ++ (get_or s i 0 ∷ []) = ap (λ (k : ℕ). take k s) (add-one i) ∙ take-suc s i 0 there in
      let stored : set (put_all out₀ at (take i s)) (further at (length (take i s))) (get_or s i 0) ≡ put_all out₀ at (take i s ++ (get_or s i 0 ∷ []))
      = put_all_on out₀ at (take i s) (get_or s i 0 ∷ []) short in
      record {
        inside = omega arith;
        left =
            e ∙ ap (λ (l : List ℕ). set l place (get_or s i 0)) p.left
            ∙ ap (λ (k : ℕ). set (put_all out₀ at (take i s)) k (get_or s i 0)) (p.after ∙ ap (further at) (sym n)) ∙ stored
            ∙ ap (put_all out₀ at) (sym next);
        after = f ∙ ap (λ (k : ℕ). further k 1) p.after ∙ further_twice at i 1;
      }

  pub putting_all : length s ≤ i → (out ≡ put_all out₀ at s) × (place ≡ further at (length s))
  putting_all end =
      let all : i ≡ length s = omega arith in
      (p.left ∙ ap (put_all out₀ at) (take_all i s end), p.after ∙ ap (further at) all)

  pub putting_keeps : length out ≡ length out₀
  putting_keeps = ap length p.left ∙ length_put_all out₀ at (take i s)

-- of a text that is put at a place, what is left of it and where that goes: once it is put there, the whole text is put
pub record Onward (out₀ : List ℕ) (at : ℕ) (whole out : List ℕ) (place : ℕ) (rest : List ℕ) : Type 0 where
  pub left : put_all out place rest ≡ put_all out₀ at whole
  pub after : further place (length rest) ≡ further at (length whole)
  pub kept : length out ≡ length out₀

pub onward_all : (out : List ℕ) (at : ℕ) (whole : List ℕ) → Onward out at whole out at whole
onward_all out at whole = record { left = refl; after = refl; kept = refl }

module _ {out₀ : List ℕ} {at : ℕ} {whole out : List ℕ} {place : ℕ} {rest : List ℕ} (o : Onward out₀ at whole out place rest) where
  -- a part of what is left is put
  pub onward : (bs cs : List ℕ) → rest ≡ bs ++ cs → (out' : List ℕ) (place' : ℕ) → length out₀ ≤ last → out' ≡ put_all out place bs
      → place' ≡ further place (length bs) → Onward out₀ at whole out' place' cs
  onward bs cs parts out' place' short e f =
      record {
        left =
            ap (λ (l : List ℕ). put_all l place' cs) e ∙ ap (λ (i : ℕ). put_all (put_all out place bs) i cs) f
            ∙ put_all_on out place bs cs (omega (arith, o.kept)) ∙ ap (put_all out place) (sym parts) ∙ o.left;
        after =
            ap (λ (i : ℕ). further i (length cs)) f ∙ place_on place bs cs ∙ ap (λ (l : List ℕ). further place (length l)) (sym parts) ∙ o.after;
        kept = ap length e ∙ length_put_all out place bs ∙ o.kept;
      }

  -- all that is left is put
  pub onward-last : (out' : List ℕ) (place' : ℕ) → out' ≡ put_all out place rest → place' ≡ further place (length rest)
      → (out' ≡ put_all out₀ at whole) × (place' ≡ further at (length whole))
  onward-last out' place' e f = (e ∙ o.left, f ∙ o.after)

  -- nothing is left
  pub onward_none : rest ≡ [] → place ≤ last → (out ≡ put_all out₀ at whole) × (place ≡ further at (length whole))
  onward_none none there = (
    ap (put_all out place) (sym none) ∙ o.left,
    sym (further_none place there) ∙ ap (λ (l : List ℕ). further place (length l)) (sym none) ∙ o.after,
  )
