-- Laws of lists as loops write and read them, a cell a turn. The cells are numbers, so each law serves bytes and words alike. Assumes nothing.
use Prim.Native.Nat.{ℕ, zero, suc, ◌+◌, ◌<◌, ◌≤◌, min}
use mathlib.Core.Path.{◌≡◌, refl, ap}
use mathlib.Core.List.{List, [], ◌∷◌, ◌++◌}
use native.Mathlib.Numerals.{add-one}
use native.Mathlib.Omega.{arith}
use Rattle.std.proofs.Math.Nat.{min_comm}
use Rattle.std.proofs.lemmas.List.{take_min, drop_min}
use lib.ListN.{length, get_or, set, take, drop, drop_of_length-le}
use lib.Seq.{drop-cons}
use Rattle.circuit.specs.Outcome.{onto}

-- within the list the default does not matter
pub get_d_any : {A : Type 0} (l : List A) (i : ℕ) (d e : A) → i < length l → get_or l i d ≡ get_or l i e
get_d_any [] i d e h = absurd (omega arith)
get_d_any (x ∷ l) zero d e h = refl
get_d_any (x ∷ l) (suc i) d e h = get_d_any l i d e (omega arith)

-- words that are written onto a list, one a turn: one more
pub onto_more : (ys o : List ℕ) (i x : ℕ) → i < length ys → i < length o → x ≡ get_or ys i 0 → set (take i ys ++ drop i o) i x ≡ take (i + 1) ys ++ drop (i + 1) o
onto_more ys o i x h k e = rw (e, add-one i) (go ys o i h k)
  where
    go : (ys o : List ℕ) (i : ℕ) → i < length ys → i < length o → set (take i ys ++ drop i o) i (get_or ys i 0) ≡ take (suc i) ys ++ drop (suc i) o
    go [] o i h k = absurd (omega arith)
    go (y ∷ ys) [] i h k = absurd (omega arith)
    go (y ∷ ys) (x ∷ o) zero h k = refl
    go (y ∷ ys) (x ∷ o) (suc i) h k = ap {B = List ℕ} (λ l. y ∷ l) (go ys o i (omega arith) (omega arith))

-- as many of them as there are words for
pub onto_front : (ys o : List ℕ) (i : ℕ) → i ≡ min (length ys) (length o) → take i ys ++ drop i o ≡ onto ys o
onto_front ys o i e = rw (e, drop_min (length ys) o, min_comm (length ys) (length o), take_min (length o) ys)

-- what is left of a list at a place is its element and what is left after it
pub drop_at_one : {A : Type 0} (l : List A) (i : ℕ) (d : A) → i < length l → drop i l ≡ get_or l i d ∷ drop (i + 1) l
drop_at_one l i d h = rw (add-one i) (drop-cons l i d h)

-- after the last there is nothing left
pub drop_at_end : {A : Type 0} (l : List A) (i : ℕ) → length l ≤ i → drop i l ≡ []
drop_at_end l i h = drop_of_length-le l {i = i} h
