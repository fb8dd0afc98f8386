-- The theorems of places. Assumes nothing.
use mathlib.Core.Path.{◌≡◌, sym, ap, ◌∙◌}
use mathlib.Core.List.{List}
use Prim.Native.Nat.{ℕ, ◌+◌, ◌≤◌}
use native.Mathlib.Omega.{arith, min_cases}
use lib.ListN.{length, drop, drop_of_length-le}
use Rattle.promise.specs.Determined.{Determines}
use Rattle.place.specs.Place.{last, further}
use Rattle.place.proofs.further.Kinds as further-kinds
use Rattle.place.proofs.further.Reads as further-contract

-- the contract determines the answer
pub one_further : Determines 0 further-kinds.ps further-kinds.r further-contract.Learnt
one_further κs a x y e f p q = p ∙ sym q

-- where the place after n more bytes is a place, it is that place
pub further_is : (at n : ℕ) → at + n ≤ last → further at n ≡ at + n
further_is at n h = omega arith

-- steps add up
pub further_twice : (at n m : ℕ) → further (further at n) m ≡ further at (n + m)
further_twice at n m = omega arith

-- and no bytes are no step
pub further_none : (at : ℕ) → at ≤ last → further at 0 ≡ at
further_none at h = omega arith

-- of bytes that a slice can hold, what stands at the place answered stands at the place meant, be it a place or not
pub further_reads : {A : Type 0} (s : List A) (at n : ℕ) → length s ≤ last → drop (further at n) s ≡ drop (at + n) s
further_reads s at n h =
    min_cases (at + n) last _ (λ _ e. ap (λ (i : ℕ). drop i s) e)
    (λ over e. ap (λ (i : ℕ). drop i s) e ∙ drop_of_length-le s h ∙ sym (drop_of_length-le s {i = at + n} (omega arith)))
