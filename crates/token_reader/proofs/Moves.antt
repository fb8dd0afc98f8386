-- Where a reader stands after a token. A token that was read stands within the bytes, and no slice reaches the largest place, so the place after it is never
-- cut short. Assumes nothing.
use mathlib.Core.Path.{◌≡◌, ap, ◌∙◌}
use mathlib.Core.Bool.{Bool, true, false, cond}
use mathlib.Core.List.{List}
use Rattle.std.specs.Prelude.{Ok, Err}
use Prim.Native.Nat.{ℕ, ◌+◌, ◌%◌, ◌≤◌}
use lib.Dec.{leb, eqb}
use Rattle.place.specs.Place.{last}
use Rattle.place.proofs.Theorems.{further_is}
use Rattle.token.specs.Answer.{Token, PairToken, value, inputs, refused, uint_at, within, assigned, header_field_at, lit_at, symbol_index_at}
use Rattle.token.specs.declared.Reason.TheVariants.{OverLimit, AssignsZero, AssignsOdd}
use Rattle.token_reader.specs.Reader.{placed, moved_past, moved_past_pair}
use Rattle.token_reader.specs.declared.TokenReader.{TokenReader}

-- the place after n bytes that stand within those of a slice
pub moves : (r : TokenReader) (t : Token) (v n : ℕ) → t ≡ value v n → r.at + n ≤ last → moved_past r t ≡ placed r (r.at + n)
moves r t v n e h = ap (moved_past r) e ∙ ap (placed r) (further_is r.at n h)

pub moves_pair : (r : TokenReader) (t : PairToken) (a b n : ℕ) → t ≡ inputs a b n → r.at + n ≤ last → moved_past_pair r t ≡ placed r (r.at + n)
moves_pair r t a b n e h = ap (moved_past_pair r) e ∙ ap (placed r) (further_is r.at n h)

-- what passed a limit, or the tests of an assignment, was read as it is
within_read : (limit at : ℕ) (t : Token) (v n : ℕ) → within limit at t ≡ value v n → t ≡ value v n
within_read limit at (Ok t) v n e = go (leb t.value limit) e
  where
    go : (b : Bool) → cond b (Ok t) (refused OverLimit at) ≡ value v n → Ok t ≡ value v n
    go true q = q
    go false q = absurd cc
within_read limit at (Err f) v n e = absurd cc

assigned_read : (at : ℕ) (t : Token) (v n : ℕ) → assigned at t ≡ value v n → t ≡ value v n
assigned_read at (Ok t) v n e = go (eqb t.value 0) (eqb (t.value % 2) 1) e
  where
    go : (zeroth odd : Bool) → cond zeroth (refused AssignsZero at) (cond odd (refused AssignsOdd at) (Ok t)) ≡ value v n → Ok t ≡ value v n
    go true odd q = absurd cc
    go false true q = absurd cc
    go false false q = q
assigned_read at (Err f) v n e = absurd cc

pub header_field_read : (s : List ℕ) (at limit v n : ℕ) → header_field_at s at limit ≡ value v n → uint_at s at ≡ value v n
unfolding header_field_at
header_field_read s at limit v n e = within_read limit at (uint_at s at) v n e

pub symbol_index_read : (s : List ℕ) (at limit v n : ℕ) → symbol_index_at s at limit ≡ value v n → uint_at s at ≡ value v n
unfolding symbol_index_at
symbol_index_read s at limit v n e = within_read limit at (uint_at s at) v n e

pub lit_read : (s : List ℕ) (at limit : ℕ) (assigning : Bool) (v n : ℕ) → lit_at s at limit assigning ≡ value v n → uint_at s at ≡ value v n
unfolding lit_at
lit_read s at limit true v n e = assigned_read at (uint_at s at) v n (within_read limit at (assigned at (uint_at s at)) v n e)
lit_read s at limit false v n e = within_read limit at (uint_at s at) v n e
