-- The words of the theorems about tokens. Assumes nothing.
use Rattle.std.specs.Prelude.{ℕ, ◌+◌, ◌≤◌, ◌<◌, ◌≡◌, Bool, List, length, Ok, Err}
use Rattle.token.specs.declared.Reason.{Reason}
use Rattle.token.specs.declared.Reason.TheVariants.{ZeroDelta}
use Rattle.token.specs.Answer.{Token, value, refused, uint_at, binary_at, delta_at, header_field_at, lit_at, symbol_index_at}

-- a decimal number has one to twenty bytes, which stand within the bytes
pub record DecimalUsed (s : List ℕ) (at n : ℕ) : Type 0 where
  pub some : 1 ≤ n
  pub twenty : n ≤ 20
  pub inside : at + n ≤ length s

-- a number that is read has one to eight bytes, which stand within the bytes
pub record Used (s : List ℕ) (at n : ℕ) : Type 0 where
  pub some : 1 ≤ n
  pub eight : n ≤ 8
  pub inside : at + n ≤ length s

-- a pair that is read has two to sixteen bytes, which stand within the bytes
pub record PairUsed (s : List ℕ) (at used : ℕ) : Type 0 where
  pub some : 2 ≤ used
  pub sixteen : used ≤ 16
  pub inside : at + used ≤ length s

-- both deltas of a pair are read, the first from the output's code, the second from the first input and at the place after its bytes; and the first
-- is not zero
pub record Paired (s : List ℕ) (at code a b used : ℕ) : Type 0 where
  pub n : ℕ
  pub m : ℕ
  pub first : delta_at s at code ≡ value a n
  pub second : delta_at s (at + n) a ≡ value b m
  pub below : a < code
  pub bytes : n + m ≡ used

-- both deltas are read, and the first writes zero, by one byte or by more
pub record ZeroFirst (s : List ℕ) (at code : ℕ) : Type 0 where
  pub n : ℕ
  pub b : ℕ
  pub m : ℕ
  pub first : binary_at s at ≡ value 0 n
  pub second : delta_at s (at + n) code ≡ value b m

-- whoever reads a decimal number at the place answers t
pub record Everyone (s : List ℕ) (at : ℕ) (t : Token) : Type 0 where
  pub by_uint : uint_at s at ≡ t
  pub by_header_field : (limit : ℕ) → header_field_at s at limit ≡ t
  pub by_lit : (limit : ℕ) (assigning : Bool) → lit_at s at limit assigning ≡ t
  pub by_symbol_index : (limit : ℕ) → symbol_index_at s at limit ≡ t

-- a token names the place given, if it refuses
abbrev pub NamesPlace : ℕ → Token → Type 0
NamesPlace at (Ok t) = Unit {0}
NamesPlace at (Err e) = e.place ≡ at

-- a pair names the first byte of the delta that is refused: the first's, or, where that is read, the second's after it, or, where both are read, the
-- first's again, which is zero
pub data RefusedDelta (s : List ℕ) (at code : ℕ) (why : Reason) (place : ℕ) : Type 0 where
  first : delta_at s at code ≡ refused why place → place ≡ at → RefusedDelta s at code why place
  second : (a n : ℕ) → delta_at s at code ≡ value a n → delta_at s (at + n) a ≡ refused why place → place ≡ at + n → RefusedDelta s at code why place
  first_zero : ZeroFirst s at code → why ≡ ZeroDelta → place ≡ at → RefusedDelta s at code why place
