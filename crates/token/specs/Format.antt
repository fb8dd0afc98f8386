-- The two ways in which AIGER writes a number, as lists of bytes: decimal digits without leading zeros, and groups of seven bits, low group
-- first. First what bytes mean, then how a number is written. Assumes nothing.
use Rattle.std.specs.Prelude.{ℕ, zero, suc, ◌+◌, ◌-◌, ◌*◌, ◌/◌, ◌%◌, ◌≤◌, ◌<◌, Bool, cond, ◌&&◌, List, [], ◌∷◌, ◌++◌, ltb, leb, get_or}

-- every number of the list is a byte
abbrev pub Bytes : List ℕ → Type 0
Bytes s = (i : ℕ) → get_or s i 0 < 256

-- how many bytes at the front pass a test
abbrev pub leading : (ℕ → Bool) → List ℕ → ℕ
leading test [] = 0
leading test (b ∷ bs) = cond (test b) (suc (leading test bs)) 0

-- an ASCII digit, `0` to `9`: 48 to 57
abbrev pub is_digit : ℕ → Bool
is_digit b = leb 48 b && ltb b 58

-- a byte that another one of the same number follows: its top bit is set
abbrev pub goes_on : ℕ → Bool
goes_on b = leb 128 b

-- the number that digits write, the first digit the highest, after digits that wrote v
abbrev pub decimal_from : ℕ → List ℕ → ℕ
decimal_from v [] = v
decimal_from v (d ∷ ds) = decimal_from (v * 10 + (d - 48)) ds

-- the number that digits write
abbrev pub decimal_value : List ℕ → ℕ
decimal_value ds = decimal_from 0 ds

-- the number that groups of seven bits write, the first group the lowest
abbrev pub groups_value : List ℕ → ℕ
groups_value [] = 0
groups_value (b ∷ bs) = groups_value bs * 128 + b % 128

-- bytes that write a number in groups: the top bit is set on all but the last
pub data Grouped : List ℕ → Type 0 where
  final : {b : ℕ} → b < 128 → Grouped (b ∷ [])
  group : {b : ℕ} {bs : List ℕ} → 128 ≤ b → b < 256 → Grouped bs → Grouped (b ∷ bs)

-- the digits of v without leading zeros, k + 1 of them at most: those of v / 10, and then the last
abbrev pub digits_up_to : ℕ → ℕ → List ℕ
digits_up_to zero v = (48 + v) ∷ []
digits_up_to (suc k) v = cond (ltb v 10) ((48 + v) ∷ []) (digits_up_to k (v / 10) ++ ((48 + v % 10) ∷ []))

-- the decimal spelling of a number below 2 ^ 64, which has at most twenty digits
unfoldable pub digits_of : ℕ → List ℕ
digits_of v = digits_up_to 19 v

-- the fewest groups that write d, k + 1 of them at most: the top bit is set on all but the last
abbrev pub groups_up_to : ℕ → ℕ → List ℕ
groups_up_to zero d = d ∷ []
groups_up_to (suc k) d = cond (ltb d 128) (d ∷ []) ((128 + d % 128) ∷ groups_up_to k (d / 128))

-- the shortest way to write a number below 2 ^ 56, which takes at most eight bytes
unfoldable pub shortest : ℕ → List ℕ
shortest d = groups_up_to 7 d
