-- What each number token answers at a place of a list of bytes, and the documents' number for each reason to refuse. A place past the end
-- reads as the end: no byte stands from it on. A refusal consumes nothing and names the place given. Assumes nothing.
use Rattle.std.specs.Prelude.{ℕ, ◌+◌, ◌-◌, ◌%◌, ◌^◌, Bool, cond, ◌&&◌, List, ltb, leb, eqb, length, get_or, take, drop, Result, Ok, Err}
use Rattle.token.specs.Format.{leading, is_digit, goes_on, decimal_value, groups_value}
use Rattle.token.specs.declared.Reason.{Reason}
use Rattle.token.specs.declared.Reason.TheVariants.{NoDigit, LeadingZero, OverWidth, OverLimit, AssignsZero, AssignsOdd, Cut, TooLong, OverReference, ZeroDelta}
use Rattle.token.specs.declared.Number.{Number}
use Rattle.token.specs.declared.Inputs.{Inputs}
use Rattle.token.specs.declared.Refused.{Refused}

-- what a token answers: a number and the bytes it took, or why there is none and where
abbrev pub Token : Type 0
Token = Result Number Refused

-- the same of a gate's pair
abbrev pub PairToken : Type 0
PairToken = Result Inputs Refused

-- a number that n bytes write
abbrev pub value : ℕ → ℕ → Token
value v n = Ok (record { value = v; used = n })

-- a gate's two inputs, which n bytes write
abbrev pub inputs : ℕ → ℕ → ℕ → PairToken
inputs a b n = Ok (record { first = a; second = b; used = n })

-- a refusal, whatever is read
abbrev pub refused : {A : Type 0} → Reason → ℕ → Result A Refused
refused why place = Err (record { why = why; place = place })

-- numbers of refusals

-- the documents' number for each reason
abbrev pub reason_number : Reason → ℕ
reason_number NoDigit = 10
reason_number LeadingZero = 11
reason_number OverWidth = 21
reason_number OverLimit = 12
reason_number AssignsZero = 13
reason_number AssignsOdd = 14
reason_number Cut = 15
reason_number TooLong = 16
reason_number OverReference = 17
reason_number ZeroDelta = 20

-- the number of a token's refusal, 0 where it is read
abbrev pub token_number : Token → ℕ
token_number (Ok t) = 0
token_number (Err e) = reason_number e.why

-- the same of a pair
abbrev pub pair_number : PairToken → ℕ
pair_number (Ok t) = 0
pair_number (Err e) = reason_number e.why

-- decimal numbers

-- how many digits stand at a place: the longest run, whatever follows it
unfoldable pub digits_at : List ℕ → ℕ → ℕ
digits_at s at = leading is_digit (drop at s)

-- n digits that write v, which has to fit 64 bits
abbrev pub fitting : ℕ → ℕ → ℕ → Token
fitting v n at = cond (ltb v (2 ^ 64)) (value v n) (refused OverWidth at)

-- n digits, the first of them d, that write v: none is no number, and of two or more the first is not `0`
abbrev pub uint_of : ℕ → ℕ → ℕ → ℕ → Token
uint_of n d v at =
    cond (eqb n 0) (refused NoDigit at)
    (cond (leb 2 n && eqb d 48) (refused LeadingZero at) (fitting v n at))

-- a decimal number
unfoldable pub uint_at : List ℕ → ℕ → Token
uint_at s at = uint_of (digits_at s at) (get_or s at 0) (decimal_value (take (digits_at s at) (drop at s))) at

-- groups of seven bits

-- how many bytes at a place go on, of eight at most
unfoldable pub go_on_at : List ℕ → ℕ → ℕ
go_on_at s at = leading goes_on (take 8 (drop at s))

-- of the bytes bs, eight at most, the first n go on: all eight are too many, and where no byte follows the n the number is cut
abbrev pub binary_of : List ℕ → ℕ → ℕ → Token
binary_of bs n at =
    cond (leb 8 n) (refused TooLong at)
    (cond (leb (length bs) n) (refused Cut at) (value (groups_value (take (n + 1) bs)) (n + 1)))

-- a number in groups of seven bits, redundant zero groups accepted
unfoldable pub binary_at : List ℕ → ℕ → Token
binary_at s at = binary_of (take 8 (drop at s)) (go_on_at s at) at

-- a delta that is read, taken from its reference
abbrev pub less : ℕ → ℕ → Token → Token
less reference at (Ok d) = cond (leb d.value reference) (value (reference - d.value) d.used) (refused OverReference at)
less reference at (Err e) = Err e

-- the reference less the delta at a place
unfoldable pub delta_at : List ℕ → ℕ → ℕ → Token
delta_at s at reference = less reference at (binary_at s at)

-- decimal numbers with a limit

-- a number that is read, held to a limit, which it may reach
abbrev pub within : ℕ → ℕ → Token → Token
within limit at (Ok t) = cond (leb t.value limit) (Ok t) (refused OverLimit at)
within limit at (Err e) = Err e

-- a code that is read, as one that a definition may assign: not 0, and not odd
abbrev pub assigned : ℕ → Token → Token
assigned at (Ok t) = cond (eqb t.value 0) (refused AssignsZero at) (cond (eqb (t.value % 2) 1) (refused AssignsOdd at) (Ok t))
assigned at (Err e) = Err e

-- a count of the header
unfoldable pub header_field_at : List ℕ → ℕ → ℕ → Token
header_field_at s at limit = within limit at (uint_at s at)

-- a literal's code; the tests of an assignment come before the limit
unfoldable pub lit_at : List ℕ → ℕ → ℕ → Bool → Token
lit_at s at limit assigning = within limit at (cond assigning (assigned at (uint_at s at)) (uint_at s at))

-- a symbol's index
unfoldable pub symbol_index_at : List ℕ → ℕ → ℕ → Token
symbol_index_at s at limit = within limit at (uint_at s at)

-- a gate's pair

-- the last step of a pair, both deltas read: the first input and the n bytes of its delta, the second and the m of its own. A first input that is
-- the output's code feeds the gate by itself: its delta is zero, by whatever bytes
abbrev pub pair_of : ℕ → ℕ → ℕ → ℕ → ℕ → ℕ → PairToken
pair_of code at first n second m = cond (eqb first code) (refused ZeroDelta at) (inputs first second (n + m))

-- the first input is read, by n bytes: then the second as it is read
abbrev pub pair_second : ℕ → ℕ → ℕ → ℕ → Token → PairToken
pair_second code at first n (Ok t) = pair_of code at first n t.value t.used
pair_second code at first n (Err e) = Err e

-- the first input as it is read: then the second, from the first, at the place after its bytes
abbrev pub pair_first : List ℕ → ℕ → ℕ → Token → PairToken
pair_first s code at (Ok t) = pair_second code at t.value t.used (delta_at s (at + t.used) t.value)
pair_first s code at (Err e) = Err e

-- a gate's two inputs: the first below the output's code, the second from the first
unfoldable pub pair_at : List ℕ → ℕ → ℕ → PairToken
pair_at s at code = pair_first s code at (delta_at s at code)
