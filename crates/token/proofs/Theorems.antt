-- The theorems of the number tokens. What each rests on stands in the laws' files beside this one; the examples stand in Pins.antt. Assumes nothing.
use mathlib.Core.Path.{◌≡◌, sym, ◌∙◌}
use mathlib.Core.Bool.{Bool, true, false}
use mathlib.Core.Logic.{◌↔◌}
use mathlib.Core.List.{List, ◌++◌}
use Prim.Native.Nat.{ℕ, ◌+◌, ◌-◌, ◌%◌, ◌^◌, ◌≤◌, ◌<◌}
use lib.ListN.{length, get_or, take, drop}
use Rattle.token.specs.Format.{leading, is_digit, decimal_value, groups_value, Grouped, digits_of, shortest, Bytes}
use Rattle.token.specs.Answer.{digits_at, uint_at, binary_at, delta_at, header_field_at, lit_at, symbol_index_at, pair_at, inputs, refused, value}
use Rattle.token.specs.declared.Reason.{Reason}
use Rattle.token.specs.declared.Reason.TheVariants.{LeadingZero, OverWidth, OverLimit, AssignsZero, AssignsOdd, ZeroDelta}
use Rattle.promise.specs.Determined.{Determines}
use Rattle.token.proofs.Spelling as spelling
use Rattle.token.proofs.Shortest as groups
use Rattle.token.proofs.Deltas as deltas
use Rattle.token.proofs.Refusals as refusals
use Rattle.token.proofs.U32FromReason.from.Kinds as number-kinds
use Rattle.token.proofs.U32FromReason.from.Reads as number-contract
use Rattle.token.proofs.uint.Kinds as uint-kinds
use Rattle.token.proofs.uint.Reads as uint-contract
use Rattle.token.proofs.binary_uint.Kinds as binary-uint-kinds
use Rattle.token.proofs.binary_uint.Reads as binary-uint-contract
use Rattle.token.proofs.delta_code.Kinds as delta-code-kinds
use Rattle.token.proofs.delta_code.Reads as delta-code-contract
use Rattle.token.proofs.header_field.Kinds as header-field-kinds
use Rattle.token.proofs.header_field.Reads as header-field-contract
use Rattle.token.proofs.lit.Kinds as lit-kinds
use Rattle.token.proofs.lit.Reads as lit-contract
use Rattle.token.proofs.symbol_index.Kinds as symbol-index-kinds
use Rattle.token.proofs.symbol_index.Reads as symbol-index-contract
use Rattle.token.proofs.pair.Kinds as pair-kinds
use Rattle.token.proofs.pair.Reads as pair-contract
use Rattle.token.specs.Claims.{Used, PairUsed, DecimalUsed, NamesPlace, Paired, ZeroFirst, RefusedDelta, Everyone}

-- 1. Each contract determines its answer: of any two answers that it allows for the same bytes, place and numbers, each is the other.

pub one_number : Determines 0 number-kinds.ps number-kinds.r number-contract.Learnt
one_number κs a x y e f p q = p ∙ sym q

pub one_uint : Determines 1 uint-kinds.ps uint-kinds.r uint-contract.Learnt
one_uint κs a x y e f p q = p ∙ sym q

pub one_binary_uint : Determines 1 binary-uint-kinds.ps binary-uint-kinds.r binary-uint-contract.Learnt
one_binary_uint κs a x y e f p q = p ∙ sym q

pub one_delta_code : Determines 1 delta-code-kinds.ps delta-code-kinds.r delta-code-contract.Learnt
one_delta_code κs a x y e f p q = p ∙ sym q

pub one_header_field : Determines 1 header-field-kinds.ps header-field-kinds.r header-field-contract.Learnt
one_header_field κs a x y e f p q = p ∙ sym q

pub one_lit : Determines 1 lit-kinds.ps lit-kinds.r lit-contract.Learnt
one_lit κs a x y e f p q = p ∙ sym q

pub one_symbol_index : Determines 1 symbol-index-kinds.ps symbol-index-kinds.r symbol-index-contract.Learnt
one_symbol_index κs a x y e f p q = p ∙ sym q

pub one_pair : Determines 1 pair-kinds.ps pair-kinds.r pair-contract.Learnt
one_pair κs a x y e f p q = p ∙ sym q

-- 2. Groups of seven bits: the reader takes what the format calls a number and nothing else, and the shortest writing is the shortest.

-- grouped bytes, eight at most, are read as the number that they write, wherever they stand and whatever follows
pub grouped_reads : (bs : List ℕ) → Grouped bs → length bs ≤ 8 → (before after : List ℕ)
    → binary_at (before ++ (bs ++ after)) (length before) ≡ value (groups_value bs) (length bs)
grouped_reads = groups.grouped_reads

-- bytes that are read are grouped, and write the number, which is below 2 ^ 56
pub read_grouped : (s : List ℕ) (at d n : ℕ) → Bytes s → binary_at s at ≡ value d n
    → Grouped (take n (drop at s)) × (groups_value (take n (drop at s)) ≡ d) × (d < 2 ^ 56)
read_grouped s at d n small e = (groups.binary_grouped s at d n e small, groups.binary_means s at d n e, groups.binary_small s at d n e)

-- the shortest writing of a number below 2 ^ 56 reads back, wherever it stands and whatever follows
pub shortest_reads_back : (d : ℕ) → d < 2 ^ 56 → (before after : List ℕ)
    → binary_at (before ++ (shortest d ++ after)) (length before) ≡ value d (length (shortest d))
shortest_reads_back = groups.shortest_reads_back

-- no bytes that are read as the same number are fewer, and as many are the same
pub shortest_is_least : (s : List ℕ) (at d n : ℕ) → binary_at s at ≡ value d n → length (shortest d) ≤ n
shortest_is_least = groups.shortest_least

pub shortest_is_only : (s : List ℕ) (at d n : ℕ) → Bytes s → binary_at s at ≡ value d n → length (shortest d) ≡ n → take n (drop at s) ≡ shortest d
shortest_is_only s at d n small e = groups.shortest_only s at d n e small

-- a gate's pair in shortest deltas reads back
pub pair_reads_back : (code a b : ℕ) → b ≤ a → a < code → code < 2 ^ 56 → (before after : List ℕ)
    → pair_at (before ++ (shortest (code - a) ++ (shortest (a - b) ++ after))) (length before) code
    ≡ inputs a b (length (shortest (code - a)) + length (shortest (a - b)))
pair_reads_back = groups.pair_reads_back

-- 3. Decimals: a number that fits 64 bits has one spelling, which reads back where no digit follows.

pub decimal_reads_back : (v : ℕ) → v < 2 ^ 64 → (before after : List ℕ) → leading is_digit after ≡ 0
    → uint_at (before ++ (digits_of v ++ after)) (length before) ≡ value v (length (digits_of v))
decimal_reads_back = spelling.decimal_reads_back

pub decimal_has_one_spelling : (s : List ℕ) (at v n : ℕ) → uint_at s at ≡ value v n → (take n (drop at s) ≡ digits_of v) × (v < 2 ^ 64)
decimal_has_one_spelling s at v n e = (spelling.decimal_spelling s at v n e, (spelling.decimal-read s at v n e).fits)

-- 4. Values and bytes used.

-- a delta that is read is its reference less the number in its bytes, so it never exceeds it
pub delta_from_reference : (s : List ℕ) (at reference v n : ℕ) → delta_at s at reference ≡ value v n
    → (v ≤ reference) × (binary_at s at ≡ value (reference - v) n)
delta_from_reference = deltas.delta_from

-- a number in groups and a delta take one to eight bytes, a decimal one to twenty, a pair two to sixteen; all stand within the bytes
pub binary_uses : (s : List ℕ) (at d n : ℕ) → binary_at s at ≡ value d n → Used s at n
binary_uses = deltas.binary_used

pub delta_uses : (s : List ℕ) (at reference v n : ℕ) → delta_at s at reference ≡ value v n → Used s at n
delta_uses = deltas.delta_used

pub decimal_uses : (s : List ℕ) (at v n : ℕ) → uint_at s at ≡ value v n → DecimalUsed s at n
decimal_uses = spelling.decimal_used

pub pair_uses : (s : List ℕ) (at code a b used : ℕ) → pair_at s at code ≡ inputs a b used → PairUsed s at used
pair_uses = deltas.pair_used

-- a pair is read exactly when both deltas are and the first is not zero
pub pair_exactly : (s : List ℕ) (at code a b used : ℕ) → (pair_at s at code ≡ inputs a b used) ↔ Paired s at code a b used
pair_exactly s at code a b used = (deltas.pair_read s at code a b used, deltas.pair_of_lem s at code a b used)

-- so its second input is at most its first, and that below the output's code
pub pair_falls : (s : List ℕ) (at code a b used : ℕ) → pair_at s at code ≡ inputs a b used → (b ≤ a) × (a < code)
pair_falls = deltas.pair_falls

-- 5. Refusals.

-- a token that refuses names the place given
pub tokens_name_the_place : (s : List ℕ) (at : ℕ)
    → NamesPlace at (uint_at s at)
    × NamesPlace at (binary_at s at)
    × ((reference : ℕ) → NamesPlace at (delta_at s at reference))
    × ((limit : ℕ) → NamesPlace at (header_field_at s at limit))
    × ((limit : ℕ) (assigning : Bool) → NamesPlace at (lit_at s at limit assigning))
    × ((limit : ℕ) → NamesPlace at (symbol_index_at s at limit))
tokens_name_the_place s at = (
  refusals.uint_place s at,
  refusals.binary_place s at,
  refusals.delta_place s at,
  refusals.header_field_place s at,
  refusals.lit_place s at,
  refusals.symbol_index_place s at,
)

-- a pair that refuses names the first byte of the delta that caused it, with that delta's reason
pub pair_names_the_delta : (s : List ℕ) (at code : ℕ) (why : Reason) (place : ℕ) → pair_at s at code ≡ refused why place → RefusedDelta s at code why place
pair_names_the_delta = refusals.pair_place

-- 20 is given exactly where both deltas are read and the first writes zero, and it names the first
pub zero_exactly : (s : List ℕ) (at code place : ℕ) → (pair_at s at code ≡ refused ZeroDelta place) ↔ (ZeroFirst s at code × (place ≡ at))
zero_exactly s at code place = (refusals.zero_first s at code place, λ z. rw z.1 (refusals.zero_refused s at code z.0))

-- two or more digits that begin with `0` are 11, whoever reads them and whether they fit 64 bits or not
pub leading_zero_first : (s : List ℕ) (at : ℕ) → 2 ≤ digits_at s at → get_or s at 0 ≡ 48 → Everyone s at (refused LeadingZero at)
leading_zero_first s at two zeroth = refusals.everyone_refuses s at LeadingZero (refusals.leading_zero s at two zeroth)

-- any other run of digits that does not fit 64 bits is 21 at once, whoever reads it
pub over_width_at_once : (s : List ℕ) (at : ℕ) → (get_or s at 0 ≡ 48 → ⊥) → 2 ^ 64 ≤ decimal_value (take (digits_at s at) (drop at s))
    → Everyone s at (refused OverWidth at)
over_width_at_once s at other large = refusals.everyone_refuses s at OverWidth (refusals.over_width s at other large)

-- and 21 is given for nothing else
pub over_width_exactly : (s : List ℕ) (at place : ℕ)
    → (uint_at s at ≡ refused OverWidth place) ↔ ((get_or s at 0 ≡ 48 → ⊥) × (2 ^ 64 ≤ decimal_value (take (digits_at s at) (drop at s))) × (place ≡ at))
over_width_exactly s at place = (refusals.over_width_only s at place, λ w. rw w.2 (refusals.over_width s at w.0 w.1))

-- a number that fits: `lit` when assigning tests 13, then 14, and then as the others
pub assigning_first : (s : List ℕ) (at v n limit : ℕ) → uint_at s at ≡ value v n
    → (v ≡ 0 → lit_at s at limit true ≡ refused AssignsZero at)
    × (v % 2 ≡ 1 → lit_at s at limit true ≡ refused AssignsOdd at)
    × ((v ≡ 0 → ⊥) → v % 2 ≡ 0 → lit_at s at limit true ≡ lit_at s at limit false)
assigning_first s at v n limit e = (refusals.assigns_zero s at v n limit e, refusals.assigns_odd s at v n limit e, refusals.assigns_even s at v n limit e)

-- the others test only 12, and a limit is inclusive
pub limit_inclusive : (s : List ℕ) (at v n limit : ℕ) → uint_at s at ≡ value v n → v ≤ limit
    → (header_field_at s at limit ≡ value v n) × (lit_at s at limit false ≡ value v n) × (symbol_index_at s at limit ≡ value v n)
limit_inclusive s at v n limit e h = refusals.all_limited s at v n limit e (value v n) (refusals.within_fits limit at v n h)

pub over-limit-last : (s : List ℕ) (at v n limit : ℕ) → uint_at s at ≡ value v n → limit < v
    → (header_field_at s at limit ≡ refused OverLimit at) × (lit_at s at limit false ≡ refused OverLimit at) × (symbol_index_at s at limit ≡ refused OverLimit at)
over-limit-last s at v n limit e h = refusals.all_limited s at v n limit e (refused OverLimit at) (refusals.within-over limit at v n h)
