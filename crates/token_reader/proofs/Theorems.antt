-- The theorems of the token reader. Assumes nothing.
use mathlib.Core.Path.{◌≡◌, refl, sym, ap, ◌∙◌}
use mathlib.Core.Bool.{Bool}
use Prim.Native.Nat.{ℕ, ◌+◌, ◌≤◌, ◌<◌}
use native.Mathlib.Omega.{arith}
use lib.ListN.{length, drop}
use seplogic.Ra.Ura.{Ura}
use base.Logic.{SProp}
use prog.Memory.{Memory}
use prog.Routine.{Routine}
use types.Logic.{Logic}
use contract.Monad.{Fun}
use denote.RattleType.{RattleType}
use mir.Syntax.{Dict}
use Rattle.promise.specs.Held.{DeterminesHeld, Answers}
use Rattle.promise.proofs.Held.{answers_determine}
use Rattle.place.specs.Place.{last, further}
use Rattle.place.proofs.Theorems.{further_is, further_twice, further_reads}
use Rattle.token.specs.Answer.{value, inputs, refused, uint_at, binary_at, delta_at, header_field_at, lit_at, symbol_index_at, pair_at}
use Rattle.token.specs.declared.Reason.{Reason}
use Rattle.token.specs.contracts.Number as Number
use Rattle.token.specs.contracts.Inputs as Inputs
use Rattle.token.proofs.Theorems.{decimal_uses, binary_uses, delta_uses, pair_uses, pair_exactly}
use Rattle.token_reader.specs.Reader.{starting, placed, moved_by, moved_past, moved_past_pair}
use Rattle.token_reader.specs.declared.TokenReader.{TokenReader}
use Rattle.token_reader.specs.declared.Taken.{Ghosts}
use Rattle.token_reader.proofs.Moves.{moves, moves_pair, header_field_read, symbol_index_read, lit_read}
use Rattle.token_reader.specs.contracts.new as new
use Rattle.token_reader.specs.contracts.uint as uint
use Rattle.token_reader.specs.contracts.binary_uint as binary-uint
use Rattle.token_reader.specs.contracts.delta_code as delta-code
use Rattle.token_reader.specs.contracts.header_field as header-field
use Rattle.token_reader.specs.contracts.lit as lit
use Rattle.token_reader.specs.contracts.symbol_index as symbol-index
use Rattle.token_reader.specs.contracts.pair as pair
use Rattle.token_reader.specs.contracts.moved as moved
use Rattle.token_reader.specs.contracts.NumberTaken.TheImpl as number
use Rattle.token_reader.specs.contracts.InputsTaken.TheImpl as both

-- 1. Each contract is an equation, so it determines its answer: of any two answers that it allows for the same reader and numbers, each is the other.

module _ {M : Type 1} {𝓤 : Ura M} (𝓛 : Logic 𝓤) (mem : Memory → SProp 𝓤) (run : Routine → Fun 𝓤) where
  pub new_answers : Answers 𝓤 new.ended (new.clauses 𝓛 mem run) (λ κs a. starting a.0)
  new_answers κs a g r e = refl

  pub one_new : DeterminesHeld 𝓤 new.ended (new.clauses 𝓛 mem run)
  one_new = answers_determine 𝓤 new.ended (new.clauses 𝓛 mem run) _ new_answers

  pub uint_answers : Answers 𝓤 uint.ended (uint.clauses 𝓛 mem run) (λ κs a. uint_at a.0.bytes.now a.0.at)
  uint_answers κs a g r e = refl

  pub one_uint : DeterminesHeld 𝓤 uint.ended (uint.clauses 𝓛 mem run)
  one_uint = answers_determine 𝓤 uint.ended (uint.clauses 𝓛 mem run) _ uint_answers

  pub binary_uint_answers : Answers 𝓤 binary-uint.ended (binary-uint.clauses 𝓛 mem run) (λ κs a. binary_at a.0.bytes.now a.0.at)
  binary_uint_answers κs a g r e = refl

  pub one_binary_uint : DeterminesHeld 𝓤 binary-uint.ended (binary-uint.clauses 𝓛 mem run)
  one_binary_uint = answers_determine 𝓤 binary-uint.ended (binary-uint.clauses 𝓛 mem run) _ binary_uint_answers

  pub delta_code_answers : Answers 𝓤 delta-code.ended (delta-code.clauses 𝓛 mem run) (λ κs a. delta_at a.0.bytes.now a.0.at a.1.0)
  delta_code_answers κs a g r e = refl

  pub one_delta_code : DeterminesHeld 𝓤 delta-code.ended (delta-code.clauses 𝓛 mem run)
  one_delta_code = answers_determine 𝓤 delta-code.ended (delta-code.clauses 𝓛 mem run) _ delta_code_answers

  pub header_field_answers : Answers 𝓤 header-field.ended (header-field.clauses 𝓛 mem run) (λ κs a. header_field_at a.0.bytes.now a.0.at a.1.0)
  header_field_answers κs a g r e = refl

  pub one_header_field : DeterminesHeld 𝓤 header-field.ended (header-field.clauses 𝓛 mem run)
  one_header_field = answers_determine 𝓤 header-field.ended (header-field.clauses 𝓛 mem run) _ header_field_answers

  pub lit_answers : Answers 𝓤 lit.ended (lit.clauses 𝓛 mem run) (λ κs a. lit_at a.0.bytes.now a.0.at a.1.0 a.1.1.0)
  lit_answers κs a g r e = refl

  pub one_lit : DeterminesHeld 𝓤 lit.ended (lit.clauses 𝓛 mem run)
  one_lit = answers_determine 𝓤 lit.ended (lit.clauses 𝓛 mem run) _ lit_answers

  pub symbol_index_answers : Answers 𝓤 symbol-index.ended (symbol-index.clauses 𝓛 mem run) (λ κs a. symbol_index_at a.0.bytes.now a.0.at a.1.0)
  symbol_index_answers κs a g r e = refl

  pub one_symbol_index : DeterminesHeld 𝓤 symbol-index.ended (symbol-index.clauses 𝓛 mem run)
  one_symbol_index = answers_determine 𝓤 symbol-index.ended (symbol-index.clauses 𝓛 mem run) _ symbol_index_answers

  pub pair_answers : Answers 𝓤 pair.ended (pair.clauses 𝓛 mem run) (λ κs a. pair_at a.0.bytes.now a.0.at a.1.0)
  pair_answers κs a g r e = refl

  pub one_pair : DeterminesHeld 𝓤 pair.ended (pair.clauses 𝓛 mem run)
  one_pair = answers_determine 𝓤 pair.ended (pair.clauses 𝓛 mem run) _ pair_answers

  -- whatever is read, by the bytes that it took
  module _ (T : RattleType) (of : Ghosts T.Denot) (methods : Dict) where
    pub moved_any_answers : Answers 𝓤 (moved.ended T of methods) (moved.clauses T of methods 𝓛 mem run) (λ κs a. moved_by of.used_of a.0 a.1.0)
    moved_any_answers κs a g r e = refl

    pub one_moved_any : DeterminesHeld 𝓤 (moved.ended T of methods) (moved.clauses T of methods 𝓛 mem run)
    one_moved_any =
        answers_determine 𝓤 (moved.ended T of methods) (moved.clauses T of methods 𝓛 mem run) _ moved_any_answers

  -- a number, and a pair
  pub moved_answers : Answers 𝓤
      (moved.ended Number.the_row number.ghosts number.dict)
      (moved.clauses Number.the_row number.ghosts number.dict 𝓛 mem run)
      (λ κs a. moved_past a.0 a.1.0)
  moved_answers κs a g r e = refl

  pub one_moved : DeterminesHeld 𝓤
      (moved.ended Number.the_row number.ghosts number.dict)
      (moved.clauses Number.the_row number.ghosts number.dict 𝓛 mem run)
  one_moved = one_moved_any Number.the_row number.ghosts number.dict

  pub moved_pair_answers : Answers 𝓤
      (moved.ended Inputs.the_row both.ghosts both.dict)
      (moved.clauses Inputs.the_row both.ghosts both.dict 𝓛 mem run)
      (λ κs a. moved_past_pair a.0 a.1.0)
  moved_pair_answers κs a g r e = refl

  pub one_moved_pair : DeterminesHeld 𝓤
      (moved.ended Inputs.the_row both.ghosts both.dict)
      (moved.clauses Inputs.the_row both.ghosts both.dict 𝓛 mem run)
  one_moved_pair = one_moved_any Inputs.the_row both.ghosts both.dict

-- 2. A refusal leaves the reader as it was.

pub refusal-leaves : (r : TokenReader) (why : Reason) (place : ℕ) → moved_past r (refused why place) ≡ r
refusal-leaves r why place = refl

pub refused_pair_leaves : (r : TokenReader) (why : Reason) (place : ℕ) → moved_past_pair r (refused why place) ≡ r
refused_pair_leaves r why place = refl

-- 3. A reader that is moved past a token reads on where the token ended. Every slice is as short as is asked here.

-- whatever token it is moved past: the bytes from its place on are those n bytes further
pub reads_on : (r : TokenReader) (v n : ℕ) → length r.bytes.now ≤ last
    → drop (moved_past r (value v n)).at (moved_past r (value v n)).bytes.now ≡ drop (r.at + n) r.bytes.now
reads_on r v n short = further_reads r.bytes.now r.at n short

pub reads_on_after_pair : (r : TokenReader) (a b n : ℕ) → length r.bytes.now ≤ last
    → drop (moved_past_pair r (inputs a b n)).at (moved_past_pair r (inputs a b n)).bytes.now ≡ drop (r.at + n) r.bytes.now
reads_on_after_pair r a b n short = further_reads r.bytes.now r.at n short

-- past a token that was read where it stood, it stands at the first byte after it
module _ (r : TokenReader) (short : length r.bytes.now ≤ last) where
  pub after_uint : (v n : ℕ) → uint_at r.bytes.now r.at ≡ value v n → moved_past r (uint_at r.bytes.now r.at) ≡ placed r (r.at + n)
  after_uint v n e =
      let u = decimal_uses r.bytes.now r.at v n e in
      moves r _ v n e (omega arith)

  pub after_binary_uint : (v n : ℕ) → binary_at r.bytes.now r.at ≡ value v n → moved_past r (binary_at r.bytes.now r.at) ≡ placed r (r.at + n)
  after_binary_uint v n e =
      let u = binary_uses r.bytes.now r.at v n e in
      moves r _ v n e (omega arith)

  pub after_delta_code : (reference v n : ℕ) → delta_at r.bytes.now r.at reference ≡ value v n
      → moved_past r (delta_at r.bytes.now r.at reference) ≡ placed r (r.at + n)
  after_delta_code reference v n e =
      let u = delta_uses r.bytes.now r.at reference v n e in
      moves r _ v n e (omega arith)

  pub after_header_field : (limit v n : ℕ) → header_field_at r.bytes.now r.at limit ≡ value v n
      → moved_past r (header_field_at r.bytes.now r.at limit) ≡ placed r (r.at + n)
  after_header_field limit v n e =
      let u = decimal_uses r.bytes.now r.at v n (header_field_read r.bytes.now r.at limit v n e) in
      moves r _ v n e (omega arith)

  pub after_lit : (limit : ℕ) (assigning : Bool) (v n : ℕ) → lit_at r.bytes.now r.at limit assigning ≡ value v n
      → moved_past r (lit_at r.bytes.now r.at limit assigning) ≡ placed r (r.at + n)
  after_lit limit assigning v n e =
      let u = decimal_uses r.bytes.now r.at v n (lit_read r.bytes.now r.at limit assigning v n e) in
      moves r _ v n e (omega arith)

  pub after_symbol_index : (limit v n : ℕ) → symbol_index_at r.bytes.now r.at limit ≡ value v n
      → moved_past r (symbol_index_at r.bytes.now r.at limit) ≡ placed r (r.at + n)
  after_symbol_index limit v n e =
      let u = decimal_uses r.bytes.now r.at v n (symbol_index_read r.bytes.now r.at limit v n e) in
      moves r _ v n e (omega arith)

  pub after-pair : (code a b n : ℕ) → pair_at r.bytes.now r.at code ≡ inputs a b n
      → moved_past_pair r (pair_at r.bytes.now r.at code) ≡ placed r (r.at + n)
  after-pair code a b n e =
      let u = pair_uses r.bytes.now r.at code a b n e in
      moves_pair r _ a b n e (omega arith)

  -- a pair is two deltas with a move between them, the first of them not zero, and ends where the second ends
  pub pair_is_two_deltas : (code a b n m : ℕ) → a < code → delta_at r.bytes.now r.at code ≡ value a n
      → delta_at (moved_past r (value a n)).bytes.now (moved_past r (value a n)).at a ≡ value b m
      → (pair_at r.bytes.now r.at code ≡ inputs a b (n + m)) × (moved_past_pair r (inputs a b (n + m)) ≡ moved_past (moved_past r (value a n)) (value b m))
  pair_is_two_deltas code a b n m below first second =
      let u = delta_uses r.bytes.now r.at code a n first in
      let on : further r.at n ≡ r.at + n = further_is r.at n (omega arith) in (
        (pair_exactly r.bytes.now r.at code a b (n + m)).1
            (record {
              n = n;
              m = m;
              first = first;
              second = ap (λ (i : ℕ). delta_at r.bytes.now i a) (sym on) ∙ second;
              below = below;
              bytes = refl;
            }),
        ap (placed r) (sym (further_twice r.at n m)),
      )
