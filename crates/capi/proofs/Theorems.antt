-- What follows of the C entries' contracts: each allows one outcome, and what C sees of it is all that is demanded. Calls by example, with every word, stand
-- in Pins (renumbering), ExpandPins, and file_words' Pins, TextPins (reading), WritePins and TextWritePins, and intake_words' Pins (ordering). Assumes nothing.
pub use Rattle.capi.proofs.Pins.{seen_pinned, flags_told, circuits_shown, settings_pinned, refusals_pinned, rooms_pinned, words_pinned}
pub use Rattle.capi.proofs.ExpandPins.{expanded_pinned}
use Prim.Native.Nat.{ℕ, ◌≤◌}
use mathlib.Core.Path.{◌≡◌, sym, ◌∙◌, ap}
use mathlib.Core.List.{List}
use lib.ListN.{length}
use borrow.Author.Tests.{le-ltb, eq-eqb}
use Rattle.promise.specs.Determined.{DeterminesCells}
use Rattle.circuit.specs.Outcome.{Lent, Outcome, circuit_of, outcome}
use Rattle.circuit.specs.Demands.{Demands}
use Rattle.circuit.proofs.Demands.{demands}
use Rattle.file_words.specs.Read as file
use Rattle.file_words.specs.Write as write
use Rattle.file_words.specs.Text as text
use Rattle.capi.specs.Renumber.{Seen, misgiven, as_seen, renumber_seen}
use Rattle.capi.specs.Expand as expand
use Rattle.intake_words.specs.Order.{OrderSeen}
use Rattle.capi.proofs.imdagluz_delta.Kinds as delta-kinds
use Rattle.capi.proofs.imdagluz_delta.Reads as delta-promise
use Rattle.capi.proofs.imdagluz_renumber.Kinds as renumber-kinds
use Rattle.capi.proofs.imdagluz_renumber.Reads as renumber-promise
use Rattle.capi.proofs.imdagluz_read_aig.Kinds as read-aig-kinds
use Rattle.capi.proofs.imdagluz_read_aig.Reads as read-aig-promise
use Rattle.capi.proofs.imdagluz_expand.Kinds as expand-kinds
use Rattle.capi.proofs.imdagluz_expand.Reads as expand-promise
use Rattle.capi.proofs.imdagluz_write_aig.Kinds as write-aig-kinds
use Rattle.capi.proofs.imdagluz_write_aig.Reads as write-aig-promise
use Rattle.capi.proofs.texts.imdagluz_read_aag.Kinds as read-aag-kinds
use Rattle.capi.proofs.texts.imdagluz_read_aag.Reads as read-aag-promise
use Rattle.capi.proofs.texts.imdagluz_write_aag.Kinds as write-aag-kinds
use Rattle.capi.proofs.texts.imdagluz_write_aag.Reads as write-aag-promise
use Rattle.capi.proofs.order.imdagluz_order.Kinds as order-kinds
use Rattle.capi.proofs.order.imdagluz_order.Reads as order-promise

-- any two outcomes that a contract allows for the same arguments are equal: of `imdagluz_delta` the number, and each lent byte
pub one_imdagluz_delta : DeterminesCells 2 delta-kinds.ps delta-kinds.r delta-promise.Learnt (λ κs e. e.1.1.1.0.now)
one_imdagluz_delta κs a x y e f p q = (p.0 ∙ sym q.0, p.1 ∙ sym q.1)

-- of `imdagluz_renumber` the number, each of the six lists, and the answer words
pub one_imdagluz_renumber :
    DeterminesCells 14 renumber-kinds.ps renumber-kinds.r renumber-promise.Learnt {A = List ℕ × List ℕ × List ℕ × List ℕ × List ℕ × List ℕ × List ℕ}
    (λ κs e. (
      e.1.1.1.1.1.1.1.1.1.0.now,
      e.1.1.1.1.1.1.1.1.1.1.0.now,
      e.1.1.1.1.1.1.1.1.1.1.1.0.now,
      e.1.1.1.1.1.1.1.1.1.1.1.1.0.now,
      e.1.1.1.1.1.1.1.1.1.1.1.1.1.0.now,
      e.1.1.1.1.1.1.1.1.1.1.1.1.1.1.0.now,
      e.1.1.1.1.1.1.1.1.1.1.1.1.1.1.1.0.now,
    ))
one_imdagluz_renumber κs a x y e f p q = (
  ap (λ (s : Seen). s.number) (p ∙ sym q),
  ap (λ (s : Seen). (s.map, s.next_images, s.reset_images, s.root_images, s.gates_out, s.scratch, s.words)) (p ∙ sym q),
)

-- of `imdagluz_read_aig` the number, each of the five lists, and the answer words
pub one_imdagluz_read_aig :
    DeterminesCells 7 read-aig-kinds.ps read-aig-kinds.r read-aig-promise.Learnt {A = List ℕ × List ℕ × List ℕ × List ℕ × List ℕ × List ℕ}
    (λ κs e. (
      e.1.0.now,
      e.1.1.0.now,
      e.1.1.1.0.now,
      e.1.1.1.1.0.now,
      e.1.1.1.1.1.0.now,
      e.1.1.1.1.1.1.0.now,
    ))
one_imdagluz_read_aig κs a x y e f p q =
    (ap (λ (s : file.Seen). s.number) (p ∙ sym q), ap (λ (s : file.Seen). (s.nexts, s.resets, s.gates, s.sizes, s.roots, s.words)) (p ∙ sym q))

-- of `imdagluz_expand` the number, and each of the three lists
pub one_imdagluz_expand :
    DeterminesCells 4 expand-kinds.ps expand-kinds.r expand-promise.Learnt {A = List ℕ × List ℕ × List ℕ}
    (λ κs e. (e.1.1.1.0.now, e.1.1.1.1.0.now, e.1.1.1.1.1.0.now))
one_imdagluz_expand κs a x y e f p q =
    (ap (λ (s : expand.Seen). s.number) (p ∙ sym q), ap (λ (s : expand.Seen). (s.input_codes, s.state_codes, s.triples)) (p ∙ sym q))

-- of `imdagluz_write_aig` the number, each lent byte, and the answer words
pub one_imdagluz_write_aig :
    DeterminesCells 8 write-aig-kinds.ps write-aig-kinds.r write-aig-promise.Learnt {A = List ℕ × List ℕ}
    (λ κs e. (e.1.1.1.1.1.1.1.0.now, e.1.1.1.1.1.1.1.1.0.now))
one_imdagluz_write_aig κs a x y e f p q =
    (ap (λ (s : write.Seen). s.number) (p ∙ sym q), ap (λ (s : write.Seen). (s.bytes, s.words)) (p ∙ sym q))

-- of `imdagluz_read_aag` the number, each of the seven lists, and the answer words
pub one_imdagluz_read_aag :
    DeterminesCells 9 read-aag-kinds.ps read-aag-kinds.r read-aag-promise.Learnt
    {A = List ℕ × List ℕ × List ℕ × List ℕ × List ℕ × List ℕ × List ℕ × List ℕ}
    (λ κs e. (
      e.1.0.now,
      e.1.1.0.now,
      e.1.1.1.0.now,
      e.1.1.1.1.0.now,
      e.1.1.1.1.1.0.now,
      e.1.1.1.1.1.1.0.now,
      e.1.1.1.1.1.1.1.0.now,
      e.1.1.1.1.1.1.1.1.0.now,
    ))
one_imdagluz_read_aag κs a x y e f p q = (
  ap (λ (s : text.TextSeen). s.number) (p ∙ sym q),
  ap (λ (s : text.TextSeen). (s.inputs, s.states, s.nexts, s.resets, s.gates, s.sizes, s.roots, s.words)) (p ∙ sym q),
)

-- of `imdagluz_write_aag` the number, each lent byte, and the answer words
pub one_imdagluz_write_aag :
    DeterminesCells 8 write-aag-kinds.ps write-aag-kinds.r write-aag-promise.Learnt {A = List ℕ × List ℕ}
    (λ κs e. (e.1.1.1.1.1.1.1.0.now, e.1.1.1.1.1.1.1.1.0.now))
one_imdagluz_write_aag κs a x y e f p q =
    (ap (λ (s : write.Seen). s.number) (p ∙ sym q), ap (λ (s : write.Seen). (s.bytes, s.words)) (p ∙ sym q))

-- of `imdagluz_order` the number, each of the fourteen lists, each lent byte, and the answer words
pub one_imdagluz_order :
    DeterminesCells 17 order-kinds.ps order-kinds.r order-promise.Learnt
    {A = List ℕ × List ℕ × List ℕ × List ℕ × List ℕ × List ℕ × List ℕ × List ℕ × List ℕ × List ℕ × List ℕ × List ℕ × List ℕ × List ℕ × List ℕ × List ℕ}
    (λ κs e. (
      e.1.1.0.now,
      e.1.1.1.0.now,
      e.1.1.1.1.0.now,
      e.1.1.1.1.1.0.now,
      e.1.1.1.1.1.1.0.now,
      e.1.1.1.1.1.1.1.0.now,
      e.1.1.1.1.1.1.1.1.0.now,
      e.1.1.1.1.1.1.1.1.1.0.now,
      e.1.1.1.1.1.1.1.1.1.1.0.now,
      e.1.1.1.1.1.1.1.1.1.1.1.0.now,
      e.1.1.1.1.1.1.1.1.1.1.1.1.0.now,
      e.1.1.1.1.1.1.1.1.1.1.1.1.1.0.now,
      e.1.1.1.1.1.1.1.1.1.1.1.1.1.1.0.now,
      e.1.1.1.1.1.1.1.1.1.1.1.1.1.1.1.0.now,
      e.1.1.1.1.1.1.1.1.1.1.1.1.1.1.1.1.0.now,
      e.1.1.1.1.1.1.1.1.1.1.1.1.1.1.1.1.1.0.now,
    ))
one_imdagluz_order κs a x y e f p q = (
  ap (λ (s : OrderSeen). s.number) (p ∙ sym q),
  ap (λ (s : OrderSeen). (
    s.lists.file.nexts,
    s.lists.file.resets,
    s.lists.file.gates,
    s.lists.file.sizes,
    s.lists.file.roots,
    s.lists.codes.inputs,
    s.lists.codes.states,
    s.lists.codes.triples,
    s.lists.images.map,
    s.lists.images.next_images,
    s.lists.images.reset_images,
    s.lists.images.root_images,
    s.lists.images.gates_out,
    s.lists.images.scratch,
    s.lists.bytes,
    s.words,
  )) (p ∙ sym q),
)

-- given room for the answer, five counts and flags that are flags, what C sees is an outcome that is all the customer demands
pub seen_demands : (counts : List ℕ) (flags : ℕ) (l : Lent) (words : List ℕ) → 3 ≤ length words → length counts ≡ 5 → flags ≤ 7
    → (o : Outcome) × Demands l (circuit_of l) o × (renumber_seen counts flags l words ≡ as_seen o words)
unfolding renumber_seen misgiven
seen_demands counts flags l words room five few =
    (outcome l, demands l, rw (le-ltb (length words) 3 room, eq-eqb (length counts) 5 five, le-ltb 7 flags few))
