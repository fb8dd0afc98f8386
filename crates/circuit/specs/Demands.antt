-- The customer's demands of renumbering, of all that is lent (l, with C the circuit lent) and of an outcome o: the answer, and each written list
-- afterwards. proofs/Demands.antt proves `Demands` of the outcome that the definition gives, and `aig` of whatever the function `renumber` leaves.
-- Every cell is told by what
-- it is; the walk's definition is needed only for the order in which new gates are numbered. The words stand in Claims.antt and Graph.antt. Assumes nothing.
use Rattle.std.specs.Prelude.{ℕ, ◌+◌, ◌*◌, ◌-◌, ◌<◌, ◌≤◌, ◌≡◌, ◌≢◌, ◌↔◌, ◌⊎◌, Bool, true, false, length, get_or, Ok, Err}
use Rattle.lit.specs.Code.{var, literal}
use Rattle.lit.specs.declared.Lit.{Lit}
use Rattle.circuit.specs.declared.Refusal.{Refusal}
use Rattle.circuit.specs.declared.Refusal.TheVariants.{Undefined, Cycle}
use Rattle.circuit.specs.declared.Summary.{Summary}
use Rattle.circuit.specs.Graph.{In, Gate, out_var, DefinedOnce}
use Rattle.circuit.specs.Map.{no_image}
use Rattle.circuit.specs.Walk.{Work, Out, reached, stopped, no_room}
use Rattle.circuit.specs.Circuit.{Circuit, graph, walked, walk_with}
use Rattle.circuit.specs.Ordered.{Ordered, first_latch, count_from, sources_of, ordered_graph, no_pair, InOrder}
use Rattle.circuit.specs.Outcome.{Lent, Outcome, circuit_of, held}
use Rattle.circuit.specs.Claims.{Passes, AllReset, first_value, AllGrounded, HasImage, Named, SameValue, image_after, larger_after, smaller_after, Stays, IsNew, Ruled, IsTrue, Early, Late, KeepsPast, KeepsAll, Clears, Fills, Holds}

-- after a success that answered s, where the lists hold the ordered circuit D
pub record AfterSuccess (l : Lent) (C : Circuit) (o : Outcome) (s : Summary) (D : Ordered) : Type 0 where
  -- only what passes checks 1 to 4 and 22 succeeds
  pub passes : Passes l
  -- every cell of the lists: the map's, the next, reset and root images, the words of the new gates, the zeros after them and in the scratch
  pub fills : Fills l C o s
  -- D's gates are those words, its next states, resets and roots those images
  pub holds : Holds l o s D
  -- a literal's image is its variable's cell, with the low bit flipped if the literal is odd; past V, or where the cell is the word for no image, there
  -- is none
  pub image_cells : (c : ℕ) (t : Lit) → HasImage l o c t ↔ ((var c ≤ C.top) × (get_or o.map (var c) 0 ≢ no_image) × (t.0 ≡ image_after o c))
  -- each walked literal has an image; a literal has an image exactly when its variable is the constant's, an input's, a latch's, or reached
  pub walked_have_images : (c : ℕ) → In c (walked C) → (t : Lit) × HasImage l o c t
  pub images_exactly : (c : ℕ) → ((t : Lit) × HasImage l o c t) ↔ Named C (var c)
  -- each literal with an image has the image's value under every setting of inputs and latches
  pub images_keep_values : (c : ℕ) (t : Lit) → HasImage l o c t → (given : ℕ → Bool) → SameValue (graph C) (ordered_graph D) given c t.0
  -- each new gate's code exceeds its first input, which is not below its second
  pub gates_in_order : InOrder (sources_of D) D.gates
  -- the j-th next image is the image of the j-th next state, and so with roots
  pub next_images : (j : ℕ) → j < length l.nexts → HasImage l o (get_or l.nexts j 0) (literal (get_or o.next_images j 0))
  pub root_images : (j : ℕ) → j < length l.roots → HasImage l o (get_or l.roots j 0) (literal (get_or o.root_images j 0))
  -- each latch of D has the first value that it had, 0, 1 or free; and D's resets pass check 22 again, where the latches' literals are the new ones
  pub first_values : (j : ℕ) → j < length l.states → first_value (get_or D.resets j 0) ≡ first_value (get_or l.resets j 0)
  pub resets_pass : AllReset (count_from (first_latch D.inputs) (length D.nexts)) D.resets
  -- g is the number of D's gates, and no more than there were; the new largest variable is I + L + g, and at most V
  pub made : s.made ≡ length D.gates
  pub made_few : s.made ≤ length C.gates
  pub top : s.top.0 ≡ length l.inputs + length l.states + s.made
  pub top_few : s.top.0 ≤ C.top
  -- every new code is at most 2 (I + L + g) + 1, and is not the word for no image
  pub codes_within : (c : ℕ) (t : Lit) → HasImage l o c t → (t.0 ≤ 2 * s.top.0 + 1) × (t.0 < no_image)
  -- the constant, inputs and latches have document 01's codes
  pub constant_code : HasImage l o 0 (literal 0)
  pub source_codes : (k : ℕ) → k < length (graph C).sources → HasImage l o (get_or (graph C).sources k 0) (literal (2 * (k + 1)))
  -- a reached gate has inputs with images; folding is on and a row takes them and gives the gate's image, or else it is one of the new gates
  pub gates_ruled : (g : Gate) → In g C.gates → Named C (out_var g) → Ruled l o s g
  -- with hashing off every reached gate that no row takes is a new gate of its own
  pub gates_kept : C.hash ≡ false → (g : Gate) → Stays l o g → (j : ℕ) × IsNew l o s g j × ((g' : Gate) → Stays l o g' → IsNew l o s g' j → g ≡ g')
  -- with hashing on two of them share a new gate exactly when the images of their inputs are the same two; and no two new gates are alike
  pub gates_shared : C.hash ≡ true → (g g' : Gate) → Stays l o g → Stays l o g'
      → (image_after o g.output ≡ image_after o g'.output) ↔ ((larger_after o g ≡ larger_after o g') × (smaller_after o g ≡ smaller_after o g'))
  pub no_twins : C.hash ≡ true → (i j : ℕ) → i < j → j < s.made → get_or D.gates i no_pair ≢ get_or D.gates j no_pair

-- all that is demanded
pub record Demands (l : Lent) (C : Circuit) (o : Outcome) : Type 0 where
  -- what passes checks 1 to 4 and 22 succeeds exactly when no variable is defined twice, counting the constant, every literal reached from the walked ones is
  -- defined, and no gate so reached reaches itself
  pub succeeds_exactly : Passes l → ((s : Summary) × (o.answer ≡ Ok s)) ↔ (DefinedOnce (graph C) × AllGrounded C)
  -- a refusal is true: it is the first check that is not passed, it names the first literal at fault in the check's order, 7 names a literal that is used
  -- and not defined, and 8 one that is used and reaches itself
  pub refusals_true : (r : Refusal) → o.answer ≡ Err r → IsTrue l r
  -- every refusal is an early or a late one: after 1 to 4 and 22 every cell holds what it held; after the others the cells named hold the word for no
  -- image or 0, and all others what they held
  pub early_or_late : (r : Refusal) → Early r ⊎ Late r
  pub early_refusals_keep : (r : Refusal) → o.answer ≡ Err r → Early r → KeepsAll l o
  pub late_refusals_clear : (r : Refusal) → o.answer ≡ Err r → Late r → Clears l C o
  -- whatever the answer, each written list keeps its length, and its cells past those named
  pub past_kept : KeepsPast l C o
  -- after a success the lists hold an ordered circuit
  pub success : (s : Summary) → o.answer ≡ Ok s → AfterSuccess l C o s (held l s o)

-- a walk ends before its room does: by success, by 7 or by 8
pub data EndsFirst : Out → Type 0 where
  by_success : (w : Work) → EndsFirst (reached w)
  by_seven : (d : Lit) → EndsFirst (stopped (Undefined d))
  by_eight : (d : Lit) → EndsFirst (stopped (Cycle d))

-- two entries a gate are no limit: with room for 2G entries the walk ends first, and with any more it comes to the same
pub record NeverTooDeep (C : Circuit) : Type 0 where
  pub ends : EndsFirst (walk_with (2 * length C.gates) C)
  pub more_is_same : (room : ℕ) → 2 * length C.gates ≤ room → walk_with room C ≡ walk_with (2 * length C.gates) C

-- and no fewer would do: l lends G gates that pass checks 1 to 4, 22, 5 and 6, and with room for one entry fewer than 2G the walk has no room
pub record AsDeepAsCanBe (l : Lent) (G : ℕ) : Type 0 where
  pub passes : Passes l
  pub once : DefinedOnce (graph (circuit_of l))
  pub gates : length (circuit_of l).gates ≡ G
  pub needs_all : walk_with (2 * G - 1) (circuit_of l) ≡ no_room
