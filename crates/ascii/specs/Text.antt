-- Reading a text AIGER file: the header, input lines, latch lines, the root section, and the gates' lines, to the last of them. Assumes nothing.
use Rattle.std.specs.Prelude.{ℕ, ◌*◌, Bool, cond, ◌||◌, List, ltb}
use Rattle.circuit.specs.Graph.{Gate}
use Rattle.circuit.specs.Circuit.{Circuit}
use Rattle.lines.specs.declared.Fault.TheVariants.{Short}
use Rattle.lines.specs.declared.Header.{Header}
use Rattle.lines.specs.Reading.{Read, got, no, ◌▸◌}
use Rattle.lines.specs.Sections.{Roots, header_at, top_code, roots_at}
use Rattle.binary.specs.File.{counts_of}
use Rattle.ascii.specs.Tag.{tag}
use Rattle.ascii_lines.specs.Lines.{Stated, states_of, nexts_of, resets_of, inputs_at, latches_at, gates_at}

-- what a text holds: M, and as they are written the inputs, the latches' states, next states and resets, the gates, the five root counts in walk order, the
-- sizes of the justice sets and the roots
pub record Text : Type 0 where
  pub top : ℕ
  pub inputs : List ℕ
  pub states : List ℕ
  pub nexts : List ℕ
  pub resets : List ℕ
  pub gates : List Gate
  pub counts : List ℕ
  pub sizes : List ℕ
  pub roots : List ℕ

-- the circuit of a text, with the flags trim, hash and fold: V is M
abbrev pub circuit_in : Text → Bool → Bool → Bool → Circuit
circuit_in t trim hash fold =
    record {
      top = t.top;
      inputs = t.inputs;
      states = t.states;
      nexts = t.nexts;
      resets = t.resets;
      gates = t.gates;
      counts = t.counts;
      roots = t.roots;
      trim = trim;
      hash = hash;
      fold = fold;
    }

-- how many cells are lent for inputs, states, next states, resets, gates, sizes and roots
pub record Room : Type 0 where
  pub inputs : ℕ
  pub states : ℕ
  pub nexts : ℕ
  pub resets : ℕ
  pub gates : ℕ
  pub sizes : ℕ
  pub roots : ℕ

-- the same where the roots are not asked for yet
abbrev pub room_for : ℕ → ℕ → ℕ → ℕ → ℕ → ℕ → Room
room_for inputs states nexts resets gates sizes =
    record { inputs = inputs; states = states; nexts = nexts; resets = resets; gates = gates; sizes = sizes; roots = 0 }

abbrev pub text_with : Header → List ℕ → List Stated → Roots → List Gate → Text
text_with h inputs latches r gates =
    record {
      top = h.top;
      inputs = inputs;
      states = states_of latches;
      nexts = nexts_of latches;
      resets = resets_of latches;
      gates = gates;
      counts = counts_of h r.sizes;
      sizes = r.sizes;
      roots = r.roots;
    }

-- right after the header: a list that is too short, other than the roots', is 3. M may be above I + L + A
unfoldable pub sized_at : Header → Room → ℕ → Read (Unit {0})
sized_at h room at =
    cond
    (ltb room.inputs h.inputs || ltb room.states h.latches || ltb room.nexts h.latches || ltb room.resets h.latches
    || ltb room.gates (3 * h.gates) || ltb room.sizes h.justice)
    (no Short at) (got tt at)

-- input lines; latch lines; the root section into a list of `room` cells; gates, in any order
unfoldable pub lists_at : List ℕ → ℕ → Header → ℕ → Read Text
lists_at s room h at =
    inputs_at s (top_code h) h.inputs at ▸ λ inputs at₁.
    latches_at s (top_code h) h.latches at₁ ▸ λ latches at₂.
    roots_at s h (top_code h) room at₂ ▸ λ roots at₃.
    gates_at s (top_code h) h.gates at₃ ▸ λ gates at₄.
    got (text_with h inputs latches roots gates) at₄

-- from the end of the header on
unfoldable pub body_at : List ℕ → Room → Header → ℕ → Read Text
body_at s room h at = sized_at h room at ▸ λ _ at₁. lists_at s room.roots h at₁

unfoldable pub read_text : List ℕ → Room → Read Text
read_text s room = header_at s tag ▸ λ h at. body_at s room h at
