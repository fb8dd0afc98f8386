-- A text file said forwards: which bytes spell a circuit with its justice sizes. Assumes nothing.
use Rattle.std.specs.Prelude.{ℕ, ◌≡◌, List, [], ◌++◌}
use Rattle.lines.specs.declared.Header.{Header}
use Rattle.lines.specs.Sections.{top_code}
use Rattle.lines.specs.Spelling.{Both, Nothing, HeaderCounts, Rooting}
use Rattle.ascii_lines.specs.Spelling.{Inputs, StatedLines, GateLines}
use Rattle.ascii.specs.Tag.{tag}
use Rattle.ascii.specs.Text.{Text, Room, text_with}
use Rattle.ascii.specs.Promise.{Roomy}

-- the lists are long enough for what the header announces
abbrev pub Sized : Header → Room → Unit {0} → List ℕ → Type 0
Sized h room u w = Roomy h room × (w ≡ [])

-- a text after its header: input lines, latch lines, the root section, gate lines
abbrev pub Listed : Room → Header → Text → List ℕ → Type 0
Listed room h =
    Both (Inputs (top_code h) h.inputs) (λ inputs. Both (StatedLines (top_code h) h.latches) (λ latches.
    Both (Rooting h (top_code h) room.roots) (λ roots. Both (GateLines (top_code h) h.gates) (λ gates. Nothing (text_with h inputs latches roots gates)))))

-- and after its tag
abbrev pub Body : Room → Text → List ℕ → Type 0
Body room = Both HeaderCounts (λ h. Both (Sized h room) (λ _. Listed room h))

-- the whole text
abbrev pub Spells : Room → Text → List ℕ → Type 0
Spells room t w = (v : List ℕ) × (w ≡ tag ++ v) × Body room t v
