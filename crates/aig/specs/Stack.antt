-- The stack's words. Assumes nothing.
use Rattle.std.specs.Prelude.{ℕ, ◌/◌, ◌%◌, Bool, true, false, cond, List, eqb, get_or}
use Rattle.lit.specs.Code.{literal}
use Rattle.circuit.specs.Machine as machine
use Rattle.aig.specs.declared.stack.Frame.{Frame}
use Rattle.aig.specs.declared.stack.Frame.TheVariants.{First, Second}

-- a frame as the definitions have it, and its word
abbrev pub frame_of : Frame → machine.Frame
frame_of (First l) = record { lit = l.0; on_second = false }
frame_of (Second l) = record { lit = l.0; on_second = true }

abbrev pub word_of : Frame → ℕ
word_of f = machine.frame_word (frame_of f)

-- a word's frame
unfoldable pub in_word : ℕ → Frame
in_word w = cond (eqb (w % 2) 0) (First (literal (w / 2))) (Second (literal (w / 2)))

-- the code c is that of the middle one of the first `depth` words
unfoldable pub middle_is : List ℕ → ℕ → ℕ → Bool
middle_is ws depth c = cond (eqb depth 0) false (eqb (get_or ws (depth / 2) 0 / 2) c)
