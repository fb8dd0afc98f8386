-- The tag of a text file. Assumes nothing.
use Rattle.std.specs.Prelude.{ℕ, List}
use Rattle.lines.specs.Lines.{tag_of}

-- `aag`
abbrev pub tag : List ℕ
tag = tag_of 97
