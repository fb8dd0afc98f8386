-- What the C entry for expanding an ordered circuit answers, and what it leaves in each lent list. Assumes nothing.
use Rattle.std.specs.Prelude.{ℕ, List}
use Rattle.ordered.specs.Expand.{Lists, Outcome, expansion_number, expansion}

-- all that C sees afterwards: the number answered, and the three lists
pub record Seen : Type 0 where
  pub number : ℕ
  pub input_codes : List ℕ
  pub state_codes : List ℕ
  pub triples : List ℕ

-- what C sees when a call returns, as the contract writes it down, a field a line
abbrev pub lists_seen : Seen → Seen
lists_seen s = s

-- an outcome as C sees it
abbrev pub as_seen : Outcome → Seen
as_seen o =
    record { number = expansion_number o.answer; input_codes = o.lists.inputs; state_codes = o.lists.states; triples = o.lists.triples }

-- I inputs, L latches and gates two words each, expanded into what is lent
abbrev pub expand_seen : ℕ → ℕ → List ℕ → Lists → Seen
expand_seen i l gates lists = as_seen (expansion i l gates lists)
