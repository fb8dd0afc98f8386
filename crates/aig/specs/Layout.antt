-- Where the scratch words have what: the definitions table, heads and links of the trie, the stack. Assumes nothing.
use Rattle.std.specs.Prelude.{ℕ, ◌+◌, ◌*◌, ◌<◌, ◌≤◌, ◌≡◌, List, length, take, drop}
use Rattle.aig.specs.declared.shape.Shape.{Shape}

-- `size` words from the place `from` on
abbrev pub part : ℕ → ℕ → List ℕ → List ℕ
part from size ws = take size (drop from ws)

-- the table comes first, a word for each variable; then heads and links
abbrev pub links_at : Shape → ℕ
links_at s = s.vars

-- a head for each variable, a left link for each, and a right link for each gate. A gate k has the k-th left link: there are enough, since gates are fewer
-- than variables (`few`, below), and so no two gates share a link (`link_within`, `link_same` of proofs/Branching)
abbrev pub links_size : Shape → ℕ
links_size s = 2 * s.vars + s.gates

-- and last the stack, two entries for each gate
abbrev pub stack_at : Shape → ℕ
stack_at s = 3 * s.vars + s.gates

abbrev pub stack_size : Shape → ℕ
stack_size s = 2 * s.gates

-- the definitions table
abbrev pub table_of : Shape → List ℕ → List ℕ
table_of s ws = take s.vars ws

-- the trie's heads and links
abbrev pub links_of : Shape → List ℕ → List ℕ
links_of s ws = part (links_at s) (links_size s) ws

-- the stack's words
abbrev pub stack_of : Shape → List ℕ → List ℕ
stack_of s ws = part (stack_at s) (stack_size s) ws

-- the sizes are those that the checks leave; gates are fewer than variables, the constant being one; and the scratch words are as many as the parts have
pub record Room (s : Shape) (scratch : List ℕ) : Type 0 where
  pub vars : s.vars ≤ 1048576
  pub gates : s.gates ≤ 1048576
  pub few : s.sources + s.gates < s.vars
  pub long : length scratch ≡ 3 * s.vars + 3 * s.gates
