-- The gates made, in a binary trie for each variable: a node is a gate made, found by its key, which is the sign of its larger code and then the bits
-- of its smaller one, lowest first. 0 is a free place, k + 1 is gate k. Assumes nothing.
use Rattle.std.specs.Prelude.{ℕ, zero, suc, ◌+◌, ◌*◌, ◌/◌, ◌%◌, ◌^◌, ◌<◌, ◌≤◌, ◌≡◌, List, length, get_or, set}
use Rattle.lit.specs.Code.{var}
use Rattle.circuit.specs.Walk.{Pair}
use Rattle.circuit.specs.Ordered.{no_pair}

-- gate j of those made, and its two codes
abbrev pub gate_in : List Pair → ℕ → Pair
gate_in made j = get_or made j no_pair

abbrev pub larger_of : List Pair → ℕ → ℕ
larger_of made j = (gate_in made j).larger

abbrev pub smaller_of : List Pair → ℕ → ℕ
smaller_of made j = (gate_in made j).smaller

-- the variable that a gate with this pair hangs under
abbrev pub head_of : Pair → ℕ
head_of p = var p.larger

-- its key: the larger code's sign is the lowest bit
abbrev pub key_of : Pair → ℕ
key_of p = 2 * p.smaller + p.larger % 2

-- as many bits as a key can have: a code is at most 2V+1, which is below 2^21, and the sign is one bit more
abbrev pub key_bits : ℕ
key_bits = 22

-- what is left of a key after d bits
abbrev pub rest : ℕ → ℕ → ℕ
rest key zero = key
rest key (suc d) = rest key d / 2

-- two keys have the same first d bits
abbrev pub Agree : ℕ → ℕ → ℕ → Type 0
Agree d x y = (i : ℕ) → i < d → rest x i % 2 ≡ rest y i % 2

-- where the links have the link of gate k for the bit b: n heads come first, then n left links (b is 0), then the right ones
abbrev pub link_at : ℕ → ℕ → ℕ → ℕ
link_at n zero k = n + k
link_at n (suc b) k = 2 * n + k

-- one step of a way: q is the link for the bit b of a gate that is met at a place with W
pub record Step (W : ℕ → Type 0) (links : List ℕ) (n b q : ℕ) : Type 0 where
  pub from : ℕ
  pub gate : ℕ
  pub way : W from
  pub word : get_or links from 0 ≡ suc gate
  pub to : q ≡ link_at n b gate

-- from the head v, d bits of the key lead to the place q
abbrev pub Way : List ℕ → ℕ → ℕ → ℕ → ℕ → ℕ → Type 0
Way links n v key zero q = q ≡ v
Way links n v key (suc d) q = Step (λ p. Way links n v key d p) links n (rest key d % 2) q

-- gate k, met after d bits of a key under the head v
pub record Met (made : List Pair) (depth : ℕ → ℕ) (v key d k : ℕ) : Type 0 where
  pub inside : k < length made
  pub under : head_of (gate_in made k) ≡ v
  pub deep : depth k ≡ d
  pub agrees : Agree d (key_of (gate_in made k)) key

-- gate k, with the pair p, stands where d bits of its key lead
pub record Stands (links : List ℕ) (n : ℕ) (p : Pair) (d k : ℕ) : Type 0 where
  pub at : ℕ
  pub way : Way links n (head_of p) (key_of p) d at
  pub word : get_or links at 0 ≡ suc k

-- the links of the gates made, each at a depth: one that is met agrees with the key that leads to it; every one is found by its key; no pair is there
-- twice; keys have at most so many bits; links of gates not made are free
pub record Trie (n : ℕ) (made : List Pair) (links : List ℕ) : Type 0 where
  pub depth : ℕ → ℕ
  pub met : (v key d p k : ℕ) → v < n → Way links n v key d p → get_or links p 0 ≡ suc k → Met made depth v key d k
  pub found : (k : ℕ) → k < length made → Stands links n (gate_in made k) (depth k) k
  pub once : (i j : ℕ) → i < j → j < length made → larger_of made i ≡ larger_of made j → smaller_of made i ≡ smaller_of made j → ⊥
  pub low : (k : ℕ) → k < length made → key_of (gate_in made k) < 2 ^ key_bits
  pub clean : (b k : ℕ) → b < 2 → length made ≤ k → k < n → get_or links (link_at n b k) 0 ≡ 0

-- no gate with the pair p was made
abbrev pub Fresh : List Pair → Pair → Type 0
Fresh made p = (k : ℕ) → k < length made → larger_of made k ≡ p.larger → smaller_of made k ≡ p.smaller → ⊥

-- the place is free, and the key of a pair that was not made leads there
pub record FreeAt (n : ℕ) (made : List Pair) (links : List ℕ) (p : Pair) (place : ℕ) : Type 0 where
  pub depth : ℕ
  pub way : Way links n (head_of p) (key_of p) depth place
  pub empty : get_or links place 0 ≡ 0
  pub inside : place < length links
  pub fresh : Fresh made p

-- the scratch words with gate k put in a place
abbrev pub linked : ℕ → ℕ → List ℕ → List ℕ
linked k place ws = set ws place (k + 1)
