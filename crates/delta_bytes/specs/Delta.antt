-- What reading one delta into nine lent bytes answers, and what it leaves in them. Assumes nothing.
use Rattle.std.specs.Prelude.{ℕ, zero, suc, ◌/◌, ◌%◌, cond, List, [], ◌∷◌, ◌++◌, ltb, length, drop, Ok, Err}
use Rattle.token.specs.Answer.{Token, token_number, delta_at}

-- the k low bytes of a number, the lowest first
abbrev pub low_bytes : ℕ → ℕ → List ℕ
low_bytes zero v = []
low_bytes (suc k) v = v % 256 ∷ low_bytes k (v / 256)

-- nine lent bytes with a value, low byte first, and the count of bytes used; those past the ninth as they were
abbrev pub nine_bytes : ℕ → ℕ → List ℕ → List ℕ
nine_bytes v n out = low_bytes 8 v ++ n ∷ drop 9 out

-- 0 for a value, document 01's number for a refusal
abbrev pub answered : Token → ℕ
answered = token_number

-- a refusal leaves the lent bytes
abbrev pub written : Token → List ℕ → List ℕ
written (Ok code) out = nine_bytes code.value code.used out
written (Err e) out = out

-- fewer than nine lent bytes is refusal 3, tested first, and leaves them
unfoldable pub delta_number : List ℕ → ℕ → ℕ → List ℕ → ℕ
delta_number s at reference out = cond (ltb (length out) 9) 3 (answered (delta_at s at reference))

unfoldable pub delta_bytes : List ℕ → ℕ → ℕ → List ℕ → List ℕ
delta_bytes s at reference out = cond (ltb (length out) 9) out (written (delta_at s at reference) out)
