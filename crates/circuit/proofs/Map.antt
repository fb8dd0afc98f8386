-- Laws of lookups and stores in a map: an entry is what was stored last for its variable, and a lookup is the entry with the literal's sign.
-- Assumes nothing.
use Rattle.std.specs.Prelude.{Option, Some, None}
use Rattle.lit.specs.declared.Lit.{Lit}
use Prim.Native.Nat.{ℕ, zero, suc, ◌<◌}
use mathlib.Core.Path.{◌≡◌, refl, sym, ap, subst⁻¹}
use mathlib.Core.Logic.{◌≢◌}
use mathlib.Core.Bool.{Bool, true, false, cond}
use mathlib.Core.List.{List}
use native.Mathlib.Omega.{arith}
use lib.Dec.{eqb}
use lib.ListN.{length, get_or, replicate, length-set}
use lib.Seq.{get_or-set_same, get_or-set_other}
use Rattle.lit.specs.Code.{var, flipped, literal}
use Rattle.circuit.specs.Map.{no_image, entry_image, image_in, store, code_of}
use Rattle.circuit.proofs.Tests.{Same, same, other, same_test}
use Rattle.circuit.specs.Invariant.{entry, code_in}

pub entry_same : (m : List ℕ) (d t : ℕ) → var d < length m → entry (store m d t) (var d) ≡ flipped t d
unfolding store
entry_same m d t h = get_or-set_same m (var d) (flipped t d) no_image h

pub entry_other : (m : List ℕ) (d t v : ℕ) → v ≢ var d → entry (store m d t) v ≡ entry m v
unfolding store
entry_other m d t v n = get_or-set_other m (var d) v (flipped t d) no_image n

pub store_length : (m : List ℕ) (d t : ℕ) → length (store m d t) ≡ length m
unfolding store
store_length m d t = length-set m (var d) (flipped t d)

pub entry-replicate : (n v : ℕ) → entry (replicate n no_image) v ≡ no_image
entry-replicate zero v = refl
entry-replicate (suc n) zero = refl
entry-replicate (suc n) (suc v) = entry-replicate n v

-- what holds of every entry holds after a store, if it holds of what is stored
pub store_all : (P : ℕ → ℕ → Type 0) (m : List ℕ) (d t : ℕ) → var d < length m → P (var d) (flipped t d) → ((v : ℕ) → v ≢ var d → P v (entry m v))
    → (v : ℕ) → P v (entry (store m d t) v)
store_all P m d t h p f v = go (eqb v (var d)) (same_test v (var d))
  where
    go : (b : Bool) → Same v (var d) b → P v (entry (store m d t) v)
    go true (same e) = subst⁻¹ (λ (u : ℕ). P u (entry (store m d t) u)) e (subst⁻¹ (λ (z : ℕ). P (var d) z) (entry_same m d t h) p)
    go false (other n) = subst⁻¹ (λ (z : ℕ). P v z) (entry_other m d t v n) (f v n)

-- a lookup, with what it says
pub data Looked (e c : ℕ) : Option Lit → Type 0 where
  gone : e ≡ no_image → Looked e c None
  found : e ≢ no_image → Looked e c (Some (literal (flipped e c)))

looked_entry : (e c : ℕ) → Looked e c (entry_image e c)
unfolding entry_image
looked_entry e c = go (eqb e no_image) (same_test e no_image)
  where
    go : (b : Bool) → Same e no_image b → Looked e c (cond b None (Some (literal (flipped e c))))
    go true (same h) = gone h
    go false (other h) = found h

pub looked : (m : List ℕ) (c : ℕ) → Looked (entry m (var c)) c (image_in m c)
unfolding image_in
looked m c = looked_entry (get_or m (var c) no_image) c

pub image_code : (m : List ℕ) (c t : ℕ) → image_in m c ≡ Some (literal t) → (entry m (var c) ≢ no_image) × (t ≡ code_in m c)
unfolding code_of
image_code m c t e = go (image_in m c) (looked m c) e
  where
    go : (i : Option Lit) → Looked (entry m (var c)) c i → i ≡ Some (literal t) → (entry m (var c) ≢ no_image) × (t ≡ code_in m c)
    go None (gone h) e' = absurd (let z : ◌≡◌ {A = ℕ} 0 1 = cc in omega arith)
    go (Some s) (found h) e' = (h, ap code_of (sym e'))

pub code_image : (m : List ℕ) (c : ℕ) → entry m (var c) ≢ no_image → image_in m c ≡ Some (literal (code_in m c))
code_image m c n = go (image_in m c) (looked m c)
  where
    go : (i : Option Lit) → Looked (entry m (var c)) c i → i ≡ Some (literal (code_in m c))
    go None (gone h) = absurd (n h)
    go (Some s) (found h) = refl

pub no_image_lem : (m : List ℕ) (c : ℕ) → entry m (var c) ≡ no_image → image_in m c ≡ None
no_image_lem m c e = go (image_in m c) (looked m c)
  where
    go : (i : Option Lit) → Looked (entry m (var c)) c i → i ≡ None
    go None (gone h) = refl
    go (Some s) (found h) = absurd (h e)

pub code_in_lem : (m : List ℕ) (c : ℕ) → entry m (var c) ≢ no_image → code_of (image_in m c) ≡ code_in m c
unfolding code_of
code_in_lem m c n = ap code_of (code_image m c n)

-- a lookup depends on the entry alone
pub image_entry : (m m' : List ℕ) (c : ℕ) → entry m (var c) ≡ entry m' (var c) → image_in m c ≡ image_in m' c
unfolding image_in
image_entry m m' c e = ap (λ (x : ℕ). entry_image x c) e
