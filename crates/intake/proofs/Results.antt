-- What `map_err` was given, by what it answers. Assumes nothing.
use Prim.Native.Nat.{ℕ}
use mathlib.Core.Path.{◌≡◌, refl, sym, ap, subst, ◌∙◌}
use native.Mathlib.Omega.{arith}
use Rattle.std.specs.Prelude.{Result, Ok, Err}
use Rattle.std.specs.Result.{MatchResult, IsErrAnd}

pub was_ok : {T E D : Type 0} (s : Result T E) (r : Result T D) (P : E → D → Type 0) (x : T)
    → MatchResult s (λ y. r ≡ Ok y) (λ e. IsErrAnd r (P e)) → r ≡ Ok x → s ≡ Ok x
was_ok {T} {E} {D} (Ok y) r P x m k =
    let z : ◌≡◌ {A = Result T D} (Ok y) (Ok x) = sym m ∙ k in let same : y ≡ x = cc in ap (λ (v : T). Ok v) same
was_ok {T} {E} {D} (Err e) r P x m k = absurd (subst (λ (q : Result T D). IsErrAnd q (P e)) k m)

pub was_err : {T E D : Type 0} (s : Result T E) (r : Result T D) (P : E → D → Type 0) (d : D)
    → MatchResult s (λ y. r ≡ Ok y) (λ e. IsErrAnd r (P e)) → r ≡ Err d → (e : E) × (s ≡ Err e) × P e d
was_err {T} {E} {D} (Ok y) r P d m k =
    absurd (let z : ◌≡◌ {A = Result T D} (Ok y) (Err d) = sym m ∙ k in let z' : ◌≡◌ {A = ℕ} 0 1 = cc in omega arith)
was_err {T} {E} {D} (Err e) r P d m k = (e, refl, subst (λ (q : Result T D). IsErrAnd q (P e)) k m)
