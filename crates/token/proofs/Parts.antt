-- What a number, a gate's pair or a refusal is made of: two that are equal have the same parts. Assumes nothing.
use Rattle.std.specs.Prelude.{ℕ, ◌≡◌, Result, Err}
use mathlib.Core.Path.{ap, ◌∙◌}
use Rattle.token.specs.declared.Reason.{Reason}
use Rattle.token.specs.declared.Number.{Number}
use Rattle.token.specs.declared.Inputs.{Inputs}
use Rattle.token.specs.declared.Refused.{Refused}
use Rattle.token.specs.Answer.{value, inputs, refused}

pub value_parts : {v n w m : ℕ} → value v n ≡ value w m → (v ≡ w) × (n ≡ m)
value_parts {v} {n} {w} {m} q =
    let e : ◌≡◌ {A = Number} (record { value = v; used = n }) (record { value = w; used = m }) = cc in
    (ap (λ (t : Number). t.value) e, ap (λ (t : Number). t.used) e)

pub inputs_parts : {a b n c d m : ℕ} → inputs a b n ≡ inputs c d m → (a ≡ c) × (b ≡ d) × (n ≡ m)
inputs_parts {a} {b} {n} {c} {d} {m} q =
    let e : ◌≡◌ {A = Inputs} (record { first = a; second = b; used = n }) (record { first = c; second = d; used = m }) = cc in
    (ap (λ (t : Inputs). t.first) e, ap (λ (t : Inputs). t.second) e, ap (λ (t : Inputs). t.used) e)

pub refused_parts : {A : Type 0} {why other : Reason} {at place : ℕ} → refused {A = A} why at ≡ refused {A = A} other place → (why ≡ other) × (at ≡ place)
refused_parts {A} {why} {other} {at} {place} q =
    let e : ◌≡◌ {A = Refused} (record { why = why; place = at }) (record { why = other; place = place }) = cc in
    (ap (λ (t : Refused). t.why) e, ap (λ (t : Refused). t.place) e)

-- a refusal handed on, whatever was to be read
pub refused_again : {A B : Type 0} {t : Result A Refused} {x : Refused} {why : Reason} {place : ℕ}
    → t ≡ Err x → ◌≡◌ {A = Result B Refused} (Err x) (refused why place) → t ≡ refused why place
refused_again {A} {B} {t} {x} {why} {place} f q =
    let e : ◌≡◌ {A = Refused} x (record { why = why; place = place }) = cc in
    f ∙ ap (λ (r : Refused). Err r) e
