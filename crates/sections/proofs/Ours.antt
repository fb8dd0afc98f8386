-- A spelling is ours or longer than ours. Lines, counts and roots have one spelling each. What may be longer is a latch line with a reset of 0, and a
-- header with a zero past the last optional count that is not. Assumes nothing.
use Prim.Native.Nat.{ℕ, zero, suc, ◌+◌, ◌*◌, ◌≤◌, ◌<◌}
use mathlib.Core.Path.{◌≡◌, refl, sym, ap, ◌∙◌, subst}
use mathlib.Core.Bool.{Bool, true, false, cond}
use mathlib.Core.Logic.{inl, inr, ◌↔◌}
use mathlib.Core.List.{List, [], ◌∷◌, ◌++◌, append-nil, append_assoc}
use native.Mathlib.Omega.{arith}
use lib.Dec.{eqb}
use lib.ListN.{length, get_or, take, drop, length-append}
use lib.Seq.{drop-drop, take_at, drop_at}
use borrow.Author.Tests.{eq-eqb, ne_eqb, eqb-true, eqb-false}
use Rattle.token.specs.Format.{digits_of}
use Rattle.lines.specs.declared.Header.{Header}
use Rattle.lines.specs.Lines.{LatchLine, latch_line, nexts_of, resets_of}
use Rattle.lines.specs.Sections.{Roots, roots_of, header_of, first_roots}
use Rattle.lines.specs.Spelling.{Both, Nothing, Row, Byte, Line, Lines, Reset, Latch, Latches, Count, Options, HeaderCounts, Rooting}
use Rattle.sections.specs.Bytes.{row_bytes, line_bytes, lines_bytes, count_bytes, counts_bytes, kept_before, up_to_last, after_tag, roots_bytes}
use Rattle.sections.specs.Bytes.{reset_bytes, latch_bytes, latches_bytes}
use Rattle.sections.specs.Claims.{Least, Needed, ResetsNeeded, spelled_options}

-- ours exactly where P holds, else longer

pub data Told (P : Type 0) (ours w : List ℕ) : Type 0 where
  same : P → w ≡ ours → Told P ours w
  longer : (P → ⊥) → length ours < length w → Told P ours w

pub told_least : {P : Type 0} {ours w : List ℕ} → Told P ours w → Least ours w
told_least (same p e) = record { fewest = omega (arith, ap length e); only = λ _. e }
told_least (longer n m) = record { fewest = omega arith; only = λ e. absurd (omega arith) }

pub told_exactly : {P : Type 0} {ours w : List ℕ} → Told P ours w → (w ≡ ours) ↔ P
told_exactly (same p e) = (λ _. p, λ _. e)
told_exactly (longer n m) = (λ e. absurd (omega (arith, ap length e)), λ p. absurd (n p))

pub told_both : {P Q : Type 0} {a b x y : List ℕ} → Told P a x → Told Q b y → Told (P × Q) (a ++ b) (x ++ y)
told_both {P} {Q} {a} {b} {x} {y} t u = go t u
  where
    sums : (length (a ++ b) ≡ length a + length b) × (length (x ++ y) ≡ length x + length y)
    sums = (length-append a b, length-append x y)

    go : Told P a x → Told Q b y → Told (P × Q) (a ++ b) (x ++ y)
    go (same p e) (same q f) = same (p, q) (ap (λ (l : List ℕ). l ++ y) e ∙ ap (λ (l : List ℕ). a ++ l) f)
    go (same p e) (longer n m) = longer (λ both. n both.1) (omega (arith, ap length e, sums.0, sums.1))
    go (longer n m) (same q f) = longer (λ both. n both.0) (omega (arith, ap length f, sums.0, sums.1))
    go (longer n m) (longer o k) = longer (λ both. n both.0) (omega (arith, sums.0, sums.1))

-- of bytes that are the same
pub told_of : {P : Type 0} {a b x y : List ℕ} → a ≡ b → x ≡ y → Told P b y → Told P a x
told_of {P} {a} {b} {x} {y} e f t = subst (λ (l : List ℕ). Told P l x) (sym e) (subst (λ (l : List ℕ). Told P b l) (sym f) t)

-- between the same bytes
told_between : {P : Type 0} {ours w : List ℕ} (front back : List ℕ) → Told P ours w → Told P (front ++ (ours ++ back)) (front ++ (w ++ back))
told_between front back (same p e) = same p (ap (λ (l : List ℕ). front ++ (l ++ back)) e)
told_between {P} {ours} {w} front back (longer n m) =
    longer n
    (omega (arith, length-append front (ours ++ back), length-append ours back, length-append front (w ++ back), length-append w back))

-- parts in a row: no spelling of both is shorter than ours, and one as long is ours
pub least_both : {a b x y : List ℕ} → Least a x → Least b y → Least (a ++ b) (x ++ y)
least_both {a} {b} {x} {y} p q =
    let ours = length-append a b in
    let theirs = length-append x y in
    record {
      fewest = omega (arith, p.fewest, q.fewest);
      only = λ e.
          ap (λ (l : List ℕ). l ++ y) (p.only (omega (arith, p.fewest, q.fewest)))
          ∙ ap (λ (l : List ℕ). a ++ l) (q.only (omega (arith, p.fewest, q.fewest)));
    }

pub least_same : {a x : List ℕ} → x ≡ a → Least a x
least_same e = record { fewest = omega (arith, ap length e); only = λ _. e }

-- lines

row_only : (Thing : ℕ → List ℕ → Type 0) (each : ℕ → List ℕ) → ((v : ℕ) (x : List ℕ) → Thing v x → x ≡ each v)
    → (k : ℕ) (vs w : List ℕ) → Row (λ _. Thing) k vs w → w ≡ row_bytes each vs
row_only Thing each only k [] w e = e
row_only Thing each only k (v ∷ vs) w (x, y, t, u, e) =
    e ∙ ap (λ (l : List ℕ). l ++ y) (only v x t) ∙ ap (λ (l : List ℕ). each v ++ l) (row_only Thing each only (suc k) vs y u)

pub lines_only : (most n : ℕ) (vs w : List ℕ) → Lines most n vs w → w ≡ lines_bytes vs
unfolding line_bytes
lines_only most n vs w (count, row) = row_only (Line most) line_bytes (λ v x t. t.2) 0 vs w row

-- latch lines

-- our line of a latch, without a reset field and with one
ours_bare : (next reset : ℕ) → reset ≡ 0 → latch_bytes next reset ≡ digits_of next ++ (10 ∷ [])
unfolding latch_bytes reset_bytes
ours_bare next reset e = rw (eq-eqb reset 0 e)

ours_field : (next reset : ℕ) → (reset ≡ 0 → ⊥) → latch_bytes next reset ≡ digits_of next ++ (32 ∷ (digits_of reset ++ (10 ∷ [])))
unfolding latch_bytes reset_bytes
ours_field next reset n = rw (ne_eqb reset 0 n)

latch_told : (most own : ℕ) (l : LatchLine) (x : List ℕ) (t : Latch most own l x)
    → Told (Needed l.reset t.second.first) (latch_bytes l.next l.reset) x
latch_told most own l x t = go t.second.first
  where
    u : Both (Reset most own) (λ r. Nothing (latch_line t.middle r)) l t.back
    u = t.second

    next : t.middle ≡ l.next
    next = sym (ap (λ (k : LatchLine). k.next) u.second.0)

    reset : u.middle ≡ l.reset
    reset = sym (ap (λ (k : LatchLine). k.reset) u.second.0)

    -- the digits of the next state, and the rest of the line
    line : x ≡ digits_of l.next ++ u.front
    line =
        t.joined ∙ ap (λ (k : List ℕ). k ++ t.back) (t.first.2 ∙ ap digits_of next)
        ∙ ap (λ (k : List ℕ). digits_of l.next ++ k) (u.joined ∙ ap (λ (k : List ℕ). u.front ++ k) u.second.1 ∙ append-nil u.front)

    -- a field that is there
    field : (t : Bool) → eqb l.reset 0 ≡ t → u.front ≡ 32 ∷ (digits_of l.reset ++ (10 ∷ [])) → Told (l.reset ≡ 0 → ⊥) (latch_bytes l.next l.reset) x
    field true e f =
        let none : l.reset ≡ 0 = eqb-true l.reset 0 e in
        let ours = ap length (ours_bare l.next l.reset none) ∙ length-append (digits_of l.next) (10 ∷ []) in
        let theirs = ap length line ∙ length-append (digits_of l.next) u.front in
        let long = ap length f in
        let more = length-append (digits_of l.reset) (10 ∷ []) in
        longer (λ some. some none) (omega arith)
    field false e f =
        let some : l.reset ≡ 0 → ⊥ = eqb-false l.reset 0 e in
        same some (line ∙ ap (λ (k : List ℕ). digits_of l.next ++ k) f ∙ sym (ours_field l.next l.reset some))

    go : (s : Reset most own u.middle u.front) → Told (Needed l.reset s) (latch_bytes l.next l.reset) x
    go (inl f) =
        field (eqb l.reset 0) refl
        (f.joined ∙ ap (λ (k : List ℕ). k ++ f.back) f.first ∙ ap (λ (k : List ℕ). 32 ∷ k) f.second.1.2
        ∙ ap (λ (r : ℕ). 32 ∷ (digits_of r ++ (10 ∷ []))) reset)
    go (inr f) =
        let end : u.front ≡ 10 ∷ [] = f.joined ∙ ap (λ (k : List ℕ). k ++ f.back) f.first ∙ ap (λ (k : List ℕ). 10 ∷ k) f.second.1 in
        let none : l.reset ≡ 0 = sym reset ∙ f.second.0 in
        same tt (line ∙ ap (λ (k : List ℕ). digits_of l.next ++ k) end ∙ sym (ours_bare l.next l.reset none))

latches_told_lem : (most first k : ℕ) (ls : List LatchLine) (w : List ℕ) (t : Row (λ j. Latch most (first + 2 * j)) k ls w)
    → Told (ResetsNeeded most first ls k w t) (latches_bytes (nexts_of ls) (resets_of ls)) w
latches_told_lem most first k [] w e = same tt e
latches_told_lem most first k (l ∷ ls) w (x, y, t, u, e) =
    told_of refl e (told_both (latch_told most (first + 2 * k) l x t) (latches_told_lem most first (suc k) ls y u))

pub latches_least : (most first n : ℕ) (ls : List LatchLine) (w : List ℕ) → Latches most first n ls w → Least (latches_bytes (nexts_of ls) (resets_of ls)) w
latches_least most first n ls w t = told_least (latches_told_lem most first 0 ls w t.1)

pub latches_exactly : (most first n : ℕ) (ls : List LatchLine) (w : List ℕ) (t : Latches most first n ls w)
    → (w ≡ latches_bytes (nexts_of ls) (resets_of ls)) ↔ ResetsNeeded most first ls 0 w t.1
latches_exactly most first n ls w t = told_exactly (latches_told_lem most first 0 ls w t.1)

-- counts

-- nothing stands behind a part after which all is known
alone : {w front back : List ℕ} → w ≡ front ++ back → back ≡ [] → w ≡ front
alone {w} {front} {back} e none = e ∙ ap (λ (l : List ℕ). front ++ l) none ∙ append-nil front

count_only : (most v : ℕ) (x : List ℕ) → Count most v x → x ≡ count_bytes v
unfolding count_bytes
count_only most v x t = t.joined ∙ ap (λ (l : List ℕ). l ++ t.back) t.first ∙ ap (λ (l : List ℕ). 32 ∷ l) t.second.2

-- a count, and what stands behind it
counted : {A : Type 0} {most : ℕ} {Q : ℕ → A → List ℕ → Type 0} {a : A} {w : List ℕ} (t : Both (Count most) Q a w) → w ≡ count_bytes t.middle ++ t.back
counted {A} {most} t = t.joined ∙ ap (λ (l : List ℕ). l ++ t.back) (count_only most t.middle t.front t.first)

newline_only : (vs w : List ℕ) → Both (Byte 10) (λ _. Nothing []) vs w → (vs ≡ []) × (w ≡ 10 ∷ [])
newline_only vs w t = (t.second.0, alone t.joined t.second.1 ∙ t.first)

pub options_only : (n : ℕ) (vs w : List ℕ) → Options n vs w → (length vs ≤ n) × (w ≡ counts_bytes vs ++ (10 ∷ []))
options_only zero vs w t =
    let e = newline_only vs w t in
    (omega (arith, ap length e.0), e.1 ∙ ap (λ (l : List ℕ). counts_bytes l ++ (10 ∷ [])) (sym e.0))
options_only (suc n) vs w (inl t) =
    let u = t.second in
    let rest = options_only n u.middle u.front u.first in (
      omega (arith, ap length u.second.0, rest.0),
      counted t ∙ ap (λ (l : List ℕ). count_bytes t.middle ++ l) (alone u.joined u.second.1 ∙ rest.1)
          ∙ sym (append_assoc (count_bytes t.middle) (counts_bytes u.middle) (10 ∷ []))
          ∙ ap (λ (l : List ℕ). counts_bytes l ++ (10 ∷ [])) (sym u.second.0),
    )
options_only (suc n) vs w (inr t) =
    let e = newline_only vs w t in
    (omega (arith, ap length e.0), e.1 ∙ ap (λ (l : List ℕ). counts_bytes l ++ (10 ∷ [])) (sym e.0))

-- counts up to the last that is not zero are all of them, or have fewer bytes

count_some : (v : ℕ) → 1 ≤ length (count_bytes v)
unfolding count_bytes
count_some v = omega arith

behind_count : (v : ℕ) (vs ks : List ℕ) → Told (ks ≡ vs) (counts_bytes ks) (counts_bytes vs)
    → Told ((v ∷ ks) ≡ v ∷ vs) (counts_bytes (v ∷ ks)) (counts_bytes (v ∷ vs))
behind_count v vs ks (same p e) = same (ap (λ (l : List ℕ). v ∷ l) p) (ap (λ (l : List ℕ). count_bytes v ++ l) e)
behind_count v vs ks (longer n m) =
    longer (λ e. n (cc)) (omega (arith, length-append (count_bytes v) (counts_bytes ks), length-append (count_bytes v) (counts_bytes vs)))

kept_told : (v : ℕ) (vs ks : List ℕ) → Told (ks ≡ vs) (counts_bytes ks) (counts_bytes vs)
    → Told (kept_before v ks ≡ v ∷ vs) (counts_bytes (kept_before v ks)) (counts_bytes (v ∷ vs))
kept_told v vs [] t = go (eqb v 0)
  where
    go : (zeroth : Bool) → Told (cond zeroth [] (v ∷ []) ≡ v ∷ vs) (counts_bytes (cond zeroth [] (v ∷ []))) (counts_bytes (v ∷ vs))
    go true =
        longer (λ e. let z : ◌≡◌ {A = ℕ} 0 1 = cc in omega arith) (omega (arith, count_some v, length-append (count_bytes v) (counts_bytes vs)))
    go false = behind_count v vs [] t
kept_told v vs (k ∷ ks) t = behind_count v vs (k ∷ ks) t

up_to_last_told : (vs : List ℕ) → Told (up_to_last vs ≡ vs) (counts_bytes (up_to_last vs)) (counts_bytes vs)
up_to_last_told [] = same refl refl
up_to_last_told (v ∷ vs) = kept_told v vs (up_to_last vs) (up_to_last_told vs)

-- the header

-- zeros behind counts change nothing of what is kept
padded : (vs : List ℕ) → length vs ≤ 4 → up_to_last (get_or vs 0 0 ∷ get_or vs 1 0 ∷ get_or vs 2 0 ∷ get_or vs 3 0 ∷ []) ≡ up_to_last vs
padded [] few = refl
padded (b ∷ []) few = refl
padded (b ∷ c ∷ []) few = refl
padded (b ∷ c ∷ j ∷ []) few = refl
padded (b ∷ c ∷ j ∷ f ∷ []) few = refl
padded (b ∷ c ∷ j ∷ f ∷ x ∷ vs) few = absurd (omega arith)

header_told : (h : Header) (w : List ℕ) (t : HeaderCounts h w)
    → Told (up_to_last (spelled_options h w t) ≡ spelled_options h w t) (after_tag h) w
unfolding after_tag
header_told h w t =
    let i = t.second in
    let l = i.second in
    let o = l.second in
    let a = o.second in
    let b = a.second in
    let more : List ℕ = b.middle in
    let five : List ℕ = t.middle ∷ i.middle ∷ l.middle ∷ o.middle ∷ a.middle ∷ [] in
    let all : h ≡ header_of t.middle i.middle l.middle o.middle a.middle more = b.second.0 in
    let options = options_only 4 more b.front b.first in
    let spelled : w ≡ count_bytes t.middle ++ (count_bytes i.middle ++ (count_bytes l.middle ++ (count_bytes o.middle ++ (count_bytes a.middle ++
    (counts_bytes more ++ (10 ∷ [])))))) =
    counted t ∙ ap (λ (x : List ℕ). count_bytes t.middle ++ x) (counted i ∙ ap (λ (x : List ℕ). count_bytes i.middle ++ x)
    (counted l ∙ ap (λ (x : List ℕ). count_bytes l.middle ++ x) (counted o ∙ ap (λ (x : List ℕ). count_bytes o.middle ++ x)
    (counted a ∙ ap (λ (x : List ℕ). count_bytes a.middle ++ x) (alone b.joined b.second.1 ∙ options.1))))) in
    let theirs : w ≡ counts_bytes five ++ (counts_bytes more ++ (10 ∷ [])) = spelled ∙ simp (append_assoc, append-nil) in
    let ours : after_tag h ≡ counts_bytes five ++ (counts_bytes (up_to_last more) ++ (10 ∷ []))
    = ap after_tag all ∙ rw (padded more options.0) (simp (append_assoc, append-nil)) in
    told_of ours theirs (told_between (counts_bytes five) (10 ∷ []) (up_to_last_told more))

pub header_least : (h : Header) (w : List ℕ) → HeaderCounts h w → Least (after_tag h) w
header_least h w t = told_least (header_told h w t)

pub header_exactly : (h : Header) (w : List ℕ) (t : HeaderCounts h w) → (w ≡ after_tag h) ↔ (up_to_last (spelled_options h w t) ≡ spelled_options h w t)
header_exactly h w t = told_exactly (header_told h w t)

-- the root section

-- lines, and what stands behind them
lined : {A : Type 0} {most n : ℕ} {Q : List ℕ → A → List ℕ → Type 0} {a : A} {w : List ℕ} (t : Both (Lines most n) Q a w)
    → w ≡ lines_bytes t.middle ++ t.back
lined {A} {most} {n} t = t.joined ∙ ap (λ (l : List ℕ). l ++ t.back) (lines_only most n t.middle t.front t.first)

pub roots_only : (h : Header) (most room : ℕ) (r : Roots) (w : List ℕ) → Rooting h most room r w → w ≡ roots_bytes h r
unfolding roots_bytes
roots_only h most room r w t =
    let rest = t.second in
    let sizes = rest.first in
    let others = sizes.second in
    let fits = others.first in
    let later = fits.second in
    let fair = later.second in
    let n : ℕ = first_roots h in
    let f : ℕ = h.fairness in
    let behind : List ℕ = fair.middle ++ later.middle in
    let roots : List ℕ = t.middle ++ behind in
    let all : r ≡ roots_of sizes.middle roots =
    rest.second.0 ∙ ap (λ (p : Roots). roots_of p.sizes (t.middle ++ p.roots)) others.second.0
    ∙ ap (λ (l : List ℕ). roots_of sizes.middle (t.middle ++ l)) fair.second.0 in
    let firsts : take n roots ≡ t.middle = take_at t.middle behind n t.first.0 in
    let back : drop n roots ≡ behind = drop_at t.middle behind n t.first.0 in
    let fairs : take f (drop n roots) ≡ fair.middle = ap (take f) back ∙ take_at fair.middle later.middle f fair.first.0 in
    let laters : drop (n + f) roots ≡ later.middle =
    sym (drop-drop f n roots) ∙ ap (drop f) back ∙ drop_at fair.middle later.middle f fair.first.0 in
    let ours : roots_bytes h r
    ≡ lines_bytes t.middle ++ (lines_bytes sizes.middle ++ (lines_bytes later.middle ++ lines_bytes fair.middle))
    = ap (roots_bytes h) all ∙ rw (firsts, laters, fairs) in
    let literals : others.front ≡ lines_bytes later.middle ++ lines_bytes fair.middle
    = fits.joined ∙ ap (λ (l : List ℕ). l ++ fits.back) fits.first.2 ∙ lined later ∙ ap (λ (l : List ℕ). lines_bytes later.middle ++ l)
    (alone fair.joined fair.second.1 ∙ lines_only most f fair.middle fair.front fair.first) in
    let sized : rest.front ≡ lines_bytes sizes.middle ++ (lines_bytes later.middle ++ lines_bytes fair.middle)
    = lined sizes ∙ ap (λ (l : List ℕ). lines_bytes sizes.middle ++ l) (alone others.joined others.second.1 ∙ literals) in
    lined t ∙ ap (λ (l : List ℕ). lines_bytes t.middle ++ l) (alone rest.joined rest.second.1 ∙ sized) ∙ sym ours
