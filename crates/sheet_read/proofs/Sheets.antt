-- How a sheet is read: a test a return of the code, and what is known of a sheet that is read whole. Assumes nothing.
use Prim.Native.Nat.{ℕ, ◌≤◌, ◌<◌}
use mathlib.Core.Path.{◌≡◌, refl, sym, ap, subst, subst⁻¹, ◌∙◌}
use mathlib.Core.Bool.{Bool, true, false, cond}
use mathlib.Core.List.{List, [], ◌++◌, append_assoc}
use native.Mathlib.Omega.{arith}
use borrow.Author.Tests.{lt-ltb, le-ltb}
use lib.Dec.{ltb}
use lib.ListN.{length, take, drop, take-append-drop}
use lib.Seq.{length-take-le, drop-append-le}
use Rattle.std.specs.Prelude.{⊤, Result, Ok, Err}
use Rattle.token.specs.declared.Refused.{Refused}
use Rattle.circuit.specs.Outcome.{onto}
use Rattle.circuit.proofs.Outcome.{onto_long, onto_whole, onto_none, onto-length, onto-take}
use Rattle.sheet_read.specs.declared.Faulty.{Faulty}
use Rattle.sheet_read.specs.Sheet.{whole, faulty, faulty_number, Run, Read, read_as, numbers_at, too_large, flags_of, code_count, sheet_limit, codes_read, lists_read, header_read, sheet_read, read_of}
use Rattle.sheet_read.specs.Promise.{Fills, Reads, ReadsCodes, Taken}
use Rattle.sheet_read.proofs.Runs.{run_few, run_whole}
use Rattle.sheet_read.proofs.Headers.{codes_few}

-- words onto the front of a part are words onto the front of the whole
pub onto_front : (ns cs front cs' : List ℕ) (n : ℕ) → length ns ≤ n → n ≤ length cs → front ≡ onto ns (take n cs) → cs' ≡ front ++ drop n cs → cs' ≡ onto ns cs
onto_front ns cs front cs' n few room e f =
    let long : length (take n cs) ≡ n = length-take-le n cs room in
    f ∙ ap (λ (l : List ℕ). l ++ drop n cs) (e ∙ onto_long ns (take n cs) (omega arith)) ∙ append_assoc ns (drop (length ns) (take n cs)) (drop n cs)
    ∙ ap (λ (l : List ℕ). ns ++ l) (sym (drop-append-le (length ns) (take n cs) (drop n cs) (omega arith)) ∙ ap (drop (length ns)) (take-append-drop n cs))
    ∙ sym (onto_long ns cs (omega arith))

-- the returns of `read_lists`
module _ (s h cs : List ℕ) (at : ℕ) where
  pub lists_large : too_large h ≡ true → ReadsCodes (header_read s h (Ok at)) (faulty 1 0) cs cs
  lists_large t = (rw t, rw t (sym (onto_none cs)))

  pub lists_flagged : too_large h ≡ false → 7 < flags_of h → ReadsCodes (header_read s h (Ok at)) (faulty 2 0) cs cs
  lists_flagged t f = (rw (t, lt-ltb 7 (flags_of h) f), rw (t, lt-ltb 7 (flags_of h) f) (sym (onto_none cs)))

  module _ (within : too_large h ≡ false) (flags : flags_of h ≤ 7) (n : ℕ) (count : n ≡ code_count h) (room : n ≤ length cs)
      (end : Result ℕ Refused) (front cs' : List ℕ) (fills₀ : Fills (numbers_at s at (length (take n cs))) end (take n cs) front) (left : cs' ≡ front ++ drop n cs) where
    fills : Fills (numbers_at s at n) end (take n cs) front
    fills = subst (λ (k : ℕ). Fills (numbers_at s at k) end (take n cs) front) (length-take-le n cs room) fills₀

    read_is : (x : Read) → codes_read s h (numbers_at s at n).numbers end ≡ x → header_read s h (Ok at) ≡ x
    unfolding lists_read
    read_is x e =
        rw (within, le-ltb 7 (flags_of h) flags, ← count) (ap (codes_read s h (numbers_at s at n).numbers) (sym fills.0) ∙ e)

    codes-left : cs' ≡ onto (numbers_at s at n).numbers cs
    codes-left = onto_front (numbers_at s at n).numbers cs front cs' n (run_few s at n) room fills.1 left

    told : (r : Result ⊤ Faulty) → codes_read s h (numbers_at s at n).numbers end ≡ read_as r h (numbers_at s at n).numbers
        → ReadsCodes (header_read s h (Ok at)) r cs cs'
    told r e =
        let x = read_is (read_as r h (numbers_at s at n).numbers) e in
        (sym (ap (λ (y : Read). y.reading) x), codes-left ∙ ap (λ (y : Read). onto y.codes cs) (sym x))

    pub lists_more : (place : ℕ) → end ≡ Ok place → place < length s → ReadsCodes (header_read s h (Ok at)) (faulty 2 0) cs cs'
    lists_more place k more = told (faulty 2 0) (rw (k, lt-ltb place (length s) more))

    pub lists_whole : (place : ℕ) → end ≡ Ok place → length s ≤ place → ReadsCodes (header_read s h (Ok at)) whole cs cs'
    lists_whole place k all = told whole (rw (k, le-ltb place (length s) all))

    pub lists_broken : (e : Refused) → end ≡ Err e → ReadsCodes (header_read s h (Ok at)) (Err (faulty_number e)) cs cs'
    lists_broken e k = told (Err (faulty_number e)) (rw k)

-- the header of a sheet is what was read of it, unless the sheet is too long
pub header_kept : (s h : List ℕ) (e : Result ℕ Refused) → (header_read s h e).header ≡ h
unfolding lists_read
header_kept s h (Err e) = refl
header_kept s h (Ok at) = large (too_large h) (ltb 7 (flags_of h)) (numbers_at s at (code_count h)).numbers (numbers_at s at (code_count h)).ended
  where
    by_end : (b : Bool) (cs : List ℕ) → (cond b (read_as (faulty 2 0) h cs) (read_as whole h cs)).header ≡ h
    by_end true cs = refl
    by_end false cs = refl

    listed : (cs : List ℕ) (x : Result ℕ Refused) → (codes_read s h cs x).header ≡ h
    listed cs (Ok place) = by_end (ltb place (length s)) cs
    listed cs (Err e) = refl

    large : (a b : Bool) (cs : List ℕ) (x : Result ℕ Refused) → (cond a (read_as (faulty 1 0) h []) (cond b (read_as (faulty 2 0) h []) (codes_read s h cs x))).header ≡ h
    large true b cs x = refl
    large false true cs x = refl
    large false false cs x = listed cs x

-- the returns of `read`
module _ (s h₀ cs₀ : List ℕ) where
  pub sheet_long : sheet_limit < length s → Reads (read_of s) (faulty 1 0) h₀ h₀ cs₀ cs₀
  unfolding read_of sheet_read
  sheet_long long = (
    rw (lt-ltb sheet_limit (length s) long),
    rw (lt-ltb sheet_limit (length s) long) (sym (onto_none h₀)),
    rw (lt-ltb sheet_limit (length s) long) (sym (onto_none cs₀)),
  )

  module _ (short : length s ≤ sheet_limit) (ten : length h₀ ≡ 10) (end : Result ℕ Refused) (h : List ℕ) (fills : Fills (numbers_at s 0 (length h₀)) end h₀ h) where
    abbrev run : Run
    run = numbers_at s 0 10

    ended_is : end ≡ run.ended
    ended_is = fills.0 ∙ ap (λ (k : ℕ). (numbers_at s 0 k).ended) ten

    header_is : h ≡ onto run.numbers h₀
    header_is = fills.1 ∙ ap (λ (k : ℕ). onto (numbers_at s 0 k).numbers h₀) ten

    read_is_as : read_of s ≡ header_read s run.numbers end
    unfolding read_of sheet_read
    read_is_as = rw (le-ltb sheet_limit (length s) short) (ap (header_read s run.numbers) (sym ended_is))

    pub sheet_broken : (e : Refused) → end ≡ Err e → Reads (read_of s) (Err (faulty_number e)) h₀ h cs₀ cs₀
    sheet_broken e k =
        let x : read_of s ≡ read_as (Err (faulty_number e)) run.numbers [] = read_is_as ∙ rw k in (
          sym (ap (λ (y : Read). y.reading) x),
          header_is ∙ ap (λ (y : Read). onto y.header h₀) (sym x),
          sym (onto_none cs₀) ∙ ap (λ (y : Read). onto y.codes cs₀) (sym x),
        )

    pub sheet_lists : (r : Result ⊤ Faulty) (place : ℕ) (cs : List ℕ) → end ≡ Ok place → ReadsCodes (header_read s h (Ok place)) r cs₀ cs
        → Reads (read_of s) r h₀ h cs₀ cs
    sheet_lists r place cs k reads =
        let long : length run.numbers ≡ length h₀ = run_whole s 0 10 place (sym ended_is ∙ k) ∙ sym ten in
        let all : run.numbers ≡ h = sym (header_is ∙ onto_whole run.numbers h₀ long) in
        let x : read_of s ≡ header_read s h (Ok place) = read_is_as ∙ ap (header_read s run.numbers) k
        ∙ ap (λ (l : List ℕ). header_read s l (Ok place)) all in
        let kept : (read_of s).header ≡ h = ap (λ (y : Read). y.header) x ∙ header_kept s h (Ok place) in (
          reads.0 ∙ ap (λ (y : Read). y.reading) (sym x),
          sym (ap (λ (l : List ℕ). onto l h₀) kept ∙ onto_whole h h₀ (ap length (sym all) ∙ long)),
          reads.1 ∙ ap (λ (y : Read). onto y.codes cs₀) (sym x),
        )

-- a sheet that is read whole has a header that is taken, and as many codes as it announces

faulty_whole : (e : Faulty) → ◌≡◌ {A = Result ⊤ Faulty} (Err e) whole → ⊥
faulty_whole e k = cc

lists_taken : (s h : List ℕ) (at : ℕ) → (header_read s h (Ok at)).reading ≡ whole → (too_large h ≡ false)
    × (length (header_read s h (Ok at)).codes ≡ code_count h)
unfolding lists_read
lists_taken s h at e = go (too_large h) refl (ltb 7 (flags_of h)) (numbers_at s at (code_count h)).ended refl e
  where
    cs : List ℕ
    cs = (numbers_at s at (code_count h)).numbers

    last : (b : Bool) → length cs ≡ code_count h → (cond b (read_as (faulty 2 0) h cs) (read_as whole h cs)).reading ≡ whole
        → length (cond b (read_as (faulty 2 0) h cs) (read_as whole h cs)).codes ≡ code_count h
    last true k f = absurd (faulty_whole _ f)
    last false k f = k

    go : (a : Bool) → too_large h ≡ a → (b : Bool) (x : Result ℕ Refused) → (numbers_at s at (code_count h)).ended ≡ x
        → (cond a (read_as (faulty 1 0) h []) (cond b (read_as (faulty 2 0) h []) (codes_read s h cs x))).reading ≡ whole
        → (too_large h ≡ false) × (length (cond a (read_as (faulty 1 0) h []) (cond b (read_as (faulty 2 0) h []) (codes_read s h cs x))).codes ≡ code_count h)
    go true p b x q f = absurd (faulty_whole _ f)
    go false p true x q f = absurd (faulty_whole _ f)
    go false p false (Ok place) q f = (p, last (ltb place (length s)) (run_whole s at (code_count h) place q) f)
    go false p false (Err e) q f = absurd (faulty_whole (faulty_number e) f)

pub sheet_taken : (s : List ℕ) → (read_of s).reading ≡ whole → Taken (read_of s).header × (length (read_of s).codes ≡ code_count (read_of s).header)
unfolding read_of sheet_read
sheet_taken s e = go (ltb sheet_limit (length s)) (numbers_at s 0 10).ended refl e
  where
    h : List ℕ
    h = (numbers_at s 0 10).numbers

    go : (b : Bool) (x : Result ℕ Refused) → (numbers_at s 0 10).ended ≡ x → (cond b (read_as (faulty 1 0) [] []) (header_read s h x)).reading ≡ whole
        → Taken (cond b (read_as (faulty 1 0) [] []) (header_read s h x)).header
        × (length (cond b (read_as (faulty 1 0) [] []) (header_read s h x)).codes ≡ code_count (cond b (read_as (faulty 1 0) [] []) (header_read s h x)).header)
    go true x q f = absurd (faulty_whole _ f)
    go false (Err e) q f = absurd (faulty_whole (faulty_number e) f)
    go false (Ok at) q f =
        let t = lists_taken s h at f in
        let kept : (header_read s h (Ok at)).header ≡ h = header_kept s h (Ok at) in
        let ten : length h ≡ 10 = run_whole s 0 10 at q in (
          record { ten = ap length kept ∙ ten; within = ap too_large kept ∙ t.0 },
          t.1 ∙ ap code_count (sym kept),
        )

-- what `report` has of such a sheet
pub record Got (s h cs : List ℕ) : Type 0 where
  pub taken : Taken h
  pub room : length cs ≡ 7161
  pub header : h ≡ (read_of s).header
  pub codes : take (code_count h) cs ≡ (read_of s).codes

pub sheet_got : (s h₀ h cs₀ cs : List ℕ) (r : Result ⊤ Faulty) → length h₀ ≡ 10 → length cs₀ ≡ 7161 → Reads (read_of s) r h₀ h cs₀ cs → r ≡ whole → Got s h cs
sheet_got s h₀ h cs₀ cs r ten room reads w =
    let t = sheet_taken s (sym reads.0 ∙ w) in
    let same : h ≡ (read_of s).header = reads.1 ∙ onto_whole (read_of s).header h₀ (t.0.ten ∙ sym ten) in
    let few : code_count (read_of s).header ≤ 7161 = codes_few t.0 in
    record {
      taken = subst⁻¹ Taken same t.0;
      room = ap length reads.2 ∙ onto-length (read_of s).codes cs₀ ∙ room;
      header = same;
      codes =
          ap (λ (l : List ℕ). take (code_count l) cs) same ∙ ap (take (code_count (read_of s).header)) reads.2
          ∙ onto-take (read_of s).codes cs₀ (code_count (read_of s).header) t.1 (omega (arith, few, room));
    }
