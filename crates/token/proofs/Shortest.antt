-- Reading and writing a number in groups of seven bits: grouped bytes are read as what they write, and the shortest are the only ones of their
-- length, because the low group is the number's remainder by 128 and the groups after it write its quotient. Assumes nothing.
use mathlib.Core.Path.{◌≡◌, refl, sym, ap, ◌∙◌}
use mathlib.Core.Bool.{Bool, true, false, cond}
use mathlib.Core.List.{List, [], ◌∷◌, ◌++◌, append_assoc}
use Prim.Native.Nat.{ℕ, zero, suc, ◌+◌, ◌-◌, ◌*◌, ◌/◌, ◌%◌, ◌^◌, ◌≤◌, ◌<◌}
use native.Mathlib.Nat.{pow-suc}
use native.Mathlib.Omega.{arith}
use lib.Dec.{ltb, leb}
use lib.ListN.{length, take, drop, length-append, length-take, length-drop}
use lib.Seq.{drop-append_seam, take-append-add, take_at, take-take, get_or-drop}
use borrow.Author.Tests.{ltb-true, ltb-false, leb-true, leb-false, lt-leb, le-leb}
use Rattle.token.specs.Format.{leading, goes_on, groups_value, groups_up_to, shortest, Grouped, final, group, Bytes}
use Rattle.token.specs.Answer.{go_on_at, binary_of, binary_at, delta_at, pair_at, inputs, value}
use Rattle.token.proofs.Groups.{eight_at, groups_lt}
use Rattle.token.proofs.Deltas.{binary_read, binary_used, pair_of_lem}

-- grouped bytes are read

grouped_some : {bs : List ℕ} → Grouped bs → 1 ≤ length bs
grouped_some (final h) = omega arith
grouped_some (group on small g) = omega arith

grouped_run : {bs : List ℕ} → Grouped bs → (after : List ℕ) → leading goes_on (bs ++ after) + 1 ≡ length bs
grouped_run (final {b} h) after = rw (lt-leb 128 b h)
grouped_run (group {b} on small g) after = rw (le-leb 128 b on) (omega (arith, grouped_run g after))

-- of bytes that begin with the grouped bs, eight at most, the reader takes bs
grouped_taken : (bs after : List ℕ) → Grouped bs → length bs ≤ 8 → (n at : ℕ) → n + 1 ≡ length bs
    → binary_of (bs ++ after) n at ≡ value (groups_value bs) (length bs)
grouped_taken bs after g few n at e =
    let whole : take (n + 1) (bs ++ after) ≡ bs = take_at bs after (n + 1) (sym e) in
    rw (lt-leb 8 n (omega arith), lt-leb (length (bs ++ after)) n (omega (arith, length-append bs after)), whole, e)

pub grouped_reads : (bs : List ℕ) → Grouped bs → length bs ≤ 8 → (before after : List ℕ)
    → binary_at (before ++ (bs ++ after)) (length before) ≡ value (groups_value bs) (length bs)
unfolding binary_at go_on_at
grouped_reads bs g few before after =
    let rest : List ℕ = take (8 - length bs) after in
    let n : 8 ≡ length bs + (8 - length bs) = omega arith in
    let eight : take 8 (bs ++ after) ≡ bs ++ rest = ap (λ (m : ℕ). take m (bs ++ after)) n ∙ take-append-add bs after (8 - length bs) in
    rw (drop-append_seam before (bs ++ after), eight) (grouped_taken bs rest g few (leading goes_on (bs ++ rest)) (length before) (grouped_run g rest))

-- the shortest bytes are grouped, few, and write their number

cases : (k d : ℕ) (P : List ℕ → Type 0) → (d < 128 → P (d ∷ [])) → (128 ≤ d → P ((128 + d % 128) ∷ groups_up_to k (d / 128))) → P (groups_up_to (suc k) d)
cases k d P f g = go (ltb d 128) refl
  where
    go : (b : Bool) → ltb d 128 ≡ b → P (cond b (d ∷ []) ((128 + d % 128) ∷ groups_up_to k (d / 128)))
    go true e = f (ltb-true d 128 e)
    go false e = g (ltb-false d 128 e)

higher : (k d : ℕ) → d < 128 ^ suc (suc k) → d / 128 < 128 ^ suc k
higher k d h = let p : d < 128 ^ suc k * 128 = rw pow-suc at h in omega arith

groups_grouped : (k d : ℕ) → d < 128 ^ suc k → Grouped (groups_up_to k d)
groups_grouped zero d h = final h
groups_grouped (suc k) d h =
    cases k d Grouped (λ small. final small) (λ big. group (omega arith) (omega arith) (groups_grouped k (d / 128) (higher k d h)))

pub groups_few : (k d : ℕ) → length (groups_up_to k d) ≤ suc k
groups_few zero d = omega arith
groups_few (suc k) d =
    cases k d (λ (bs : List ℕ). length bs ≤ suc (suc k)) (λ small. omega arith) (λ big. omega (arith, groups_few k (d / 128)))

groups_value_lem : (k d : ℕ) → d < 128 ^ suc k → groups_value (groups_up_to k d) ≡ d
groups_value_lem zero d h = omega arith
groups_value_lem (suc k) d h =
    cases k d (λ (bs : List ℕ). groups_value bs ≡ d) (λ small. omega arith) (λ big. omega (arith, groups_value_lem k (d / 128) (higher k d h)))

pub shortest_reads_back : (d : ℕ) → d < 2 ^ 56 → (before after : List ℕ)
    → binary_at (before ++ (shortest d ++ after)) (length before) ≡ value d (length (shortest d))
unfolding shortest
shortest_reads_back d h before after =
    grouped_reads (groups_up_to 7 d) (groups_grouped 7 d h) (groups_few 7 d) before after
    ∙ ap (λ (v : ℕ). value v (length (groups_up_to 7 d))) (groups_value_lem 7 d h)

-- a delta and a pair so written read back

pub delta_reads_back : (reference v : ℕ) → v ≤ reference → reference - v < 2 ^ 56 → (before after : List ℕ)
    → delta_at (before ++ (shortest (reference - v) ++ after)) (length before) reference ≡ value v (length (shortest (reference - v)))
unfolding delta_at
delta_reads_back reference v h small before after =
    let back : reference - (reference - v) ≡ v = omega arith in
    rw (shortest_reads_back (reference - v) small before after, le-leb (reference - v) reference (omega arith), back)

pub pair_reads_back : (code a b : ℕ) → b ≤ a → a < code → code < 2 ^ 56 → (before after : List ℕ)
    → pair_at (before ++ (shortest (code - a) ++ (shortest (a - b) ++ after))) (length before) code
    ≡ inputs a b (length (shortest (code - a)) + length (shortest (a - b)))
pair_reads_back code a b h k small before after =
    let x : List ℕ = shortest (code - a) in
    let y : List ℕ = shortest (a - b) in
    let joined : before ++ (x ++ (y ++ after)) ≡ (before ++ x) ++ (y ++ after) = sym (append_assoc before x (y ++ after)) in
    let next : delta_at (before ++ (x ++ (y ++ after))) (length before + length x) a ≡ value b (length y)
    = rw (joined, ← length-append before x) (delta_reads_back a b h (omega arith) (before ++ x) after) in
    pair_of_lem (before ++ (x ++ (y ++ after))) (length before) code a b (length x + length y)
    (record {
      n = length x;
      m = length y;
      first = delta_reads_back code a (omega arith) (omega arith) before (y ++ after);
      second = next;
      below = k;
      bytes = refl;
    })

-- no bytes that write the same are fewer, and grouped ones of the same length are the same

groups_least : (k : ℕ) (bs : List ℕ) → 1 ≤ length bs → length bs ≤ suc k → length (groups_up_to k (groups_value bs)) ≤ length bs
groups_least zero bs some few = omega arith
groups_least (suc k) [] some few = absurd (omega arith)
groups_least (suc k) (b ∷ []) some few =
    cases k (groups_value (b ∷ [])) (λ (l : List ℕ). length l ≤ 1) (λ small. omega arith) (λ big. absurd (omega arith))
groups_least (suc k) (b ∷ c ∷ bs) some few =
    let rest : groups_value (b ∷ c ∷ bs) / 128 ≡ groups_value (c ∷ bs) = omega arith in
    cases k (groups_value (b ∷ c ∷ bs)) (λ (l : List ℕ). length l ≤ length (b ∷ c ∷ bs)) (λ small. omega arith)
    (λ big. rw rest (omega (arith, groups_least k (c ∷ bs) (omega arith) (omega arith))))

groups_only : (k : ℕ) {bs : List ℕ} → Grouped bs → length bs ≤ suc k → length (groups_up_to k (groups_value bs)) ≡ length bs → groups_up_to k (groups_value bs) ≡ bs
groups_only k (final {b} h) few same = let low : 0 * 128 + b % 128 ≡ b = omega arith in rw low (one k)
  where
    one : (j : ℕ) → groups_up_to j b ≡ b ∷ []
    one zero = refl
    one (suc j) = cases j b (λ (l : List ℕ). l ≡ b ∷ []) (λ small. refl) (λ big. absurd (omega arith))
groups_only zero (group {b} {bs} on small g) few same = absurd (omega (arith, grouped_some g))
groups_only (suc k) (group {b} {bs} on small g) few same =
    let v : ℕ = groups_value (b ∷ bs) in
    let rest : v / 128 ≡ groups_value bs = omega arith in
    let low : 128 + v % 128 ≡ b = omega arith in
    cases k v (λ (l : List ℕ). length l ≡ length (b ∷ bs) → l ≡ b ∷ bs) (λ little e. absurd (omega (arith, grouped_some g)))
    (λ big e. rw (low, rest) (ap (λ (l : List ℕ). b ∷ l) (groups_only k g (omega arith) (rw rest at (suc_same e)))))
    same
  where
    suc_same : {m n : ℕ} → suc m ≡ suc n → m ≡ n
    suc_same e = omega arith

-- the bytes of a number that is read

bytes_take : (n : ℕ) (l : List ℕ) → Bytes l → Bytes (take n l)
bytes_take zero l h i = omega arith
bytes_take (suc n) [] h i = omega arith
bytes_take (suc n) (b ∷ l) h zero = h 0
bytes_take (suc n) (b ∷ l) h (suc i) = bytes_take n l (λ j. h (suc j)) i

bytes_drop : (at : ℕ) (s : List ℕ) → Bytes s → Bytes (drop at s)
bytes_drop at s h i = rw (get_or-drop at s i 0) (h (at + i))

run_grouped : (l : List ℕ) → Bytes l → leading goes_on l < length l → Grouped (take (leading goes_on l + 1) l)
run_grouped [] small h = absurd (omega arith)
run_grouped (b ∷ bs) small h = go (leb 128 b) refl (run_grouped bs (λ i. small (suc i))) h
  where
    go : (t : Bool) → leb 128 b ≡ t → (leading goes_on bs < length bs → Grouped (take (leading goes_on bs + 1) bs))
        → cond t (suc (leading goes_on bs)) 0 < suc (length bs) → Grouped (take (cond t (suc (leading goes_on bs)) 0 + 1) (b ∷ bs))
    go true e rest h' =
        let one : suc (leading goes_on bs) + 1 ≡ suc (leading goes_on bs + 1) = omega arith in
        rw one (group (leb-true 128 b e) (small 0) (rest (omega arith)))
    go false e rest h' = final (leb-false 128 b e)

module _ (s : List ℕ) (at d n : ℕ) (e : binary_at s at ≡ value d n) where
  -- the bytes that the reader took are those at the place
  taken : take (go_on_at s at + 1) (eight_at s at) ≡ take n (drop at s)
  taken =
      let r = binary_read s at d n e in
      rw r.bytes (take-take n 8 (drop at s) (omega (arith, r.few, r.bytes)))

  taken_length : length (take n (drop at s)) ≡ n
  taken_length = simp (length-take, length-drop) (omega (arith, binary_used s at d n e))

  -- they write the number, which is small
  pub binary_means : groups_value (take n (drop at s)) ≡ d
  binary_means = ap groups_value (sym taken) ∙ (binary_read s at d n e).means

  pub binary_small : d < 2 ^ 56
  binary_small =
      omega (arith, binary_means, groups_lt 8 (take n (drop at s)) (omega (arith, taken_length, binary_used s at d n e)))

  pub binary_grouped : Bytes s → Grouped (take n (drop at s))
  unfolding go_on_at
  binary_grouped small =
      rw (← taken) (run_grouped (eight_at s at) (bytes_take 8 (drop at s) (bytes_drop at s small)) (binary_read s at d n e).ends)

  -- and are no fewer than the shortest
  pub shortest_least : length (shortest d) ≤ n
  unfolding shortest
  shortest_least =
      let u = binary_used s at d n e in
      let least = groups_least 7 (take n (drop at s)) (omega (arith, taken_length)) (omega (arith, taken_length)) in
      let same : length (groups_up_to 7 (groups_value (take n (drop at s)))) ≡ length (groups_up_to 7 d) = ap (λ (v : ℕ). length (groups_up_to 7 v)) binary_means in
      omega (arith, taken_length)

  pub shortest_only : Bytes s → length (shortest d) ≡ n → take n (drop at s) ≡ shortest d
  unfolding shortest
  shortest_only small same =
      let u = binary_used s at d n e in
      let back : length (groups_up_to 7 (groups_value (take n (drop at s)))) ≡ length (groups_up_to 7 d) = ap (λ (v : ℕ). length (groups_up_to 7 v)) binary_means in
      sym (groups_only 7 (binary_grouped small) (omega (arith, taken_length)) (omega (arith, taken_length))) ∙ ap (groups_up_to 7) binary_means
