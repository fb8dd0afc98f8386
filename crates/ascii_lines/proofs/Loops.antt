-- Lines of a section one after the other into its lists, and what a caller knows of these afterwards: said once of every section. Assumes nothing.
use Prim.Native.Nat.{ℕ, suc, ◌+◌, ◌*◌, ◌≤◌, ◌<◌}
use mathlib.Core.Path.{◌≡◌, refl, sym, ap, ◌∙◌, subst}
use mathlib.Core.List.{List, [], ◌∷◌, ◌++◌, map}
use native.Mathlib.Numerals.{add-one}
use native.Mathlib.Omega.{arith}
use lib.ListN.{length, set}
use Rattle.text.specs.Put.{put_all}
use Rattle.text.proofs.Puts.{put_all_append}
use Rattle.circuit.specs.Graph.{Gate}
use Rattle.std.specs.Prelude.{Result, Ok, Err}
use Rattle.lines.specs.declared.Broken.{Broken}
use Rattle.lines.specs.Reading.{Read, got, no, row_at}
use Rattle.lines.proofs.Rows.{Walking, walking_more, walking_broken, walking_all, put_next}
use Rattle.lines.proofs.Loops.{put_line_lem}
use Rattle.ordered.specs.Expand.{gate_words}
use Rattle.ascii_lines.specs.Lines.{Stated, stated_latch, gate_with}
use Rattle.ascii_lines.specs.Promise.{SectionLeft, section_seen, section_left, Stores, put_numbers, put_gates, LatchLists, latch_lists, put_latches}

-- after i lines: what was read of them is in the lists
pub record Going {A L : Type 0} (put : List A → L → L) (thing : ℕ → ℕ → Read A) (n at : ℕ) (lists₀ lists : L) (i here : ℕ) : Type 0 where
  pub values : List A
  pub walking : Walking thing n at values i here
  pub stored : lists ≡ put values lists₀

module _ {A L : Type 0} {put : List A → L → L} {thing : ℕ → ℕ → Read A} {n at : ℕ} {lists₀ lists : L} {i here : ℕ}
    (w : Going put thing n at lists₀ lists i here) where
  pub going_more : (lists' : L) (a : A) (next : ℕ) → i < n → thing i here ≡ got a next → lists' ≡ put (w.values ++ (a ∷ [])) lists₀
      → Going put thing n at lists₀ lists' (i + 1) next
  going_more lists' a next h e f = record { values = w.values ++ (a ∷ []); walking = walking_more w.walking a next h e; stored = f }

  pub going_broken : (lists' : L) (r : Result ℕ Broken) (e : Broken) → i < n → thing i here ≡ no e.why e.place → r ≡ Err e
      → Stores put (row_at thing 0 n at) r lists₀ lists'
  going_broken lists' r e h f q =
      subst (λ (R : Read (List A)). Stores put R r lists₀ lists') (sym (walking_broken w.walking e.why e.place h f)) q

  pub going_all : n ≤ i → Stores put (row_at thing 0 n at) (Ok here) lists₀ lists
  going_all h = subst (λ (R : Read (List A)). Stores put R (Ok here) lists₀ lists) (sym (walking_all w.walking h)) (refl, w.stored)

-- the next number, latch, or gate of three words, in its cells

pub numbers_more : {thing : ℕ → ℕ → Read ℕ} {n at : ℕ} {list₀ list : List ℕ} {i here : ℕ} (w : Going put_numbers thing n at list₀ list i here)
    (list' : List ℕ) (v next : ℕ) → i < n → thing i here ≡ got v next → list' ≡ set list i v → Going put_numbers thing n at list₀ list' (i + 1) next
numbers_more {list₀ = list₀} {list} {i} w list' v next h e f =
    going_more w list' v next h e (put_next list₀ 0 w.values list list' v i i w.stored w.walking.count (omega arith) f)

three : {a b c a' b' c' : List ℕ} → a ≡ a' → b ≡ b' → c ≡ c' → latch_lists a b c ≡ latch_lists a' b' c'
three e f g = cc

pub latches_more : {thing : ℕ → ℕ → Read Stated} {n at : ℕ} {lists₀ lists : LatchLists} {i here : ℕ} (w : Going put_latches thing n at lists₀ lists i here)
    (lists' : LatchLists) (state next reset after : ℕ) → i < n → thing i here ≡ got (stated_latch state next reset) after
    → lists'.states ≡ set lists.states i state → lists'.nexts ≡ set lists.nexts i next → lists'.resets ≡ set lists.resets i reset
    → Going put_latches thing n at lists₀ lists' (i + 1) after
latches_more {lists₀ = lists₀} {lists} {i} w lists' state next reset after h e f g k =
    let l : Stated = stated_latch state next reset in
    let put : (field : Stated → ℕ) (list₀ list list' : List ℕ) → list ≡ put_numbers (map field w.values) list₀ → list' ≡ set list i (field l)
    → list' ≡ put_numbers (map field (w.values ++ (l ∷ []))) list₀
    = λ field list₀ list list' a b. put_line_lem field list₀ w.values list list' l i w.walking.count a b in
    going_more w lists' l after h e
    (three (put (λ x. x.state) lists₀.states lists.states lists'.states (ap (λ (x : LatchLists). x.states) w.stored) f)
    (put (λ x. x.next) lists₀.nexts lists.nexts lists'.nexts (ap (λ (x : LatchLists). x.nexts) w.stored) g)
    (put (λ x. x.reset) lists₀.resets lists.resets lists'.resets (ap (λ (x : LatchLists). x.resets) w.stored) k))

words_more : (gs : List Gate) (g : Gate) → gate_words (gs ++ (g ∷ [])) ≡ gate_words gs ++ (g.output ∷ g.first ∷ g.second ∷ [])
words_more [] g = refl
words_more (k ∷ gs) g = ap (λ (ws : List ℕ). k.output ∷ k.first ∷ k.second ∷ ws) (words_more gs g)

pub words_length : (gs : List Gate) → length (gate_words gs) ≡ 3 * length gs
words_length [] = refl
words_length (g ∷ gs) = omega (arith, words_length gs)

pub gates_more : {thing : ℕ → ℕ → Read Gate} {n at : ℕ} {list₀ list : List ℕ} {i here : ℕ} (w : Going put_gates thing n at list₀ list i here)
    (a b list' : List ℕ) (output first second next cell : ℕ) → i < n → cell ≡ 3 * i → thing i here ≡ got (gate_with output first second) next
    → a ≡ set list cell output → b ≡ set a (cell + 1) first → list' ≡ set b (cell + 2) second → Going put_gates thing n at list₀ list' (i + 1) next
gates_more {list₀ = list₀} {list} {i} w a b list' output first second next cell h there e f g k =
    let gate : Gate = gate_with output first second in
    let cells : cell ≡ 0 + length (gate_words w.values) = omega (arith, there, words_length w.values, w.walking.count) in
    let put : list' ≡ put_all list cell (output ∷ first ∷ second ∷ [])
    = k ∙ ap (λ (l : List ℕ). set l (cell + 2) second) (g ∙ ap (λ (l : List ℕ). set l (cell + 1) first) f)
    ∙ ap (λ (m : ℕ). set (set (set list cell output) m first) (cell + 2) second) (add-one cell)
    ∙ ap (λ (m : ℕ). set (set (set list cell output) (suc cell) first) m second) (add-two cell) in
    going_more w list' gate next h e
    (put ∙ ap (λ (l : List ℕ). put_all l cell (output ∷ first ∷ second ∷ [])) w.stored
    ∙ ap (λ (m : ℕ). put_all (put_all list₀ 0 (gate_words w.values)) m (output ∷ first ∷ second ∷ [])) cells
    ∙ sym (put_all_append list₀ 0 (gate_words w.values) (output ∷ first ∷ second ∷ []))
    ∙ ap (put_all list₀ 0) (sym (words_more w.values gate)))
  where
    add-two : (m : ℕ) → m + 2 ≡ suc (suc m)
    add-two m = omega arith

-- what a caller knows of a section's lists
section_stores : {A L : Type 0} (put : A → L → L) (clear : L → L) (R : Read A) (r : Result ℕ Broken) (before after : L)
    → section_seen r after ≡ section_left put clear R before → Stores put R r before after
section_stores {L = L} put clear (got a at) r before after e = (ap (λ (o : SectionLeft L). o.answer) e, ap (λ (o : SectionLeft L). o.lists) e)
section_stores {L = L} put clear (no why place) r before after e = ap (λ (o : SectionLeft L). o.answer) e

pub record StoredIn {A L : Type 0} (put : A → L → L) (R : Read A) (at : ℕ) (before after : L) : Type 0 where
  pub values : A
  pub read : R ≡ got values at
  pub stored : after ≡ put values before

pub section_stored : {A L : Type 0} (put : A → L → L) (clear : L → L) (R : Read A) (r : Result ℕ Broken) (before after : L)
    → section_seen r after ≡ section_left put clear R before → (at : ℕ) → r ≡ Ok at → StoredIn put R at before after
section_stored {A} {L} put clear R r before after e at f = go R (section_stores put clear R r before after e)
  where
    go : (Q : Read A) → Stores put Q r before after → StoredIn put Q at before after
    go (got a p) (u, v) = let h : p ≡ at = cc in record { values = a; read = ap (got a) h; stored = v }
    go (no why p) u = absurd (let z : ◌≡◌ {A = ℕ} 0 1 = cc in omega arith)

pub section_refused : {A L : Type 0} (put : A → L → L) (clear : L → L) (R : Read A) (r : Result ℕ Broken) (before after : L)
    → section_seen r after ≡ section_left put clear R before → (b : Broken) → r ≡ Err b → R ≡ no b.why b.place
section_refused {A} {L} put clear R r before after e b f = go R (section_stores put clear R r before after e)
  where
    go : (Q : Read A) → Stores put Q r before after → Q ≡ no b.why b.place
    go (got a p) (u, v) = absurd (let z : ◌≡◌ {A = ℕ} 0 1 = cc in omega arith)
    go (no w p) u =
        let same : ◌≡◌ {A = Broken} (record { why = w; place = p }) b = cc in
        ap (λ (x : Broken). no x.why x.place) same
