-- Intake as one call, as C sees it: three words put after the eleven of the file make fourteen, and the two ways out, each a case of what C sees. Assumes
-- nothing.
use Prim.Native.Nat.{ℕ, ◌+◌, ◌≤◌}
use mathlib.Core.Path.{◌≡◌, sym, ap, ap₂, ◌∙◌}
use mathlib.Core.Bool.{true, false}
use mathlib.Core.List.{List, [], ◌∷◌, ◌++◌}
use native.Mathlib.Omega.{arith}
use lib.Dec.{ltb}
use Rattle.std.specs.Prelude.{Result}
use lib.ListN.{length, drop, length-append}
use lib.Seq.{sets, sets-eq, drop-append-add, drop-drop}
use Rattle.circuit.specs.Outcome.{onto}
use Rattle.circuit.proofs.Outcome.{onto_long, onto-length, onto-take}
use Rattle.lines.specs.declared.Broken.{Broken}
use Rattle.binary.specs.declared.FileRead.{FileRead}
use Rattle.binary.specs.Promise.{numbers}
use Rattle.file_words.specs.Read.{top_of, answer_words}
use Rattle.intake.specs.Order.{Ordering, Lists, Outcome, ordering}
use Rattle.intake_words.specs.Order.{order_number, refuser, made_count, byte_count, file_of, order_words, order_seen, as_order_seen, ordering_seen}

-- the words of a file are eleven
pub file_words_lem : (m : ℕ) (r : Result FileRead Broken) → length (numbers r).counts ≡ 5 → length (answer_words m r) ≡ 11
file_words_lem m r h = omega (arith, h, length-append (numbers r).counts ((numbers r).sets ∷ []))

-- words stored past those that were put onto the front of a list are as if all had been put there
pub put_after : (ws vs words : List ℕ) (n : ℕ) → length ws ≡ n → n + length vs ≤ length words → sets (onto ws words) n vs ≡ onto (ws ++ vs) words
put_after ws vs words n e h =
    let stored = sets-eq vs (onto ws words) n (omega (arith, onto-length ws words)) in
    let front = onto-take ws words n e (omega arith) in
    let shifted : drop (length ws + length vs) (onto ws words) ≡ drop (length ws + length vs) words =
    ap (drop (length ws + length vs)) (onto_long ws words (omega arith)) ∙ drop-append-add ws (drop (length ws) words) (length vs)
    ∙ drop-drop (length vs) (length ws) words in
    let past : drop (n + length vs) (onto ws words) ≡ drop (length (ws ++ vs)) words =
    ap (λ (j : ℕ). drop (j + length vs) (onto ws words)) (sym e) ∙ shifted ∙ ap (λ (j : ℕ). drop j words) (sym (length-append ws vs)) in
    stored ∙ ap₂ (λ (a b : List ℕ). a ++ vs ++ b) front past ∙ sym (onto_long (ws ++ vs) words (omega (arith, length-append ws vs)))

-- the fourteen words, of the eleven and the three
module _ (said : Ordering) (words : List ℕ) (room : 14 ≤ length words) where
  pub order_put : {r : Result FileRead Broken} {top made bytes who : ℕ} {file ws : List ℕ} → r ≡ file_of said → length (numbers r).counts ≡ 5 → top ≡ top_of r
      → file ≡ onto (answer_words top r) words → made ≡ made_count said → bytes ≡ byte_count said → who ≡ refuser said
      → ws ≡ sets file 11 (made ∷ bytes ∷ who ∷ []) → ws ≡ onto (order_words said) words
  order_put {r} {top} {made} {bytes} {who} k five_counts t f m b w e =
      let eleven = answer_words (top_of (file_of said)) (file_of said) in
      let same : answer_words top r ≡ eleven
      = ap (λ (n : ℕ). answer_words n r) t ∙ ap (λ (x : Result FileRead Broken). answer_words (top_of x) x) k in
      let end = made_count said ∷ byte_count said ∷ refuser said ∷ [] in
      let three : made ∷ bytes ∷ who ∷ [] ≡ end = rw (m, b, w) in
      e ∙ ap₂ (λ (l vs : List ℕ). sets l 11 vs) (f ∙ ap (λ (l : List ℕ). onto l words) same) three
      ∙ put_after eleven end words 11 (sym (ap length same) ∙ file_words_lem top r five_counts) room

-- what C sees
module _ (bytes : List ℕ) (flags : ℕ) (l : Lists) (words : List ℕ) where
  pub way_short : ltb (length words) 14 ≡ true → order_seen (record { number = 3; lists = l; words = words }) ≡ ordering_seen bytes flags l words
  unfolding ordering_seen
  way_short h = rw h

  pub way_ordered : ltb (length words) 14 ≡ false → (o : Outcome) (n : ℕ) (ws : List ℕ) → o ≡ ordering bytes flags l
      → (n ≡ order_number o.said) × (ws ≡ onto (order_words o.said) words)
      → order_seen (record { number = n; lists = o.lists; words = ws }) ≡ ordering_seen bytes flags l words
  unfolding ordering_seen
  way_ordered h o n ws e p = rw (h, p.0, p.1) (ap (λ (x : Outcome). as_order_seen x words) e)
