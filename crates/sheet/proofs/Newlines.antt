-- Every report ends with a newline: its last line does, and every line does. Assumes nothing.
use Prim.Native.Nat.{ℕ}
use mathlib.Core.Path.{◌≡◌, refl, sym, ap, ◌∙◌}
use mathlib.Core.Logic.{◌⊎◌, inl, inr}
use Rattle.std.specs.Prelude.{⊤, Result, Ok, Err}
use mathlib.Core.List.{List, [], ◌∷◌, ◌++◌, append-nil, append_assoc}
use Rattle.token.specs.Format.{digits_of}
use Rattle.circuit.specs.Graph.{Gate}
use Rattle.circuit.specs.Walk.{Out, reached, stopped, first_code}
use Rattle.circuit.specs.Circuit.{Circuit, renumber}
use Rattle.circuit.specs.Ordered.{Ordered, ordered_of, gates_from}
use Rattle.circuit.specs.Outcome.{summary_of}
use Rattle.circuit.specs.Refusals.{refusal_number, refusal_literal}
use Rattle.sheet_read.specs.declared.Faulty.{Faulty}
use Rattle.sheet_lines.specs.Lines.{spaced, ended, ordered_word, refused_word, refused_line, ordered_line, gate_line, image_line, next_letter, root_letter, each}
use Rattle.sheet_read.specs.Sheet.{read_of}
use Rattle.sheet.specs.Circuit.{circuit_on}
use Rattle.sheet_lines.specs.Text.{refused_text, ordered_text}
use Rattle.sheet.specs.Report.{text_of, out_text, read_text, report_of, Ends}

after : (xs : List ℕ) {bs : List ℕ} → Ends bs → Ends (xs ++ bs)
after xs e = record { front = xs ++ e.front; last = ap (λ (l : List ℕ). xs ++ l) e.last ∙ sym (append_assoc xs e.front (10 ∷ [])) }

number_ends : (v : ℕ) → Ends (ended v)
number_ends v = record { front = digits_of v; last = refl }

refused_ends : (n k : ℕ) → Ends (refused_line n k)
unfolding refused_line
refused_ends n k = after refused_word (after (spaced n) (number_ends k))

ordered_ends : (t i l g : ℕ) → Ends (ordered_line t i l g)
unfolding ordered_line
ordered_ends t i l g = after ordered_word (after (spaced t) (after (spaced i) (after (spaced l) (number_ends g))))

gate_ends : (g : Gate) → Ends (gate_line g)
unfolding gate_line
gate_ends g = after (spaced g.output) (after (spaced g.first) (number_ends g.second))

image_ends : (letter t : ℕ) → Ends (image_line letter t)
unfolding image_line
image_ends letter t = after (letter ∷ 32 ∷ []) (number_ends t)

-- no line, or lines
abbrev Lines : List ℕ → Type 0
Lines bs = (bs ≡ []) ⊎ Ends bs

more : {xs bs : List ℕ} → Ends xs → Lines bs → Ends (xs ++ bs)
more {xs} e (inl n) = record { front = e.front; last = ap (λ (l : List ℕ). xs ++ l) n ∙ append-nil xs ∙ e.last }
more {xs} e (inr f) = after xs f

both : {xs bs : List ℕ} → Lines xs → Lines bs → Lines (xs ++ bs)
both {xs} {bs} (inl n) (inl m) = inl (ap (λ (l : List ℕ). l ++ bs) n ∙ m)
both {xs} {bs} (inl n) (inr f) = inr (after xs f)
both {xs} {bs} (inr e) l = inr (more e l)

each_lines : {A : Type 0} (line : A → List ℕ) → ((x : A) → Ends (line x)) → (xs : List A) → Lines (each line xs)
each_lines line h [] = inl refl
each_lines line h (x ∷ xs) = inr (more (h x) (each_lines line h xs))

text_ends : (O : Ordered) → Ends (text_of O)
unfolding text_of ordered_text
text_ends O =
    more (ordered_ends (summary_of O).top.0 O.inputs _ (summary_of O).made)
    (both (each_lines gate_line gate_ends (gates_from (first_code _) O.gates))
    (both (each_lines (image_line next_letter) (image_ends next_letter) O.nexts) (each_lines (image_line root_letter) (image_ends root_letter) O.roots)))

out_ends : (C : Circuit) (o : Out) → Ends (out_text C o)
unfolding refused_text
out_ends C (reached w) = text_ends (ordered_of C w)
out_ends C (stopped why) = refused_ends (refusal_number why) (refusal_literal why).0

read_ends : (r : Result ⊤ Faulty) (C : Circuit) → Ends (read_text r C)
read_ends (Err f) C = refused_ends f.number f.beside
read_ends (Ok u) C = out_ends C (renumber C)

pub report_ends : (s : List ℕ) → Ends (report_of s)
unfolding report_of
report_ends s = read_ends (read_of s).reading (circuit_on (read_of s).header (read_of s).codes)
