-- All that a spelling says of the room that is lent is that the file fits it, for what its header announces are the lengths of the file's lists; so the same
-- bytes spell the file in any room that holds it. Assumes nothing.
use Prim.Native.Nat.{ℕ, ◌*◌, ◌≤◌}
use mathlib.Core.Path.{◌≡◌, ap, ◌∙◌}
use mathlib.Core.List.{List}
use native.Mathlib.Omega.{arith}
use lib.ListN.{length, length-append, length-map}
use Rattle.circuit.specs.Walk.{Pair}
use Rattle.circuit.specs.Outcome.{limit, total}
use Rattle.lines.specs.declared.Header.{Header}
use Rattle.lines.specs.Lines.{LatchLine}
use Rattle.lines.specs.Sections.{Roots, root_count, top_code}
use Rattle.lines.specs.Spelling.{Both, Properties, Sizes, Rooting}
use Rattle.binary.specs.File.{File, Room, file_with}
use Rattle.binary.specs.Promise.{Roomy}
use Rattle.binary.specs.Spelling.{Listed, Body, Spells}
use Rattle.binary.specs.Sound.{Sound, Holds}

-- the same two parts, each of them spelling as it is said now
both_again : {A B : Type 0} {P P' : A → List ℕ → Type 0} {Q Q' : A → B → List ℕ → Type 0} {b : B} {w : List ℕ} (t : Both P Q b w)
    → P' t.middle t.front → Q' t.middle b t.back → Both P' Q' b w
both_again t first second = record { middle = t.middle; front = t.front; back = t.back; first = first; second = second; joined = t.joined }

-- the root section

module _ (h : Header) (most room : ℕ) (r : Roots) (w : List ℕ) (t : Rooting h most room r w) where
  abbrev rest : Roots
  rest = t.second.middle

  abbrev sizing : Sizes h most room rest t.second.front
  sizing = t.second.first

  abbrev properties : Properties h most (total sizing.middle) room sizing.second.middle sizing.second.front
  properties = sizing.second.first

  -- a size for each justice set
  sets_counted : length r.sizes ≡ h.justice
  sets_counted =
      ap (λ (x : Roots). length x.sizes) t.second.second.0 ∙ ap (λ (x : Roots). length x.sizes) sizing.second.second.0 ∙ sizing.first.0

  -- the first roots, fairness and justice literals are all the roots
  roots_counted : length r.roots ≡ root_count h (total sizing.middle)
  roots_counted =
      let justice = properties.second in
      let fairness = justice.second in
      omega (
        arith,
        ap (λ (x : Roots). length x.roots) t.second.second.0,
        length-append t.middle rest.roots,
        ap (λ (x : Roots). length x.roots) sizing.second.second.0,
        ap length fairness.second.0,
        length-append fairness.middle justice.middle,
        t.first.0,
        justice.first.0,
        fairness.first.0,
      )

  -- it is spelled the same where there are as many cells as roots
  roots_again : (room' : ℕ) → length r.roots ≤ room' → Rooting h most room' r w
  roots_again room' enough =
      let fits = properties.first in
      let properties' : Properties h most (total sizing.middle) room' sizing.second.middle sizing.second.front =
      both_again properties (fits.0, omega (arith, roots_counted), fits.2) properties.second in
      let sizing' : Sizes h most room' rest t.second.front =
      both_again sizing sizing.first (both_again sizing.second properties' sizing.second.second) in
      both_again t t.first (both_again t.second sizing' t.second.second)

-- the whole file

module _ (room : Room) (f : File) (v : List ℕ) (t : Body room f v) where
  abbrev h : Header
  h = t.middle

  abbrev lists : Listed room h f t.second.back
  lists = t.second.second

  abbrev latches : List LatchLine
  latches = lists.middle

  abbrev roots : Roots
  roots = lists.second.middle

  abbrev gates : List Pair
  gates = lists.second.second.middle

  -- the file is what is listed, so its lists are as long as the header announces
  whole : f ≡ file_with h latches roots gates
  whole = lists.second.second.second.0

  nexts_counted : length f.ordered.nexts ≡ h.latches
  nexts_counted = ap (λ (x : File). length x.ordered.nexts) whole ∙ length-map latches (λ l. l.next) ∙ lists.first.0

  resets_counted : length f.ordered.resets ≡ h.latches
  resets_counted = ap (λ (x : File). length x.ordered.resets) whole ∙ length-map latches (λ l. l.reset) ∙ lists.first.0

  gates_counted : length f.ordered.gates ≡ h.gates
  gates_counted = ap (λ (x : File). length x.ordered.gates) whole ∙ lists.second.second.first.0

  sizes_counted : length f.sizes ≡ h.justice
  sizes_counted =
      ap (λ (x : File). length x.sizes) whole ∙ sets_counted h (top_code h) room.roots roots lists.second.front lists.second.first

  -- what the header announces fits where the file does
  roomy : (room' : Room) → Holds room' f → Roomy h room'.nexts room'.resets room'.gates room'.sizes
  roomy room' holds =
      record {
        nexts_fit = omega (arith, nexts_counted);
        resets_fit = omega (arith, resets_counted);
        gates_fit = omega (arith, gates_counted);
        sizes_fit = omega (arith, sizes_counted);
      }

  body_again : (room' : Room) → Holds room' f → Body room' f v
  body_again room' holds =
      let sized = t.second.first in
      let rooted : Rooting h (top_code h) room'.roots roots lists.second.front =
      roots_again h (top_code h) room.roots roots lists.second.front lists.second.first room'.roots
      (omega (arith, ap (λ (x : File). length x.ordered.roots) whole)) in
      let listed : Listed room' h f t.second.back = both_again lists lists.first (both_again lists.second rooted lists.second.second) in
      both_again t t.first (both_again t.second (sized.0, roomy room' holds, sized.2) listed)

-- what spells a file in one room spells it in any that holds it
pub respelled : (room room' : Room) (f : File) (w : List ℕ) → Holds room' f → Spells room f w → Spells room' f w
respelled room room' f w holds (v, e, t) = (v, e, body_again room f v t room' holds)

-- a sound file fits lists of the limits
pub limits_hold : (f : File) → Sound f → Holds (record { nexts = limit; resets = limit; gates = 2 * limit; sizes = limit; roots = limit }) f
limits_hold f sound = record { nexts = omega arith; resets = omega arith; gates = omega arith; sizes = sound.sets; roots = sound.well_ordered.few }
