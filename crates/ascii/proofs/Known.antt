-- What holds of every text that is read, section by section: each line holds its literals to 2M + 1, and those that it defines are even and not 0; the header
-- counts what the sections hold. So the text passes, as a circuit, the checks that say this. Assumes nothing.
use Prim.Native.Nat.{ℕ, ◌%◌, ◌≤◌}
use mathlib.Core.Path.{◌≡◌, refl, sym, ◌∙◌, subst}
use mathlib.Core.Bool.{Bool}
use mathlib.Core.Logic.{◌⊎◌, inl, inr}
use mathlib.Core.List.{List, ◌++◌, map}
use native.Mathlib.Omega.{arith}
use lib.ListN.{length}
use Rattle.circuit.specs.Graph.{In}
use Rattle.circuit.specs.Outcome.{total}
use Rattle.circuit.specs.Claims.{Within, Bounded, AllReset}
use Rattle.circuit.proofs.Lists.{In-cases, In-map}
use Rattle.lines.specs.declared.Header.{Header}
use Rattle.lines.specs.Reading.{got}
use Rattle.lines.specs.Sections.{header_at, top_code}
use Rattle.lines.specs.Limits as header
use Rattle.lines.proofs.Heads.{Two, two, header_within}
use Rattle.lines.proofs.Known.{roots_known}
use Rattle.ascii_lines.proofs.Known.{inputs_length, inputs_within, inputs_defined}
use Rattle.ascii_lines.proofs.Known.{states_length, nexts_length, resets_length, states_within, nexts_within, resets_within, states_defined, latches_reset}
use Rattle.ascii_lines.proofs.Known.{gates_length, outputs_within, firsts_within, seconds_within, outputs_defined}
use Rattle.ascii.specs.Tag.{tag}
use Rattle.ascii.specs.Text.{Text, Room, circuit_in, text_with, sized_at, lists_at, body_at, read_text}
use Rattle.ascii.specs.Promise.{Roomy}
use Rattle.ascii.specs.Known.{IsDefined, Known}
use Rattle.ascii.proofs.Whole.{sized_roomy, Sections, sections}

-- lists one after the other
all_defined : (xs ys zs : List ℕ) → ((c : ℕ) → In c xs → (1 ≤ c) × (c % 2 ≡ 0)) → ((c : ℕ) → In c ys → (1 ≤ c) × (c % 2 ≡ 0))
    → ((c : ℕ) → In c zs → (1 ≤ c) × (c % 2 ≡ 0)) → (c : ℕ) → In c (xs ++ (ys ++ zs)) → IsDefined c
all_defined xs ys zs p q r c i = first (In-cases c xs (ys ++ zs) i)
  where
    is : (1 ≤ c) × (c % 2 ≡ 0) → IsDefined c
    is (large, even) = record { large = large; even = even }

    second : In c ys ⊎ In c zs → IsDefined c
    second (inl y) = is (q c y)
    second (inr z) = is (r c z)

    first : In c xs ⊎ In c (ys ++ zs) → IsDefined c
    first (inl x) = is (p c x)
    first (inr j) = second (In-cases c ys zs j)

-- from the first input line on
module _ (s : List ℕ) (room : Room) (h : Header) (w : header.Within h) (big : Roomy h room) (at : ℕ) (t : Text) (end : ℕ) where
  made_known : (p : Sections s room.roots h at t end) → Known room (text_with h p.inputs p.latches p.roots p.gates)
  made_known p =
      let most = top_code h in
      let given = inputs_length s most h.inputs at p.inputs p.after_inputs p.inputs_read in
      let states = states_length s most h.latches p.after_inputs p.latches p.after_latches p.latches_read in
      let nexts = nexts_length s most h.latches p.after_inputs p.latches p.after_latches p.latches_read in
      let resets = resets_length s most h.latches p.after_inputs p.latches p.after_latches p.latches_read in
      let rooted = roots_known s h most room.roots p.after_latches p.roots p.after_roots p.roots_read in
      let gates = gates_length s most h.gates p.after_roots p.gates end p.gates_read in
      record {
        top = w.top;
        enough = omega (arith, given, states, gates, w.defined);
        nexts = nexts ∙ sym states;
        resets = resets ∙ sym states;
        defined =
            all_defined p.inputs (map (λ l. l.state) p.latches) (map (λ g. g.output) p.gates)
            (inputs_defined s most h.inputs at p.inputs p.after_inputs p.inputs_read)
            (states_defined s most h.latches p.after_inputs p.latches p.after_latches p.latches_read)
            (outputs_defined s most h.gates p.after_roots p.gates end p.gates_read);
        all_reset = latches_reset s most h.latches p.after_inputs p.latches p.after_latches p.latches_read;
        inputs_within = inputs_within s most h.inputs at p.inputs p.after_inputs p.inputs_read;
        states_within = states_within s most h.latches p.after_inputs p.latches p.after_latches p.latches_read;
        nexts_within = nexts_within s most h.latches p.after_inputs p.latches p.after_latches p.latches_read;
        resets_within = resets_within s most h.latches p.after_inputs p.latches p.after_latches p.latches_read;
        outputs_within = outputs_within s most h.gates p.after_roots p.gates end p.gates_read;
        firsts_within = firsts_within s most h.gates p.after_roots p.gates end p.gates_read;
        seconds_within = seconds_within s most h.gates p.after_roots p.gates end p.gates_read;
        roots_within = rooted.within;
        five = refl;
        roots = omega (arith, rooted.all);
        few = omega (arith, rooted.all, rooted.few);
        sizes = refl;
        sets = omega (arith, rooted.sets, w.justice);
        inputs_fit = omega (arith, given, big.inputs_fit);
        states_fit = omega (arith, states, big.states_fit);
        nexts_fit = omega (arith, nexts, big.nexts_fit);
        resets_fit = omega (arith, resets, big.resets_fit);
        gates_fit = omega (arith, gates, big.gates_fit);
        sizes_fit = omega (arith, rooted.sets, big.sizes_fit);
        roots_fit = omega (arith, rooted.all, rooted.fits);
      }

  lists_known : lists_at s room.roots h at ≡ got t end → Known room t
  lists_known e = let p = sections s room.roots h at t end e in subst (Known room) p.made (made_known p)

-- from the end of the header on
body_known : (s : List ℕ) (room : Room) (h : Header) → header.Within h → (at : ℕ) (t : Text) (end : ℕ) → body_at s room h at ≡ got t end → Known room t
unfolding body_at
body_known s room h w at t end e =
    let u = two (sized_at h room at) (λ _ at₁. lists_at s room.roots h at₁) t end e in
    lists_known s room h w (sized_roomy h room at u.first u.place u.read) u.place t end u.then

-- the whole text
pub read_known : (s : List ℕ) (room : Room) (t : Text) (end : ℕ) → read_text s room ≡ got t end → Known room t
unfolding read_text
read_known s room t end e = outer (two (header_at s tag) (λ h at. body_at s room h at) t end e)
  where
    outer : Two (header_at s tag) (λ h at. body_at s room h at) t end → Known room t
    outer u = body_known s room u.first (header_within s tag u.first u.place u.read) u.place t end u.then

-- as a circuit, under any flags
pub known_passes : (room : Room) (t : Text) → Known room t → (trim hash fold : Bool)
    → Within (circuit_in t trim hash fold) × Bounded (circuit_in t trim hash fold) × (total t.counts ≡ length t.roots)
    × (length t.states ≡ length t.nexts) × (length t.states ≡ length t.resets) × AllReset t.states t.resets
known_passes room t k trim hash fold = (
  record {
    top = k.top;
    inputs = omega (arith, k.enough, k.top);
    latches = omega (arith, k.enough, k.top);
    gates = omega (arith, k.enough, k.top);
    roots = k.few;
  },
  record {
    inputs = k.inputs_within;
    gates = λ g i. (
      k.outputs_within g.output (In-map (λ x. x.output) g t.gates i),
      k.firsts_within g.first (In-map (λ x. x.first) g t.gates i),
      k.seconds_within g.second (In-map (λ x. x.second) g t.gates i),
    );
    states = k.states_within;
    nexts = k.nexts_within;
    resets = k.resets_within;
    roots = k.roots_within;
  },
  k.roots,
  sym k.nexts,
  sym k.resets,
  k.all_reset,
)
