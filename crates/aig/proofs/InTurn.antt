-- Literals walked in turn: a walk of one leaves the others waiting, so lists are walked literal by literal, and lists one after another. Assumes nothing.
use Rattle.std.specs.Prelude.{Result, Ok, Err}
use Prim.Native.Nat.{ℕ, suc, ◌+◌, ◌%◌, ◌<◌}
use mathlib.Core.Path.{◌≡◌, refl, sym, ◌∙◌, ap, subst}
use mathlib.Core.Bool.{Bool, true, false, cond}
use mathlib.Core.List.{List, [], ◌∷◌, ◌++◌, append_assoc}
use native.Mathlib.Omega.{arith}
use lib.ListN.{length, length-append, get_or-append}
use lib.Seq.{get_or-append-add}
use Rattle.lit.specs.Code.{var, literal}
use Rattle.lit.specs.declared.Lit.{Lit}
use Rattle.circuit.specs.declared.Refusal.{Refusal}
use Rattle.circuit.specs.Walk.{Out, reached, stopped, and_then, stack_room, walk, walk_all}
use Rattle.circuit.proofs.Machine.{comes_to-start, start_runs}
use Rattle.aig.specs.declared.shape.Shape.{Shape}
use Rattle.aig.specs.declared.walk.Walk.{Walk}
use Rattle.aig.specs.declared.walk.State.{State}
use Rattle.aig.specs.declared.walk.State.TheVariants.{Transfer}
use Rattle.aig.specs.Settle.{numbers}
use Rattle.aig.specs.Going.{net_of, top_of, Going}
use Rattle.aig.specs.Turns.{Walking, Ended, Runs}
use Rattle.aig.specs.Walks.{Waiting, Waits, AllInside, CanGoOn, GoesOn, CanWalk, Walks, outputs_of, every_from, turns}

module _ {s : Shape} {sources gates : List ℕ} {o : Out} {made : ℕ} {c : ℕ} {rest images out scratch : List ℕ}
    (w : Waiting s sources gates o made (c ∷ rest) images out scratch) where
  -- what the walk of c comes to
  abbrev first : Out
  first = walk (net_of s sources gates) (stack_room (net_of s sources gates)) [] w.work c

  starts : var c < s.vars → Going s sources gates first (Transfer (numbers 0 made) (literal c)) images out scratch
  starts h =
      record {
        ground = w.ground;
        goes =
            record {
              frames = [];
              work = w.work;
              holds = w.holds;
              stacked = record { count = refl; words = refl };
              inside = h;
              running = start_runs (net_of s sources gates) (top_of s) w.ground.once w.ground.sized w.work w.inv c;
              comes = comes_to-start (net_of s sources gates) w.work c;
            };
      }

  goes_on : (v : Out) → v ≡ first → and_then v (λ w'. walk_all (net_of s sources gates) (stack_room (net_of s sources gates)) rest w') ≡ o
  unfolding walk_all
  goes_on v e = ap (λ (x : Out). and_then x (λ w'. walk_all (net_of s sources gates) (stack_room (net_of s sources gates)) rest w')) e ∙ w.comes

  ends_in_lem : (r : Result ℕ Refusal) (images' out' scratch' : List ℕ) → Ended s sources gates first r images' out' scratch'
      → Waits s sources gates o rest r images' out' scratch'
  ends_in_lem (Ok made') images' out' scratch' d =
      record { ground = w.ground; work = d.work; holds = d.holds; inv = d.inv; comes = goes_on (reached d.work) d.comes }
  ends_in_lem (Err why) images' out' scratch' d = record { long = d.long; comes = goes_on (stopped why) d.comes }

-- with step 1 all of them
every_one : (l : List ℕ) → every_from 1 0 l ≡ l
every_one [] = refl
every_one (x ∷ xs) = ap (λ (r : List ℕ). x ∷ r) (every_one xs)

-- with step 3 the outputs of the gates
every_third : (gates : List ℕ) → length gates % 3 ≡ 0 → every_from 3 0 gates ≡ outputs_of gates
every_third [] h = refl
every_third (o ∷ []) h = absurd (omega arith)
every_third (o ∷ a ∷ []) h = absurd (omega arith)
every_third (o ∷ a ∷ b ∷ rest) h = ap (λ (r : List ℕ). o ∷ r) (every_third rest (omega arith))

-- of the codes cs₀, which were to be walked, cs are still to be walked
pub record Listing (s : Shape) (gates cs₀ : List ℕ) (before : ℕ) (images₀ out₀ scratch₀ cs : List ℕ) (made : ℕ) (images out scratch : List ℕ) : Type 0 where
  pub inside : AllInside s cs
  pub start : CanWalk s gates before cs₀ images₀ out₀ scratch₀
  pub same : (sources : List ℕ) (o : Out) (rest : List ℕ) → Waiting s sources gates o before (cs₀ ++ rest) images₀ out₀ scratch₀
      → Waiting s sources gates o made (cs ++ rest) images out scratch

module _ {s : Shape} {gates cs₀ : List ℕ} {before : ℕ} {images₀ out₀ scratch₀ : List ℕ} where
  module _ {cs : List ℕ} {made : ℕ} {images out scratch : List ℕ} (k : Listing s gates cs₀ before images₀ out₀ scratch₀ cs made images out scratch) where
    -- the code c is walked next, and then the codes left
    module _ {c : ℕ} {left : List ℕ} (next : cs ≡ c ∷ left) {n : Walk} {l : Lit} (e : n ≡ numbers 0 made) (f : l ≡ literal c) where
      is_next : Transfer (numbers 0 made) (literal c) ≡ Transfer n l
      is_next = rw (e, f) refl

      inside_next : AllInside s (c ∷ left)
      inside_next = subst (AllInside s) next k.inside

      waits_next : (sources : List ℕ) (o : Out) (rest : List ℕ) → Waiting s sources gates o before (cs₀ ++ rest) images₀ out₀ scratch₀
          → Waiting s sources gates o made (c ∷ (left ++ rest)) images out scratch
      waits_next sources o rest w =
          subst (λ (cs : List ℕ). Waiting s sources gates o made (cs ++ rest) images out scratch) next (k.same sources o rest w)

      pub listing_one : Walking s gates (Transfer n l) images out scratch
      listing_one =
          let w = waits_next k.start.sources k.start.o k.start.rest k.start.waiting in
          subst (λ (t : State). Walking s gates t images out scratch) is_next
          (record { sources = k.start.sources; o = first w; going = starts w (inside_next 0 (omega arith)) })

      -- whatever comes of its walk
      module _ (r : Result ℕ Refusal) (images' out' scratch' : List ℕ) (runs : Runs s gates (Transfer n l) images out scratch r images' out' scratch') where
        walked_one : (sources : List ℕ) (o : Out) (rest : List ℕ) → Waiting s sources gates o before (cs₀ ++ rest) images₀ out₀ scratch₀
            → Waits s sources gates o (left ++ rest) r images' out' scratch'
        walked_one sources o rest w₀ =
            let w = waits_next sources o rest w₀ in
            ends_in_lem w r images' out' scratch'
            (runs sources (first w)
            (subst (λ (t : State). Going s sources gates (first w) t images out scratch) is_next (starts w (inside_next 0 (omega arith)))))

        pub listing_on : (made' : ℕ) → r ≡ Ok made' → Listing s gates cs₀ before images₀ out₀ scratch₀ left made' images' out' scratch'
        listing_on made' q =
            record {
              inside = λ j p. inside_next (suc j) (omega arith);
              start = k.start;
              same =
                  λ sources o rest w.
                  subst (λ (x : Result ℕ Refusal). Waits s sources gates o (left ++ rest) x images' out' scratch') q (walked_one sources o rest w);
            }

        pub listing_stop : (why : Refusal) → r ≡ Err why → (r' : Result ℕ Refusal) → r' ≡ Err why
            → Walks s gates before cs₀ images₀ out₀ scratch₀ r' images' out' scratch'
        listing_stop why q r' q' sources o rest w =
            let stops : Waits s sources gates o rest (Err why) images' out' scratch' =
            subst (λ (x : Result ℕ Refusal). Waits s sources gates o (left ++ rest) x images' out' scratch') q (walked_one sources o rest w) in
            subst (λ (x : Result ℕ Refusal). Waits s sources gates o rest x images' out' scratch') (sym q') stops

    pub listing_end : cs ≡ [] → Walks s gates before cs₀ images₀ out₀ scratch₀ (Ok made) images out scratch
    listing_end h sources o rest w =
        subst (λ (cs : List ℕ). Waiting s sources gates o made (cs ++ rest) images out scratch) h (k.same sources o rest w)

-- two lists one after the other
inside_left : (s : Shape) (a b : List ℕ) → AllInside s (a ++ b) → AllInside s a
inside_left s a b h i p = subst (λ (c : ℕ). var c < s.vars) (get_or-append a b 0 i p) (h i (omega (arith, length-append a b)))

inside_right : (s : Shape) (a b : List ℕ) → AllInside s (a ++ b) → AllInside s b
inside_right s a b h i p = subst (λ (c : ℕ). var c < s.vars) (get_or-append-add a b i 0) (h (length a + i) (omega (arith, length-append a b)))

module _ (s : Shape) (gates a b : List ℕ) (from : Result ℕ Refusal) (images out scratch : List ℕ) where
  regroup : (sources : List ℕ) (o : Out) (rest : List ℕ) → Waits s sources gates o ((a ++ b) ++ rest) from images out scratch
      → Waits s sources gates o (a ++ (b ++ rest)) from images out scratch
  regroup sources o rest w = subst (λ (cs : List ℕ). Waits s sources gates o cs from images out scratch) (append_assoc a b rest) w

  first_can : CanGoOn s gates (a ++ b) from images out scratch → CanGoOn s gates a from images out scratch
  first_can k =
      record {
        inside = inside_left s a b k.inside;
        sources = k.sources;
        o = k.o;
        rest = b ++ k.rest;
        waiting = regroup k.sources k.o k.rest k.waiting;
      }

  second_can : (r : Result ℕ Refusal) (images' out' scratch' : List ℕ) → GoesOn s gates a from images out scratch r images' out' scratch'
      → CanGoOn s gates (a ++ b) from images out scratch → CanGoOn s gates b r images' out' scratch'
  second_can r images' out' scratch' t k =
      record {
        inside = inside_right s a b k.inside;
        sources = k.sources;
        o = k.o;
        rest = k.rest;
        waiting = t k.sources k.o (b ++ k.rest) (regroup k.sources k.o k.rest k.waiting);
      }

  -- the first is walked and then the second; or the first is refused
  both_walked : (r r' : Result ℕ Refusal) (images' out' scratch' images'' out'' scratch'' : List ℕ) → GoesOn s gates a from images out scratch r images' out' scratch'
      → GoesOn s gates b r images' out' scratch' r' images'' out'' scratch''
      → GoesOn s gates (a ++ b) from images out scratch r' images'' out'' scratch''
  both_walked r r' images' out' scratch' images'' out'' scratch'' t u sources o rest w = u sources o rest (t sources o (b ++ rest) (regroup sources o rest w))

  stops : (r : Result ℕ Refusal) (images' out' scratch' : List ℕ) → GoesOn s gates a from images out scratch r images' out' scratch'
      → (why : Refusal) → r ≡ Err why → (r' : Result ℕ Refusal) → r' ≡ Err why → GoesOn s gates (a ++ b) from images out scratch r' images' out' scratch'
  stops r images' out' scratch' t why q r' q' sources o rest w =
      let stopped : Waits s sources gates o rest (Err why) images' out' scratch' =
      subst (λ (x : Result ℕ Refusal). Waits s sources gates o (b ++ rest) x images' out' scratch') q (t sources o (b ++ rest) (regroup sources o rest w)) in
      subst (λ (x : Result ℕ Refusal). Waits s sources gates o rest x images' out' scratch') (sym q') stopped

-- outputs unless trimmed, next states, roots
module _ {s : Shape} {gates images out scratch : List ℕ} (trim : Bool) (nexts roots : List ℕ)
    (k : CanWalk s gates 0 (turns trim gates nexts roots) images out scratch) where
  abbrev outputs : List ℕ
  outputs = cond trim [] (outputs_of gates)

  -- there are outputs to be walked
  module _ (on : trim ≡ false) where
    are_outputs : every_from 3 0 gates ≡ outputs
    are_outputs = rw on (every_third gates (omega (arith, k.waiting.ground.long)))

    pub outputs_can : CanWalk s gates 0 (every_from 3 0 gates) images out scratch
    outputs_can = rw are_outputs (first_can s gates outputs (nexts ++ roots) (Ok 0) images out scratch k)

    module _ (r : Result ℕ Refusal) (images₁ out₁ scratch₁ : List ℕ) (t : Walks s gates 0 (every_from 3 0 gates) images out scratch r images₁ out₁ scratch₁) where
      outputs_walked : Walks s gates 0 outputs images out scratch r images₁ out₁ scratch₁
      outputs_walked = subst (λ (cs : List ℕ). Walks s gates 0 cs images out scratch r images₁ out₁ scratch₁) are_outputs t

      pub outputs_stop : (why : Refusal) → r ≡ Err why → (r' : Result ℕ Refusal) → r' ≡ Err why
          → Walks s gates 0 (turns trim gates nexts roots) images out scratch r' images₁ out₁ scratch₁
      outputs_stop = stops s gates outputs (nexts ++ roots) (Ok 0) images out scratch r images₁ out₁ scratch₁ outputs_walked

      pub outputs_done : (made : ℕ) → r ≡ Ok made → Walks s gates 0 (cond trim [] (outputs_of gates)) images out scratch (Ok made) images₁ out₁ scratch₁
      outputs_done made q = subst (λ (x : Result ℕ Refusal). Walks s gates 0 outputs images out scratch x images₁ out₁ scratch₁) q outputs_walked

  -- there are none
  pub no_outputs : trim ≡ true → Walks s gates 0 (cond trim [] (outputs_of gates)) images out scratch (Ok 0) images out scratch
  no_outputs off = rw off (λ sources o rest w. w)

  module _ (made₁ : ℕ) (images₁ out₁ scratch₁ : List ℕ)
      (t₁ : Walks s gates 0 (cond trim [] (outputs_of gates)) images out scratch (Ok made₁) images₁ out₁ scratch₁) where
    rest_can : CanWalk s gates made₁ (nexts ++ roots) images₁ out₁ scratch₁
    rest_can = second_can s gates outputs (nexts ++ roots) (Ok 0) images out scratch (Ok made₁) images₁ out₁ scratch₁ t₁ k

    pub nexts_can : CanWalk s gates made₁ (every_from 1 0 nexts) images₁ out₁ scratch₁
    nexts_can = rw (every_one nexts) (first_can s gates nexts roots (Ok made₁) images₁ out₁ scratch₁ rest_can)

    module _ (r₂ : Result ℕ Refusal) (images₂ out₂ scratch₂ : List ℕ)
        (t₂ : Walks s gates made₁ (every_from 1 0 nexts) images₁ out₁ scratch₁ r₂ images₂ out₂ scratch₂) where
      nexts_walked : Walks s gates made₁ nexts images₁ out₁ scratch₁ r₂ images₂ out₂ scratch₂
      nexts_walked = subst (λ (cs : List ℕ). Walks s gates made₁ cs images₁ out₁ scratch₁ r₂ images₂ out₂ scratch₂) (every_one nexts) t₂

      pub nexts_stop : (why : Refusal) → r₂ ≡ Err why → (r' : Result ℕ Refusal) → r' ≡ Err why
          → Walks s gates 0 (turns trim gates nexts roots) images out scratch r' images₂ out₂ scratch₂
      nexts_stop why q r' q' =
          both_walked s gates outputs (nexts ++ roots) (Ok 0) images out scratch (Ok made₁) r' images₁ out₁ scratch₁ images₂ out₂ scratch₂ t₁
          (stops s gates nexts roots (Ok made₁) images₁ out₁ scratch₁ r₂ images₂ out₂ scratch₂ nexts_walked why q r' q')

      module _ (made₂ : ℕ) (q : r₂ ≡ Ok made₂) where
        nexts_done : Walks s gates made₁ nexts images₁ out₁ scratch₁ (Ok made₂) images₂ out₂ scratch₂
        nexts_done = subst (λ (x : Result ℕ Refusal). Walks s gates made₁ nexts images₁ out₁ scratch₁ x images₂ out₂ scratch₂) q nexts_walked

        pub roots_can : CanWalk s gates made₂ (every_from 1 0 roots) images₂ out₂ scratch₂
        roots_can =
            rw (every_one roots) (second_can s gates nexts roots (Ok made₁) images₁ out₁ scratch₁ (Ok made₂) images₂ out₂ scratch₂ nexts_done rest_can)

        pub all_walked : (r₃ : Result ℕ Refusal) (images₃ out₃ scratch₃ : List ℕ)
            → Walks s gates made₂ (every_from 1 0 roots) images₂ out₂ scratch₂ r₃ images₃ out₃ scratch₃
            → Walks s gates 0 (turns trim gates nexts roots) images out scratch r₃ images₃ out₃ scratch₃
        all_walked r₃ images₃ out₃ scratch₃ t₃ =
            both_walked s gates outputs (nexts ++ roots) (Ok 0) images out scratch (Ok made₁) r₃ images₁ out₁ scratch₁ images₃ out₃ scratch₃ t₁
            (both_walked s gates nexts roots (Ok made₁) images₁ out₁ scratch₁ (Ok made₂) r₃ images₂ out₂ scratch₂ images₃ out₃ scratch₃ nexts_done
            (subst (λ (cs : List ℕ). Walks s gates made₂ cs images₂ out₂ scratch₂ r₃ images₃ out₃ scratch₃) (every_one roots) t₃))
