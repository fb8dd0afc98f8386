-- Each answer is given exactly where what it says is true: bytes that begin with a file are read as it in every room that holds it, a file that is read goes all the
-- way (proofs/Through.antt), and two answers to one call are the same. Assumes nothing.
use Prim.Native.Nat.{ℕ, ◌<◌, ◌≤◌}
use mathlib.Core.Path.{◌≡◌, refl, sym, ap, ◌∙◌, subst, subst⁻¹}
use mathlib.Core.Logic.{◌⊎◌, inl, inr, ◌↔◌}
use mathlib.Core.List.{List}
use native.Mathlib.Omega.{arith}
use lib.ListN.{length, take, drop, take-append-drop}
use lib.Seq.{length-take-le}
use Rattle.token.specs.Format.{Bytes}
use Rattle.circuit.specs.declared.Refusal.TheVariants as R
use Rattle.circuit.specs.Walk.{Work, reached}
use Rattle.circuit.specs.Ordered.{ordered_of}
use Rattle.circuit.proofs.Tests.{lt_or}
use Rattle.lines.specs.declared.Fault.{Fault}
use Rattle.lines.specs.Reading.{Read, got, no}
use Rattle.ordered.specs.declared.given.Fault.TheVariants as G
use Rattle.binary.specs.File.{File, Room, read_file}
use Rattle.binary.specs.Promise as B
use Rattle.binary.specs.Promise.{room_of}
use Rattle.binary.specs.Spelling.{Spells}
use Rattle.binary.specs.Sound.{Holds}
use Rattle.binary.specs.Write.{file_of}
use Rattle.binary.proofs.Theorems as binary
use Rattle.intake.specs.Order.{OrderAnswer, Ordered, Unread, Unordered, Unstored, answer_of, Lists, Outcome, after_reading, ordering}
use Rattle.intake.specs.Intake.{limits, Begins, circuit_for, Orders, LongBehind, Says}
use Rattle.intake.proofs.Rooms.{respelled, limits_hold}
use Rattle.intake.proofs.Through as through

-- bytes that begin with a file are read as it, and as no other
module _ (bytes : List ℕ) where
  pub read_in : (room : Room) (f : File) (n : ℕ) → n ≤ length bytes → Spells room f (take n bytes) → read_file bytes room ≡ got f n
  read_in room f n h t =
      ap (λ (s : List ℕ). read_file s room) (sym (take-append-drop n bytes)) ∙ binary.nothing_good_refused room f (take n bytes) (drop n bytes) t
      ∙ ap (got f) (length-take-le n bytes h)

  pub begins_read : (room : Room) (f : File) (n : ℕ) → Begins bytes f n → Holds room f → read_file bytes room ≡ got f n
  begins_read room f n b h = read_in room f n b.0 (respelled limits room f (take n bytes) h b.1)

  pub one_file : (f g : File) (n m : ℕ) → Begins bytes f n → Begins bytes g m → (f ≡ g) × (n ≡ m)
  one_file f g n m a b =
      let e : got f n ≡ got g m = sym (read_in limits f n a.0 a.1) ∙ read_in limits g m b.0 b.1 in
      let p : f ≡ g = cc in
      let q : n ≡ m = cc in
      (p, q)

  -- and what is read begins them
  pub read_begins : Bytes bytes → (room : Room) (f : File) (n : ℕ) → read_file bytes room ≡ got f n → Begins bytes f n × Holds room f
  read_begins are room f n e =
      let k = (binary.exactly_spelled bytes room f n are).0 e in
      let s = binary.read_sound bytes room f n e in
      ((k.0, respelled room limits f (take n bytes) (limits_hold f s.0) k.1), s.1)

-- what f is renumbered to is one file
pub one_result : (flags : ℕ) (f d g : File) → Orders flags f d → Orders flags f g → d ≡ g
one_result flags f d g a b =
    let e : reached a.work ≡ reached b.work = sym a.renumbered ∙ b.renumbered in
    let w : a.work ≡ b.work = cc in
    let o : d.ordered ≡ g.ordered = a.circuit ∙ ap (λ (y : Work). ordered_of (circuit_for flags f) y) w ∙ sym b.circuit in
    let s : d.sizes ≡ g.sizes = a.sizes ∙ sym b.sizes in
    λ i. record { ordered = o i; sizes = s i }

module _ (bytes : List ℕ) (flags : ℕ) (l : Lists) where
  abbrev room : Room
  room = room_of l.file

  abbrev answer : OrderAnswer
  answer = answer_of (ordering bytes flags l).said

  -- what is refused where it is read
  unread : (why : Fault) (place : ℕ) → read_file bytes room ≡ no why place → answer ≡ Unread why place
  unfolding ordering
  unread why place e = ap (λ (R : Read File). answer_of (after_reading (B.left R l.file) flags l).said) e

  -- of a file that is read
  module _ (f : File) (n : ℕ) (e : read_file bytes room ≡ got f n) where
    over : 7 < flags → answer ≡ Unordered R.Misshapen
    over h = ap (λ (y : Outcome). answer_of y.said) (through.flags_over bytes flags l f n e h)

    module _ (h : flags ≤ 7) where
      short : (LongBehind f l → ⊥) → answer ≡ Unordered R.Short
      short never = go (through.finish bytes flags l f n e h)
        where
          go : through.Finish bytes flags l f n e h → answer ≡ Unordered R.Short
          go (through.too_short_behind k a) = a
          go (through.long_enough k done s a) = absurd (never k)

      -- it is renumbered to d, which is written where it fits
      pub data Stores (d : File) : Type 0 where
        fits : length (file_of d) ≤ length l.bytes → answer ≡ Ordered n (length (file_of d)) → Stores d
        too_few : length l.bytes < length (file_of d) → answer ≡ Unstored G.Short (length (file_of d)) → Stores d

      stores : (d : File) → Orders flags f d → LongBehind f l → Stores d
      stores d orders long = go (through.finish bytes flags l f n e h)
        where
          go : through.Finish bytes flags l f n e h → Stores d
          go (through.too_short_behind never a) = absurd (never long)
          go (through.long_enough k done s a) =
              let to = through.to bytes flags l f n e h done s a in
              subst⁻¹ Stores (one_result flags f d to orders (through.orders bytes flags l f n e h done s a)) (room_for (lt_or (length l.bytes) (length (file_of to))))
            where
              room_for : (length l.bytes < length (file_of (through.to bytes flags l f n e h done s a)))
                  ⊎ (length (file_of (through.to bytes flags l f n e h done s a)) ≤ length l.bytes) → Stores (through.to bytes flags l f n e h done s a)
              room_for (inl less) = too_few less (ap (λ (y : Outcome). answer_of y.said) (through.unwritten bytes flags l f n e h done s a less))
              room_for (inr more) = fits more (ap (λ (y : Outcome). answer_of y.said) (through.written bytes flags l f n e h done s a more))

  -- what is true gives its answer
  pub answered : (a : OrderAnswer) → Says bytes flags l a → answer ≡ a
  answered (Ordered used written) (f, d, b, o, w, hold, k, h, p) = go (stores f used (begins_read bytes room f used b hold) h d o k)
    where
      go : Stores f used (begins_read bytes room f used b hold) h d → answer ≡ Ordered used written
      go (fits q a) = a ∙ ap (Ordered used) (sym w)
      go (too_few q a) = absurd (omega arith)
  answered (Unread why place) e = unread why place e
  answered (Unordered R.Misshapen) (f, n, b, hold, h) = over f n (begins_read bytes room f n b hold) h
  answered (Unordered R.Short) (f, n, b, hold, h, k) = short f n (begins_read bytes room f n b hold) h k
  answered (Unordered R.TooBig) t = absurd t
  answered (Unordered (R.Over d)) t = absurd t
  answered (Unordered (R.Reset d)) t = absurd t
  answered (Unordered (R.Again d)) t = absurd t
  answered (Unordered (R.StateAgain d)) t = absurd t
  answered (Unordered (R.Undefined d)) t = absurd t
  answered (Unordered (R.Cycle d)) t = absurd t
  answered (Unstored G.Short needed) (f, n, d, b, o, w, hold, k, h, p) = go (stores f n (begins_read bytes room f n b hold) h d o k)
    where
      go : Stores f n (begins_read bytes room f n b hold) h d → answer ≡ Unstored G.Short needed
      go (fits q a) = absurd (omega arith)
      go (too_few q a) = a ∙ ap (Unstored G.Short) (sym w)
  answered (Unstored G.TooBig needed) t = absurd t
  answered (Unstored G.Misshapen needed) t = absurd t
  answered (Unstored (G.Over d) needed) t = absurd t
  answered (Unstored (G.Reset d) needed) t = absurd t
  answered (Unstored (G.Disordered d) needed) t = absurd t

  -- and what is answered is true
  module _ (are : Bytes bytes) where
    pub told : Says bytes flags l answer
    told = go (read_file bytes room) refl
      where
        go : (R : Read File) → read_file bytes room ≡ R → Says bytes flags l answer
        go (no why place) e = subst⁻¹ (Says bytes flags l) (unread why place e) e
        go (got f n) e = taken (lt_or 7 flags)
          where
            b : Begins bytes f n
            b = (read_begins bytes are room f n e).0

            hold : Holds (room_of l.file) f
            hold = (read_begins bytes are room f n e).1

            taken : (7 < flags) ⊎ (flags ≤ 7) → Says bytes flags l answer
            taken (inl h) = subst⁻¹ (Says bytes flags l) (over f n e h) (f, n, b, hold, h)
            taken (inr h) = finished (through.finish bytes flags l f n e h)
              where
                finished : through.Finish bytes flags l f n e h → Says bytes flags l answer
                finished (through.too_short_behind never a) = subst⁻¹ (Says bytes flags l) a (f, n, b, hold, h, never)
                finished (through.long_enough k done s a) = stored (stores f n e h d orders k)
                  where
                    d : File
                    d = through.to bytes flags l f n e h done s a

                    orders : Orders flags f (through.to bytes flags l f n e h done s a)
                    orders = through.orders bytes flags l f n e h done s a

                    stored : Stores f n e h (through.to bytes flags l f n e h done s a) → Says bytes flags l answer
                    stored (fits p q) = subst⁻¹ (Says bytes flags l) q (f, through.to bytes flags l f n e h done s a, b, orders, refl, hold, k, h, p)
                    stored (too_few p q) = subst⁻¹ (Says bytes flags l) q (f, n, through.to bytes flags l f n e h done s a, b, orders, refl, hold, k, h, p)

    pub exactly : (a : OrderAnswer) → (answer ≡ a) ↔ Says bytes flags l a
    exactly a = (λ e. subst (Says bytes flags l) e told, answered a)
