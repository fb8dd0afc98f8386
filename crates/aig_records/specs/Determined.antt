-- A contract on references to structs that determines the answer and the lent cells. Assumes nothing.
use Rattle.std.specs.Prelude.{◌≡◌}
use seplogic.Ra.Ura.{Ura}
use base.Logic.{ent}
use contract.Lifetimes.{Lfts}
use contract.Monad.{conj, fact}
use denote.Triple.Entry.{Args, Res}
use denote.Triple.Clauses.{Ended, Clauses, AtExit}

-- `says` is all that a contract says, and `seen` is what a caller sees of an answer and of what was lent, as it is at the return. Where the clause at
-- the return
-- holds of two outcomes for the same arguments, what is seen of them is equal
abbrev pub DeterminesSeen : {M : Type 1} (𝓤 : Ura M) (T : Ended) → Clauses 𝓤 T → {S : Type 0}
    → ((κs : Lfts T.signature.lifetimes) → Res T.signature κs → AtExit T κs → S) → Type 1
DeterminesSeen 𝓤 T says seen =
    (κs : Lfts T.signature.lifetimes) (a : Args T.signature κs) (g : (says κs a).ghost) (x y : Res T.signature κs) (e f : AtExit T κs)
    → ent 𝓤 (conj 𝓤 ((says κs a).ensures g x e) ((says κs a).ensures g y f)) (fact 𝓤 (seen κs x e ≡ seen κs y f))
