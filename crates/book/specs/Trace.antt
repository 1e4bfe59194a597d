-- Transitions one after the other, each from what the one before left: for the host's calls, for the book and for whoever counts payments.
use Rattle.std.specs.Prelude.{List, [], ◌∷◌}

-- what a call answers, and what it leaves to the next
pub record Transition (S A : Type 0) : Type 0 where
  pub answer : A
  pub next : S

unfoldable pub trace : {S C A : Type 0} → (S → C → Transition S A) → S → List C → List (Transition S A)
trace f s [] = []
trace f s (c ∷ cs) =
    let r = f s c in
    r ∷ trace f r.next cs

-- what the last one leaves
unfoldable pub final : {S C A : Type 0} → (S → C → Transition S A) → S → List C → S
final f s [] = s
final f s (c ∷ cs) = final f (f s c).next cs
