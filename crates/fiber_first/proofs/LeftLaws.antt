-- Laws of `specs/inner/Left.antt`, which the proofs here and above cite.
-- Assumes nothing.
use mathlib.Core.Path.{◌≡◌, ◌∙◌}
use mathlib.Core.Bool.{Bool, true, false}
use mathlib.Core.List.{List}
use Prim.Native.Nat.{ℕ}
use lib.ListN.{length}
use denote.Bor.{Bor}
use denote.Param.Members.{Mut}
use Rattle.std.specs.Fn.{Called}
use Rattle.std.specs.Iterator.{YieldsFirstBy, YieldsThen}
use Rattle.std.specs.List.{FoldsTo}
use Rattle.std.specs.Option.{MatchOption}
use Rattle.std.specs.Prelude.{Option, Some, None}
use Rattle.std.proofs.lemmas.Iterator.{YieldsList}
use Rattle.std.proofs.lemmas.Iterator.Adapters.{position_from-zero}
use Rattle.std.proofs.lemmas.Iterator.Consumers.{YieldsList-from_first}
use Rattle.std.proofs.lemmas.Iterator.Search.{position_from_yields_List}
use Rattle.fiber_choice.specs.Entries.{find_first}
use Rattle.fiber_first.specs.declared.entries.Entries.{Entries}
use Rattle.fiber_first.specs.inner.Left.{left}

-- an iterator over entries gives the list that it is said to have left
pub entries_yield : {s : Entries} {es : List (List ℕ)} → left s ≡ es → YieldsList (YieldsFirstBy (λ (x : Bor (List ℕ)). x.now) left) (λ x. x.now) s es
entries_yield e = YieldsList-from_first (λ x. x.now) left _ e

abbrev steps : Entries → Option (Bor (List ℕ)) → Entries → Type 0
steps = YieldsFirstBy (λ (x : Bor (List ℕ)). x.now) left

-- what `position` finds among them is the first that passes the test
module _ {F : Type 0} {g : Mut F (Bor (List ℕ) × Unit {0}) Bool} {s : Entries} {es : List (List ℕ)} (test : List ℕ → Bool) (u : Entries) (f : F) (r : Option ℕ) where
  pub first_place : left s ≡ es
      → (xs : List (Bor (List ℕ))) × (o : Option (Bor (List ℕ))) × (j : F) × YieldsThen steps s xs o u × FoldsTo (λ p x q. Called g p (x, tt) false q) f xs j
      × MatchOption o (r ≡ None) (λ x. (r ≡ Some (length xs)) × ((h : F) × Called g j (x, tt) true h))
      → ((x : Bor (List ℕ)) (b : Bool) (q : F) → Called g f (x, tt) b q → (q ≡ f) × (b ≡ test x.now)) → r ≡ find_first test 0 es
  first_place e d k = position_from_yields_List test u f r d (entries_yield e) k ∙ position_from-zero test es
