-- How the code remembers which TLCs an update has settled: a mark for each. Only contracts of inner functions speak of it.
use Rattle.std.specs.Prelude.{ℕ, suc, ◌≡◌, ◌<◌, Bool, false, cond, List, [], ◌∷◌, length, get_or, Option, Some, None}
use Rattle.fiber_witness.specs.Witness.{member}

-- marks that say what a list of settled places says, each of its own place
unfoldable pub Marks : List Bool → List ℕ → Type 0
Marks marks settled = (i : ℕ) → i < length marks → get_or marks i false ≡ member i settled

-- the places that are marked, the first mark being that of place i
unfoldable pub marked_from : ℕ → List Bool → List ℕ
marked_from i [] = []
marked_from i (b ∷ bs) =
    let next = marked_from (suc i) bs in
    cond b (i ∷ next) next

unfoldable pub marked : List Bool → List ℕ
marked marks = marked_from 0 marks

-- a place, or none, as a list of places
unfoldable pub listed : Option ℕ → List ℕ
listed (Some place) = place ∷ []
listed None = []
