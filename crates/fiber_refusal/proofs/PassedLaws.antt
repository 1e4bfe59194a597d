-- What a `?` hands on.
-- Assumes nothing.
use mathlib.Core.Path.{◌≡◌, ap}
use Rattle.std.specs.Prelude.{Result, Ok, Err}
use Rattle.std.specs.Result.{IsErrAnd}

-- the `Err` of what the error became
pub passed_on : {T E : Type 0} (r : Result T E) {x : E} → IsErrAnd r (λ y. y ≡ x) → r ≡ Err x
passed_on (Ok v) h = absurd h
passed_on (Err y) h = ap Err h
