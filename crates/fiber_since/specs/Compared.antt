-- When an epoch can be compared; docs/SCOPE.md, rows 14 and 7 of "Turned down, and waiting", in the order of the due test.
use Rattle.std.specs.Prelude.{◌≡◌, Result, Ok, Err, MatchResult, cond, eqb}
use Rattle.fiber_refusal.specs.declared.Refusal.{Refusal}
use Rattle.fiber_refusal.specs.declared.Refusal.TheVariants.{LengthZero, NotWell}
use Rattle.fiber_since.specs.declared.epoch.Epoch.{Epoch}
use Rattle.fiber_since.specs.declared.comparable.Comparable.{Comparable}
use Rattle.fiber_since.specs.Epoch.{within_bits}

-- the epoch itself, or why it is turned down
unfoldable pub comparable : Epoch → Result Epoch Refusal
comparable e = cond (within_bits e) (cond (eqb e.length 0) (Err LengthZero) (Ok e)) (Err NotWell)

abbrev pub TakesEpoch : Epoch → Result Comparable Refusal → Type 0
TakesEpoch e r = MatchResult r (λ c. comparable e ≡ Ok c.epoch) (λ why. comparable e ≡ Err why)
