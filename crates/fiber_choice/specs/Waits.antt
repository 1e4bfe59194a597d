-- What a choice waits for: number and place of every wait, and the first TLC that is still pending; docs/SCOPE.md, "Turned down, and waiting"
-- and "What a wait says".
use Rattle.std.specs.Prelude.{ℕ, ◌+◌, cond, List, [], ◌∷◌, ltb}
use Rattle.fiber_choice.specs.declared.kinds.Cause.{Cause}
use Rattle.fiber_choice.specs.declared.kinds.Cause.TheVariants as CauseCase
use Rattle.fiber_choice.specs.declared.kinds.Wait.{Wait}
use Rattle.fiber_choice.specs.declared.kinds.Wait.TheVariants as WaitCase
use Rattle.fiber_choice.specs.Walk.{Verdict, passed, timeout, ready, falls}

-- ---- number and place

unfoldable pub cause_number : Cause → ℕ
cause_number CauseCase.NoExpiry = 23
cause_number CauseCase.NoKey = 23
cause_number CauseCase.NotDue = 24
cause_number CauseCase.NotExpired = 24
cause_number CauseCase.NoPreimage = 25

unfoldable pub wait_number : Wait → ℕ
wait_number WaitCase.ListDiffers = 20
wait_number WaitCase.NotOurShare = 21
wait_number WaitCase.DelayNotDue = 22
wait_number (WaitCase.Tlc place cause) = cause_number cause

unfoldable pub wait_place : Wait → ℕ
wait_place WaitCase.ListDiffers = 0
wait_place WaitCase.NotOurShare = 0
wait_place WaitCase.DelayNotDue = 0
wait_place (WaitCase.Tlc place cause) = place

-- ---- the first TLC that is still pending

-- whether a TLC is still pending, and why; if not, pending fell for it or it is chosen
pub data Status : Type 0 where
  still : Cause → Status
  gone : Status

-- by its verdict, at a time
unfoldable pub status_by : ℕ → Verdict → Status
status_by time (passed why) = still why
status_by time (timeout ms key) = cond (ltb ms time) gone (still CauseCase.NotExpired)
status_by time (ready pair_place key) = gone
status_by time (falls ms) = cond (ltb ms time) gone (still CauseCase.NoPreimage)

-- the TLC at a place, or the wait behind it
unfoldable pub or_behind : ℕ → Status → Wait → Wait
or_behind place (still cause) behind = WaitCase.Tlc place cause
or_behind place gone behind = behind

-- from a place on; where nothing is chosen and none is pending there is no TLC, and the full delay isn't due
unfoldable pub first_pending : ℕ → ℕ → List Verdict → Wait
first_pending time place [] = WaitCase.DelayNotDue
first_pending time place (v ∷ vs) = or_behind place (status_by time v) (first_pending time (place + 1) vs)
