-- How the code finds the first TLC that is still pending: its walk notes the first place at which the count stayed, and the
-- cause is looked for there alone.
use Rattle.std.specs.Prelude.{ℕ, ◌+◌, ◌<◌, ◌≡◌, cond, ◌&&◌, List, [], ◌∷◌, leb, length, get_or, Option, Some, None, is_none, Result, Ok, Err}
use Rattle.std.specs.declared.ops.ControlFlow.{ControlFlow}
use Rattle.std.specs.declared.ops.ControlFlow.TheVariants.{Continue, Break}
use Rattle.fiber_choice.specs.declared.kinds.Cause.{Cause}
use Rattle.fiber_choice.specs.declared.kinds.Wait.{Wait}
use Rattle.fiber_choice.specs.declared.kinds.Wait.TheVariants as WaitCase
use Rattle.fiber_choice.specs.declared.kinds.Noted.{Noted}
use Rattle.fiber_choice.specs.declared.kinds.Choice.{Choice}
use Rattle.fiber_choice.specs.declared.kinds.Key.{Key}
use Rattle.fiber_choice.specs.declared.kinds.Chosen.{Chosen}
use Rattle.fiber_choice.specs.Walk.{Step, pends, Verdict, ready, step_of}
use Rattle.fiber_choice.specs.Waits.{still, status_by}

-- behind the TLC at a place, with so many pending before it and so many left: this place, if the count stayed and none before it was noted
unfoldable pub noted : ℕ → ℕ → ℕ → Option ℕ → Option ℕ
noted place before left first = cond (is_none first && leb before left) (Some place) first

unfoldable pub onward_noting : Step → (ℕ → ControlFlow Chosen Noted) → ControlFlow Chosen Noted
onward_noting (pends left) rest = rest left
onward_noting (Break chosen) rest = Break chosen

-- the walk from a place on, with so many pending: what it chooses, or what it leaves pending, with the place that was noted
unfoldable pub noting : ℕ → ℕ → ℕ → Option ℕ → List Verdict → ControlFlow Chosen Noted
noting time place count first [] = Continue (record { pending = count; first = first })
noting time place count first (v ∷ vs) =
    onward_noting (step_of time place count v) (λ left. noting time (place + 1) left (noted place count left first) vs)

-- the verdict at a place; behind the last, one that is never pending
abbrev pub verdict_at : List Verdict → ℕ → Verdict
verdict_at vs k = get_or vs k (ready 0 0)

-- if a TLC with this verdict is pending at some time, it is so for this cause
abbrev pub PendsFor : Cause → Verdict → Type 0
PendsFor c v = (time : ℕ) (cause : Cause) → status_by time v ≡ still cause → c ≡ cause

-- the TLC at the place that was noted is pending for the cause that a wait says; where none was, the wait is for the delay
abbrev pub WaitsAt : ℕ → List Verdict → Option ℕ → Wait → Type 0
WaitsAt time vs (Some k) w = (cause : Cause) × ((k < length vs) × ((status_by time (verdict_at vs k) ≡ still cause) × (w ≡ WaitCase.Tlc k cause)))
WaitsAt time vs None w = w ≡ WaitCase.DelayNotDue

-- a choice, or the wait that goes with a walk without one
abbrev pub Pick : Type 0
Pick = Result Chosen Wait

abbrev pub picked : Choice → Key → Pick
picked choice key = Ok (record { choice = choice; key = key })

abbrev pub unpicked : Wait → Pick
unpicked wait = Err wait

unfoldable pub pick_of : Step → Wait → Pick
pick_of (pends left) w = unpicked w
pick_of (Break chosen) w = Ok chosen
