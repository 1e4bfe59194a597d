-- How the code writes what is handed out: what a choice comes to.
use Rattle.std.specs.Prelude.{ℕ, ◌+◌, ◌*◌, ◌≤◌, ◌<◌, true, false, List, [], ◌++◌, length, get_or, replicate, Option, Some, None, is_some, IfSome}
use Rattle.fiber_types.specs.Records.{unlock_bytes}
use Rattle.fiber_choice.specs.declared.kinds.Side.TheVariants as SideCase
use Rattle.fiber_choice.specs.declared.kinds.Way.TheVariants as WayCase
use Rattle.fiber_choice.specs.declared.kinds.Choice.{Choice}
use Rattle.fiber_choice.specs.declared.kinds.Choice.TheVariants as ChoiceCase
use Rattle.fiber_choice.specs.declared.kinds.Stage.{Stage}
use Rattle.fiber_choice.specs.declared.kinds.Stage.TheVariants as StageCase
use Rattle.fiber_choice.specs.declared.kinds.Plan.{Plan}
use Rattle.fiber_witness.specs.Witness.{state_bytes}
use Rattle.fiber_witness.specs.Update.{keep, share_left}
use Rattle.fiber_witness.specs.inner.Marks.{listed}
use Rattle.fiber_choice.specs.Entries.{pair_len, pair_preimage, tracked_records}
use Rattle.fiber_choice.specs.HandedOut.{choice_byte, new_args}
use Rattle.fiber_choice.specs.Promises.{PairIn}

-- in a first settlement there is a settlement TLC at the place, of n
unfoldable pub Reaches : Stage → ℕ → ℕ → Type 0
Reaches StageCase.Later place n = Unit {0}
Reaches (StageCase.First d) place n = place < n

-- for each of m tracked TLCs
abbrev pub ReachesAll : Stage → ℕ → ℕ → Type 0
ReachesAll stage m n = (place : ℕ) → place < m → Reaches stage place n

-- what a choice comes to
unfoldable pub plan_of : Choice → Plan
plan_of (ChoiceCase.Share SideCase.Remote) =
    record { byte = choice_byte (ChoiceCase.Share SideCase.Remote); pair = None; settled = None; unlocked = record { remote = true; local = false } }
plan_of (ChoiceCase.Share SideCase.Local) =
    record { byte = choice_byte (ChoiceCase.Share SideCase.Local); pair = None; settled = None; unlocked = record { remote = false; local = true } }
plan_of (ChoiceCase.Tlc place WayCase.Timeout) =
    record { byte = choice_byte (ChoiceCase.Tlc place WayCase.Timeout); pair = None; settled = Some place; unlocked = record { remote = false; local = false } }
plan_of (ChoiceCase.Tlc place (WayCase.Preimage pair_place)) =
    record { byte = choice_byte (ChoiceCase.Tlc place (WayCase.Preimage pair_place)); pair = Some pair_place; settled = Some place; unlocked = record { remote = false; local = false } }

-- A choice whose place is among n TLCs: of a choice and of a list, or of a byte, so that no field of a choice can say it.
unfoldable pub Below : ℕ → Choice → Type 0
Below n (ChoiceCase.Share side) = Unit {0}
Below n (ChoiceCase.Tlc place way) = place < n

-- and whose pair is among m
unfoldable pub Within : ℕ → ℕ → Choice → Type 0
Within n m c = Below n c × PairIn m c

-- a pair, if there is one, is whole
abbrev pub PairWhole : List ℕ → Option ℕ → Type 0
PairWhole preimages pair = IfSome pair (λ place. pair_len * place + pair_len ≤ length preimages)

-- the preimage that goes with an unlock: that of a pair, or none
unfoldable pub preimage_of : List (List ℕ) → Option ℕ → List ℕ
preimage_of pairs (Some pair_place) = pair_preimage (get_or pairs pair_place [])
preimage_of pairs None = []

unfoldable pub plan_unlock : List (List ℕ) → Plan → List ℕ
plan_unlock pairs p = unlock_bytes (record { byte = p.byte; flag = is_some p.pair }) (replicate 65 0) (preimage_of pairs p.pair)

unfoldable pub plan_after : List (List ℕ) → List ℕ → List ℕ → Plan → List ℕ
plan_after tlcs remote local p = state_bytes (keep (listed p.settled) 0 tlcs) (share_left p.unlocked.remote remote) (share_left p.unlocked.local local)

-- the unlock, the state before it and the new args
unfoldable pub joined : List ℕ → List (List ℕ) → List (List ℕ) → List ℕ → List ℕ → Plan → List ℕ
joined args tracked pairs remote local p =
    plan_unlock pairs p
    ++ state_bytes (tracked_records tracked) remote local
    ++ new_args args (plan_after (tracked_records tracked) remote local p)
