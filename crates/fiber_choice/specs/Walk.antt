-- The walk over the TLCs, in order; docs/SCOPE.md, "The choice". Each TLC has a verdict that does not depend on the time; a step is that
-- verdict at a time. Both settlements walk so.
use Rattle.std.specs.Prelude.{ℕ, ◌+◌, ◌-◌, Bool, cond, ◌&&◌, not, List, [], ◌∷◌, eqb, ltb}
use Rattle.std.specs.declared.ops.ControlFlow.{ControlFlow}
use Rattle.std.specs.declared.ops.ControlFlow.TheVariants.{Continue, Break}
use Rattle.fiber_choice.specs.declared.kinds.Side.{Side}
use Rattle.fiber_choice.specs.declared.kinds.Side.TheVariants as SideCase
use Rattle.fiber_choice.specs.declared.kinds.Way.TheVariants as WayCase
use Rattle.fiber_choice.specs.declared.kinds.Choice.{Choice}
use Rattle.fiber_choice.specs.declared.kinds.Choice.TheVariants as ChoiceCase
use Rattle.fiber_choice.specs.declared.kinds.Key.{Key}
use Rattle.fiber_choice.specs.declared.kinds.Key.TheVariants as KeyCase
use Rattle.fiber_choice.specs.declared.kinds.Cause.{Cause}
use Rattle.fiber_choice.specs.declared.kinds.Chosen.{Chosen}

-- ---- what a step of the walk, and the walk as a whole, comes to

-- nothing chosen, with so many TLCs pending, or a choice
abbrev pub Step : Type 0
Step = ControlFlow Chosen ℕ

pattern abbrev pub pends : ℕ → Step
pends pending = Continue pending

abbrev pub chooses : Choice → Key → Step
chooses choice key = Break (record { choice = choice; key = key })

-- ---- our slot, and the two kinds of TLCs

-- our slot is local with for_remote, else remote
unfoldable pub our_side : Bool → Side
our_side for_remote = cond for_remote SideCase.Local SideCase.Remote

abbrev pub our_share : Bool → Step
our_share for_remote = chooses (ChoiceCase.Share (our_side for_remote)) KeyCase.Settlement

-- timeout kind: offered with for_remote, received without; the others are preimage kind
unfoldable pub timeout_kind : Bool → Bool → Bool
timeout_kind for_remote offered = cond for_remote offered (not offered)

-- ---- a TLC

-- The numbers are an expiry in ms, the place of the key among the settlement TLCs, the place of a pair among the stored preimages.
pub data Verdict : Type 0 where
  -- passed over for a cause: it stays pending whatever the time
  passed : Cause → Verdict
  -- timeout kind: chosen if time > expiry
  timeout : (ms key : ℕ) → Verdict
  -- preimage kind, and a preimage counts: chosen, expired or not
  ready : (pair_place key : ℕ) → Verdict
  -- preimage kind without one: pending falls if time > expiry
  falls : (ms : ℕ) → Verdict

-- the TLC at a place, with so many pending
unfoldable pub step_of : ℕ → ℕ → ℕ → Verdict → Step
step_of time place pending (passed why) = pends pending
step_of time place pending (timeout ms key) =
    cond (ltb ms time) (chooses (ChoiceCase.Tlc place WayCase.Timeout) (KeyCase.Tlc key)) (pends pending)
step_of time place pending (ready pair_place key) = chooses (ChoiceCase.Tlc place (WayCase.Preimage pair_place)) (KeyCase.Tlc key)
step_of time place pending (falls ms) = pends (cond (ltb ms time) (pending - 1) pending)

-- ---- the walk

unfoldable pub onward : Step → (ℕ → Step) → Step
onward (pends pending) rest = rest pending
onward (Break chosen) rest = Break chosen

-- it ends at the first chosen
unfoldable pub walk : ℕ → ℕ → ℕ → List Verdict → Step
walk time place pending [] = pends pending
walk time place pending (v ∷ vs) = onward (step_of time place pending v) (λ p. walk time (place + 1) p vs)

-- none chosen and pending 0: our share, where it may be taken
unfoldable pub or_share : Bool → Bool → Step → Step
or_share for_remote may s = onward s (λ pending. cond (eqb pending 0 && may) (our_share for_remote) (pends pending))
