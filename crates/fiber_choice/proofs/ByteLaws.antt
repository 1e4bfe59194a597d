-- Laws of `choice_byte` in `specs/HandedOut.antt`: the unlock's byte, by the choice; that of a share is what `Side::byte` ensures.
-- Assumes nothing.
use Prim.Native.Nat.{ℕ}
use mathlib.Core.Path.{◌≡◌, refl}
use Rattle.fiber_choice.specs.declared.kinds.Way.{Way}
use Rattle.fiber_choice.specs.declared.kinds.Choice.TheVariants as ChoiceCase
use Rattle.fiber_choice.specs.HandedOut.{choice_byte}

pub byte_tlc : (place : ℕ) (way : Way) → choice_byte (ChoiceCase.Tlc place way) ≡ place
unfolding choice_byte
byte_tlc place way = refl
