-- Number, place and text of each refusal; docs/SCOPE.md, "Turned down, and waiting", and "Edges" on the text.
use Rattle.std.specs.Prelude.{ℕ, List, ◌++◌, codes, decimal}
use Rattle.fiber_refusal.specs.declared.Refusal.{Refusal}
use Rattle.fiber_refusal.specs.declared.Refusal.TheVariants.{WitnessShort, TlcCut, SharesCut, UnlockCut, UnlockUnknown, SettledTwice, LengthZero, ScaledAbove, ArgsShort, NoDelay, TooManyTlcs, OutputShort, NotWell}

abbrev pub number_of : Refusal → ℕ
number_of (WitnessShort length) = 1
number_of (TlcCut at) = 2
number_of (SharesCut at) = 3
number_of (UnlockCut at) = 4
number_of (UnlockUnknown at) = 5
number_of (SettledTwice at) = 6
number_of LengthZero = 7
number_of ScaledAbove = 8
number_of ArgsShort = 10
number_of NoDelay = 11
number_of TooManyTlcs = 12
number_of (OutputShort needed) = 13
number_of NotWell = 14

abbrev pub place_of : Refusal → ℕ
place_of (WitnessShort length) = length
place_of (TlcCut at) = at
place_of (SharesCut at) = at
place_of (UnlockCut at) = at
place_of (UnlockUnknown at) = at
place_of (SettledTwice at) = at
place_of LengthZero = 0
place_of ScaledAbove = 0
place_of ArgsShort = 0
place_of NoDelay = 0
place_of TooManyTlcs = 0
place_of (OutputShort needed) = needed
place_of NotWell = 0

abbrev pub text_of : Refusal → List ℕ
text_of r = codes "refused " ++ (decimal (number_of r) ++ (codes " at " ++ decimal (place_of r)))
