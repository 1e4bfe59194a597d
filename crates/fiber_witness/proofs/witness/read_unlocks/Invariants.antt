-- Each turn reads one unlock: what the rest of the places say, from here, is what all of them say.
-- An unlock has more than one byte, so what is left of the witness falls.
use Prim.Native.Nat.{◌-◌}
use lib.ListN.{length}
use Rattle.fiber_witness.proofs.WitnessLaws.{Reading}
use Rattle.fiber_witness.proofs.witness.read_unlocks.Given as goal

abbrev pub invariant-loop-at : goal.invariant-loop-at
invariant-loop-at l = Reading l.w l.n l.share_place l.at l.unlock_count

abbrev pub decreases-loop-at : goal.decreases-loop-at
decreases-loop-at l = length l.w - l.at
