-- Each turn takes one unlock: to take the rest, from what was taken, gives what taking all gives.
-- The marks say what the list of settled places says. Behind an unlock that is cut short there is none.
use Prim.Native.Nat.{◌-◌}
use lib.ListN.{length}
use Rattle.fiber_witness.proofs.UpdateLaws.{Taking}
use Rattle.fiber_witness.proofs.unlocks.take_unlocks_from_none.Given as goal

abbrev pub invariant-loop-at : goal.invariant-loop-at
invariant-loop-at l = Taking (length l.initial.settled) l.w l.first_unlock l.settled l.remote l.local l.at

abbrev pub decreases-loop-at : goal.decreases-loop-at
decreases-loop-at l = length l.w - l.at
