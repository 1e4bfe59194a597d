-- The loop writes the words one by one, as `loaded` does.
use Rattle.std.proofs.Common.{◌≡◌, ◌-◌, ◌≤◌}
use Rattle.fiber_sha256.specs.Sha256.{loaded}
use Rattle.fiber_sha256.proofs.sha256.load.Given as goal

abbrev pub invariant-loop-i : goal.invariant-loop-i
invariant-loop-i l = (l.i ≤ 16) × (l.w ≡ loaded l.i l.s l.at)

abbrev pub decreases-loop-i : goal.decreases-loop-i
decreases-loop-i l = 16 - l.i
