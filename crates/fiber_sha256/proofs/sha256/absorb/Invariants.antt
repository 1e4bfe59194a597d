-- The loop takes in block after block: each lies whole in the message, so it is the padded message's.
use Rattle.std.proofs.Common.{◌≡◌, ◌-◌, ◌≤◌}
use Rattle.fiber_sha256.specs.Sha256.{absorbed, padded}
use Rattle.fiber_sha256.proofs.sha256.absorb.Given as goal

abbrev pub invariant-loop-i : goal.invariant-loop-i
invariant-loop-i l = (l.i ≤ l.n) × (l.h ≡ absorbed l.i (padded l.s))

abbrev pub decreases-loop-i : goal.decreases-loop-i
decreases-loop-i l = l.n - l.i
