-- The loop makes eight turns at a time, and all words of the schedule.
use Rattle.std.proofs.Common.{◌≡◌, ◌-◌, ◌*◌, ◌≤◌, min}
use Rattle.fiber_sha256.specs.Sha256.{extended, turns}
use Rattle.fiber_sha256.proofs.sha256.run.Given as goal

abbrev pub invariant-loop-i : goal.invariant-loop-i
invariant-loop-i l =
    (l.i ≤ 8) × ((l.w ≡ extended (min (8 * l.i) 48) l.initial.w) × (l.x ≡ turns (8 * l.i) l.initial.x (extended 48 l.initial.w)))

abbrev pub decreases-loop-i : goal.decreases-loop-i
decreases-loop-i l = 8 - l.i
