-- `absorb` meets its contract: after i turns h is `absorbed i`; the last block is compressed behind the loop.
use Rattle.std.proofs.Common.{◌≡◌, ◌-◌, ◌≤◌}
use Rattle.fiber_blake2b.specs.Blake2b.{absorbed}
use Rattle.fiber_blake2b.proofs.blake2b.absorb.Given as goal

abbrev pub invariant-loop-i : goal.invariant-loop-i
invariant-loop-i l = (l.i ≤ l.n) × (l.h ≡ absorbed l.i l.initial.h l.s)

abbrev pub decreases-loop-i : goal.decreases-loop-i
decreases-loop-i l = l.n - l.i
