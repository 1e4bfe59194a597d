-- The TLC has the 32 bytes of its hash.
use mathlib.Core.Path.{sym}
use native.Mathlib.Omega.{arith}
use lib.Seq.{length-take-le}
use Rattle.fiber_step.proofs.preimage.counting_pair.Goals as goal

pub slice_bounds-find_pair-end : goal.slice_bounds-find_pair-end
slice_bounds-find_pair-end c = sym (length-take-le 32 c.args.tracked_tlc.now (omega (arith, c.requires)))
