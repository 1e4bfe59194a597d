-- So many of the marks looked at are not set.
use mathlib.Core.Path.{◌≡◌}
use lib.ListN.{take}
use Rattle.std.specs.Prelude.{count_by, not}
use Rattle.fiber_witness.proofs.marks.count_standing.Given as goal

abbrev pub invariant-loop-settled : goal.invariant-loop-settled
invariant-loop-settled l = l.standing ≡ count_by not (take l.settled-index l.marks)
