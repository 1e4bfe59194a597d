-- Each turn writes at least one byte more.
use Rattle.std.proofs.Common.{length}
use Rattle.settle.proofs.calls.write_all.Given as goal

abbrev pub decreases-loop-rest : goal.decreases-loop-rest
decreases-loop-rest l = length l.rest
