-- Each turn goes on behind the end of a line.
use Rattle.std.proofs.Common.{◌-◌, length}
use Rattle.vectors.proofs.Tallies.count_list.Given as goal

abbrev pub decreases-loop-at : goal.decreases-loop-at
decreases-loop-at l = length l.list - l.at
