-- Each turn copies one entry: what is left to copy, put behind what was copied, gives all of it.
use lib.ListN.{length}
use Rattle.journal.proofs.JournalLaws.{Copying}
use Rattle.journal.proofs.walk.put_newest_first.Given as goal

abbrev pub invariant-loop-older : goal.invariant-loop-older
invariant-loop-older l = Copying l.journal l.initial.out l.rest l.out l.at

abbrev pub decreases-loop-older : goal.decreases-loop-older
decreases-loop-older l = length l.rest
