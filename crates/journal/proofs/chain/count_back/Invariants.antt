-- Each turn passes one entry: those that are passed and those of the rest are as many as the journal has.
use lib.ListN.{length}
use Rattle.journal.proofs.CountLaws.{Counting}
use Rattle.journal.proofs.chain.count_back.Given as goal

abbrev pub invariant-loop-older : goal.invariant-loop-older
invariant-loop-older l = Counting l.journal l.rest l.count

abbrev pub decreases-loop-older : goal.decreases-loop-older
decreases-loop-older l = length l.rest
