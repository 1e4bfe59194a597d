-- Each turn takes one unlock: what is left begins where the next one does, and falls.
use lib.ListN.{length}
use Rattle.witness_reader.proofs.ReaderLaws.{Rest}
use Rattle.witness_reader.proofs.read_unlocks.Given as goal

abbrev pub invariant-loop-left : goal.invariant-loop-left
invariant-loop-left l = Rest l.w l.left.remaining.now l.n l.share_place l.unlock_count

abbrev pub decreases-loop-left : goal.decreases-loop-left
decreases-loop-left l = length l.left.remaining.now
