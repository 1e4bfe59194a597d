-- To walk on from a place, with so many pending, gives what the whole walk gives.
use Rattle.std.specs.Prelude.{length, None}
use Rattle.std.specs.Iterator.Adapters.{enumerate_source, enumerate_count}
use Rattle.fiber_first.specs.inner.Left.{left}
use Rattle.fiber_choice.specs.Entries.{tracked_len}
use Rattle.fiber_choice.specs.Request.{settlement_tlcs, tracked_tlcs, pairs}
use Rattle.fiber_choice.specs.Verdicts.{verdicts}
use Rattle.fiber_choice.specs.inner.Noting.{noting}
use Rattle.fiber_choice.specs.inner.Request.{request_by}
use Rattle.fiber_choice.proofs.WalkLaws.{Walking}
use Rattle.fiber_walk.proofs.walk.noting.Given as goal

abbrev pub invariant-loop-place : goal.invariant-loop-place
invariant-loop-place l =
    let q = request_by l.walk.q.now in
    (goal.iterator-loop-place).can_next l.place-iterator ×
    (goal.iterator-loop-place).is_finite l.place-iterator ×
    Walking q.h q.for_remote q.time (settlement_tlcs q) (pairs q) l.walk.stage (tracked_len q.h) q.tracked
    (noting q.time 0 (length (tracked_tlcs q)) None (verdicts q.h q.for_remote (settlement_tlcs q) (pairs q) l.walk.stage 0 (tracked_tlcs q)))
    l.pending l.first (left (enumerate_source l.place-iterator)) (enumerate_count l.place-iterator)
