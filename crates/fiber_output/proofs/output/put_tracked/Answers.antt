-- The marks are those of the tracked TLCs, so the records that stand by them are all but the one that is settled.
use native.Mathlib.Omega.{arith}
use Rattle.fiber_choice.proofs.HandedLaws.{tracked_room, marks_tracked, unmarked_listed}
use Rattle.fiber_output.proofs.output.put_tracked.Goals as goal

pub invariant_of-records : goal.invariant_of-records
invariant_of-records c =
    let a = c.args.lent.now in
    let long = marks_tracked a.q.now.h.bytes a.q.now.tracked.now _ c.mark.new.marks (omega (arith, a.few, c.tracked_count.ensures)) c.tracked_count.ensures in
    record {
      short = a.q.now.h.small;
      few = omega (arith, long, c.tracked_count.ensures, a.few);
      near = omega (arith, c.tracked_len.ensures, a.q.now.h.small);
      whole = rw (long, c.tracked_count.ensures, c.tracked_len.ensures) (omega (arith, tracked_room a.q.now.h.bytes a.q.now.tracked.now));
      counted = c.count_standing.ensures;
    }

pub put_state-requires : goal.put_state-requires
put_state-requires c =
    let a = c.args.lent.now in
    rw (unmarked_listed a.q.now.h.bytes a.q.now.tracked.now _ _ (omega (arith, a.few, c.tracked_count.ensures)) c.tracked_count.ensures _ _ c.tracked_len.ensures c.mark.ensures) c.requires

pub returns : goal.returns
returns c =
    let a = c.args.lent.now in
    rw (unmarked_listed a.q.now.h.bytes a.q.now.tracked.now _ _ (omega (arith, a.few, c.tracked_count.ensures)) c.tracked_count.ensures _ _ c.tracked_len.ensures c.mark.ensures) at c.put_state.ensures
