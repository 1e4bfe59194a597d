-- Each record that is not marked goes to the front of the part of the output that begins behind the one before it.
use Prim.Native.Nat.{◌<◌}
use native.Mathlib.Omega.{arith}
use lib.ListN.{length}
use Rattle.fiber_witness.proofs.StridedLaws.{putting_kept, putting_gone}
use Rattle.fiber_witness.proofs.state.put_records.Goals as goal
use Rattle.fiber_witness.proofs.state.put_records.Goals.{then-not-settled, else-not-settled}

pub loop-settled-preserved : goal.loop-settled-preserved
loop-settled-preserved c =
    let i = c.loop-settled.invariant in
    let below : c.loop-settled.settled-index < length c.args.records.now.marks.now = omega arith in
    elim c.if-not-settled.branch [
      | then-not-settled w ↦ rw (w.at-is, w.out-is) (putting_kept _ _ _ _ i below w.if-not-settled.true _ c.record_len-size.ensures (omega arith) _ w.put_record.ensures)
      | else-not-settled w ↦ rw (w.at-is, w.out-is) (putting_gone _ _ _ _ i below w.if-not-settled.false)
    ]
