-- The count, the records and the two shares, one right behind the other, are the state.
-- No more than n records stand, so that the count is a byte.
use native.Mathlib.Omega.{arith}
use mathlib.Core.Path.{◌∙◌}
use lib.ListN.{length}
use Rattle.fiber_witness.specs.inner.Records.{standing_of}
use Rattle.fiber_witness.proofs.WitnessLaws.{state_size}
use Rattle.fiber_witness.proofs.StridedLaws.{unmarked_few, unmarked_count, state_puts}
use Rattle.fiber_witness.proofs.state.put_state.Goals as goal

pub overflow_cast-out : goal.overflow_cast-out
overflow_cast-out c =
    let r = c.args.records.now in
    let n = length r.marks.now in
    omega (arith, r.few, r.counted, unmarked_few r.h r.source.now r.from r.stride n r.marks.now, unmarked_count r.h r.source.now r.from r.stride r.marks.now)

pub returns : goal.returns
returns c =
    let r = c.args.records.now in
    let s = c.args.shares.now in
    let rs = standing_of r in
    let p = c.put_records-at in (
      omega (arith, p.ensures.value, state_size rs s.remote.now s.local.now s.remote_36 s.local_36),
      state_puts rs s.remote.now s.local.now s.remote_36 s.local_36 _ _ _ _ _ _
          (r.counted ∙ unmarked_count r.h r.source.now r.from r.stride r.marks.now)
          p.ensures.value p.ensures.out_after c.put.ensures c.put-2.ensures,
    )
