-- To write what is left, from here, gives what the whole gives.
use mathlib.Core.List.{flatten}
use Rattle.fiber_witness.specs.inner.Records.{standing_of}
use Rattle.fiber_witness.proofs.StridedLaws.{Putting}
use Rattle.fiber_witness.proofs.state.put_records.Given as goal

abbrev pub invariant-loop-settled : goal.invariant-loop-settled
invariant-loop-settled l =
    let r = l.records in
    Putting r.h r.source.now r.stride r.marks.now (flatten (standing_of r)) l.initial.out l.out l.from l.at l.settled-index
