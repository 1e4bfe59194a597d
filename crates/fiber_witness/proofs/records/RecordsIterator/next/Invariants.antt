-- What stands of those that are left stands of all: a record that is marked is passed.
use Rattle.std.specs.Prelude.{◌≡◌, length}
use Rattle.fiber_witness.specs.inner.Records.{standing_of}
use Rattle.fiber_witness.proofs.records.RecordsIterator.next.Given as goal

abbrev pub invariant-loop-settled : goal.invariant-loop-settled
invariant-loop-settled l = standing_of l.self ≡ standing_of l.initial.self

abbrev pub decreases-loop-settled : goal.decreases-loop-settled
decreases-loop-settled l = length l.self.marks.now
