-- One place, or none.
use Rattle.fiber_witness.proofs.UpdateLaws.{marks_none}
use Rattle.fiber_witness.proofs.StridedLaws.{marks_one, marks_listed}
use Rattle.fiber_witness.proofs.marks.mark.Goals as goal

pub returns-in-Some : goal.returns-in-Some
returns-in-Some c = rw c.in-Some.is (marks_one _ _ (marks_none 256))

pub returns-in_default : goal.returns-in_default
returns-in_default c = rw c.in_default.is (marks_listed _ (marks_none 256))
