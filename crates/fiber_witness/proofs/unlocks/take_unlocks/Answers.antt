-- Once they are cleared, no mark is set.
use Rattle.fiber_witness.proofs.UpdateLaws.{marks_none}
use Rattle.fiber_witness.proofs.unlocks.take_unlocks.Goals as goal

pub take_unlocks_from_none-requires : goal.take_unlocks_from_none-requires
take_unlocks_from_none-requires c = rw (c.fill.ensures.after (λ y h. h)) (marks_none _)
