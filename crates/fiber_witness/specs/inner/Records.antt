-- The records that stand of a list in which they stand a fixed number of bytes apart. Only contracts of inner functions speak of it.
use Rattle.std.specs.Prelude.{ℕ, List, length}
use Rattle.fiber_witness.specs.declared.records.Records.{Records}
use Rattle.fiber_witness.specs.inner.Strided.{unmarked}

abbrev pub standing_of : Records → List (List ℕ)
standing_of r = unmarked r.h r.source.now r.from r.stride (length r.marks.now) r.marks.now
