-- `row` meets its contract: the table is that of the definition.
use Rattle.std.proofs.Common.{◌%◌, refl, arith}
use Rattle.fiber_blake2b.specs.Blake2b.{sigma}
use Rattle.fiber_blake2b.proofs.Blake2bLaws.{places}
use Rattle.fiber_blake2b.proofs.blake2b.row.Goals as goal

pub returns-clause-value : goal.returns-clause-value
unfolding sigma
returns-clause-value c = refl

pub returns-clause-places : goal.returns-clause-places
unfolding sigma
returns-clause-places c = places (c.args.r % 10) (omega arith)
