-- Four writes, one right behind the other.
use native.Mathlib.Omega.{arith}
use Rattle.fiber_choice.proofs.HandedLaws.{args_puts}
use Rattle.fiber_output.proofs.output.put_args.Goals as goal

pub returns : goal.returns
returns c =
    args_puts _ _ _ _ _ _ _ c.requires.args_long c.told-hash c.put.ensures c.put-2.ensures c.put-3.ensures
    (omega arith) (omega arith) (omega arith) c.part_of.ensures c.part_of-2.ensures c.part_of-3.ensures
