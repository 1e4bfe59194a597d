-- Two writes, one right behind the other, fill the array.
use mathlib.Core.Path.{refl}
use Rattle.fiber_choice.proofs.FirstRecordsLaws.{share_puts}
use Rattle.fiber_first.proofs.built.share_of.Goals as goal

pub returns : goal.returns
returns c = share_puts c.args.key.now c.args.amount _ _ _ _ c.put_amount.ensures c.put.ensures c.hash_of.ensures refl
