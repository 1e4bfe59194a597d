-- `absorb` meets its contract: after i turns h is `absorbed i`; the last block is compressed behind the loop.
use Rattle.std.proofs.Common.{refl, arith, rules}
use Rattle.fiber_blake2b.specs.Blake2b.{absorbed}
use Rattle.fiber_blake2b.proofs.Blake2bLaws.{absorbed_more, hashed_by}
use Rattle.fiber_blake2b.proofs.blake2b.absorb.Goals as goal

pub loop-i-init : goal.loop-i-init
unfolding absorbed
loop-i-init c = (search rules, refl)

pub loop-i-preserved : goal.loop-i-preserved
loop-i-preserved c = (search rules, absorbed_more _ _ _ _ _ c.loop-i.invariant.1 c.compress.ensures)

pub returns : goal.returns
returns c =
    let l = c.loop-i in
    hashed_by _ _ _ _ _ _ (omega arith) l.invariant.0 c.loop-i-test.false l.invariant.1 c.compress-2.ensures
