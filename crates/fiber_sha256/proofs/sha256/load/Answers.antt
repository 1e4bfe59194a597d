-- The loop writes the words one by one, as `loaded` does.
use Rattle.std.proofs.Common.{◌≡◌, refl, arith, rules}
use Rattle.fiber_sha256.specs.Sha256.{loaded}
use Rattle.fiber_sha256.proofs.Sha256Laws.{loaded_more}
use Rattle.fiber_sha256.proofs.sha256.load.Goals as goal

pub loop-i-init : goal.loop-i-init
unfolding loaded
loop-i-init c = (search rules, refl)

pub loop-i-preserved : goal.loop-i-preserved
loop-i-preserved c = (search rules, loaded_more _ _ _ _ _ c.loop-i.invariant.1 c.word.ensures)

pub returns : goal.returns
returns c = let e : c.loop-i.i ≡ 16 = omega arith in rw e at c.loop-i.invariant.1
