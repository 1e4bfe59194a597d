-- The loop takes in block after block: each lies whole in the message, so it is the padded message's.
use Rattle.std.proofs.Common.{◌≡◌, ◌/◌, length, arith, rules, refl}
use Rattle.fiber_sha256.specs.Sha256.{absorbed, initial}
use Rattle.fiber_sha256.proofs.Sha256Laws.{absorbed_more}
use Rattle.fiber_sha256.proofs.sha256.absorb.Goals as goal

pub loop-i-init : goal.loop-i-init
unfolding absorbed initial
loop-i-init c = (search rules, refl)

pub loop-i-preserved : goal.loop-i-preserved
loop-i-preserved c = (search rules, absorbed_more c.args.s.now _ _ c.loop-i.i (omega arith) c.loop-i.invariant.1 c.compress-next.ensures)

pub returns : goal.returns
returns c = let e : c.loop-i.i ≡ length c.args.s.now / 64 = omega arith in rw e at c.loop-i.invariant.1
