-- The whole blocks, then the one or two blocks of the padded end: all of the padded message.
use Rattle.fiber_sha256.proofs.Sha256Laws.{hash_one, hash_two}
use Rattle.fiber_sha256.proofs.sha256.sha256.Goals as goal

pub returns-then-s-lt56 : goal.returns-then-s-lt56
returns-then-s-lt56 c = hash_one c.args.s.now _ _ _ _ c.tail-t.ensures c.absorb-h.ensures c.compress-one.ensures _ c.if-s-lt56.true c.digest.ensures

pub returns : goal.returns
returns c = hash_two c.args.s.now _ _ _ _ c.tail-t.ensures c.absorb-h.ensures c.compress-one.ensures _ _ c.if-s-lt56.false c.compress.ensures c.digest-2.ensures
