-- The first entry that passes the test is the first pair with the hash.
use Rattle.std.proofs.Common.{rules, tests}
use Rattle.fiber_choice.specs.Preimages.{find_pair}
use Rattle.fiber_choice.proofs.PreimagesLaws.{has_hash}
use Rattle.fiber_first.proofs.LeftLaws.{first_place}
use Rattle.fiber_step.proofs.preimage.find_pair.Goals as goal

pub returns : goal.returns
unfolding find_pair
returns c = first_place (has_hash c.args.hash.now) c.position.new.self _ c.position.result c.pairs.ensures c.position.ensures.ran (λ x b q k. search (rules, tests))
