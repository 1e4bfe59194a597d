-- The first pair that passes the test is the first with the hash, in the list as in the flat slice of the same pairs.
use Rattle.std.proofs.Common.{rules, tests}
use mathlib.Core.Path.{◌∙◌}
use Rattle.std.proofs.lemmas.Iterator.{YieldsList-from_slice}
use Rattle.std.proofs.lemmas.Iterator.Adapters.{position_from-zero}
use Rattle.std.proofs.lemmas.Iterator.Search.{position_from_yields_List}
use Rattle.preimage_list.proofs.PreimageListLaws.{pair_has, find_agrees, sized}
use Rattle.preimage_list.proofs.find_pair.Goals as goal

pub returns : goal.returns
returns c =
    let ys = c.args.pairs.now in
    position_from_yields_List (pair_has c.args.hash) c.position.new.self _ c.position.result c.position.ensures.ran
    (YieldsList-from_slice ys c.iter.ensures.rest) (λ x b q k. search (rules, tests))
    ∙ position_from-zero (pair_has c.args.hash) ys
    ∙ find_agrees ys c.args.hash (sized ys)
