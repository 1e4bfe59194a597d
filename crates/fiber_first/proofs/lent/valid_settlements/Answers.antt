-- The chain's answer is that of the test on each entry.
use Rattle.std.proofs.Common.{rules, tests}
use Rattle.std.proofs.lemmas.Iterator.Search.{all_from_yields_List}
use Rattle.fiber_choice.specs.Entries.{valid_settlement}
use Rattle.fiber_first.proofs.LeftLaws.{entries_yield}
use Rattle.fiber_first.proofs.lent.valid_settlements.Goals as goal

pub returns : goal.returns
returns c =
    all_from_yields_List valid_settlement c.all.new.self _ c.all.result c.all.ensures.ran (entries_yield c.settlement_tlcs.ensures)
    (λ x b q k. search (rules, tests))
