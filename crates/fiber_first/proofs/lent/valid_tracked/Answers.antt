-- The iterator's answer is that of the test on each entry, whose length the definition adds up in another order.
use Prim.Native.Nat.{ℕ}
use native.Mathlib.Omega.{arith}
use mathlib.Core.Path.{ap}
use Rattle.std.proofs.Common.{rules, tests}
use Rattle.std.proofs.lemmas.Iterator.Search.{all_from_yields_List}
use Rattle.fiber_choice.specs.Entries.{entries, valid_tracked}
use Rattle.fiber_first.proofs.LeftLaws.{entries_yield}
use Rattle.fiber_first.proofs.lent.valid_tracked.Goals as goal

pub returns : goal.returns
returns c =
    all_from_yields_List valid_tracked c.all.new.self _ c.all.result c.all.ensures.ran (entries_yield (ap (λ (size : ℕ). entries size c.args.tracked.now) (omega arith)))
    (λ x b q k. search (rules, tests))
