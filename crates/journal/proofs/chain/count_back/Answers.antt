-- A right trailer is one more that is passed.
use mathlib.Core.Path.{sym, ◌∙◌}
use native.Mathlib.Omega.{arith}
use Rattle.journal.proofs.CountLaws.{counting_one}
use Rattle.journal.proofs.chain.count_back.Goals as goal

pub loop-older-preserved : goal.loop-older-preserved
loop-older-preserved c =
    let p = c.in-Some.ensures.cases in
    counting_one _ _ _ c.loop-older.invariant _ _ (omega (arith, p.2)) p.0 p.1 (sym c.is_right.ensures ∙ c.if-not-is_right.false)
