-- Each turn takes one unlock: what is left begins where the next one does, and falls.
use mathlib.Core.Path.{sym, ◌∙◌}
use native.Mathlib.Omega.{arith}
use borrow.Author.Tests.{eqb-true, eqb-false}
use Rattle.witness_reader.proofs.ReaderLaws.{rest_start, rest_at, rest_few, rest_end, rest_cut, rest_less, rest_more}
use Rattle.witness_reader.proofs.read_unlocks.Goals as goal

pub loop-left-init : goal.loop-left-init
loop-left-init c = rest_start _ _ _ _ c.requires.0 c.requires.1

pub overflow_sub-result : goal.overflow_sub-result
overflow_sub-result c = omega (arith, rest_at _ _ _ _ _ c.loop-left.invariant)

pub returns-in_default : goal.returns-in_default
returns-in_default c =
    rest_cut _ _ _ _ _ c.loop-left.invariant (eqb-false _ _ (sym c.is_empty.ensures ∙ c.loop-left-test.true)) c.in_default.ensures

pub loop-left-preserved : goal.loop-left-preserved
loop-left-preserved c =
    rest_more _ _ _ _ _ c.loop-left.invariant (eqb-false _ _ (sym c.is_empty.ensures ∙ c.loop-left-test.true)) _ c.in-Some.ensures

pub overflow_add-unlock_count : goal.overflow_add-unlock_count
overflow_add-unlock_count c = omega (arith, rest_few _ _ _ _ _ (loop-left-preserved c))

pub loop-left-smaller : goal.loop-left-smaller
loop-left-smaller c = rest_less _ _ c.in-Some.ensures

pub overflow_add-result : goal.overflow_add-result
overflow_add-result c = omega (arith, c.requires.0)

pub returns : goal.returns
returns c = rest_end _ _ _ _ _ c.loop-left.invariant (eqb-true _ _ (sym c.is_empty.ensures ∙ c.loop-left-test.false))
