-- Each turn reads one unlock: what the rest of the places say, from here, is what all of them say.
-- An unlock has more than one byte, so what is left of the witness falls.
use mathlib.Core.Path.{sym, ◌∙◌}
use native.Mathlib.Omega.{arith}
use Rattle.fiber_refusal.proofs.PassedLaws.{passed_on}
use Rattle.fiber_witness.proofs.WitnessLaws.{reading_start, reading_less, reading_more, reading_cut, reading_end}
use Rattle.fiber_witness.proofs.witness.read_unlocks.Goals as goal

pub loop-at-init : goal.loop-at-init
loop-at-init c = reading_start _ _ _ c.requires

pub loop-at-preserved : goal.loop-at-preserved
loop-at-preserved c =
    reading_more _ _ _ _ _ c.loop-at.invariant (omega arith) _ _ (sym c.read.ensures ∙ c.in_ok-u.was) c.witness_len-at.ensures

pub overflow_add-at : goal.overflow_add-at
overflow_add-at c = omega (arith, (loop-at-preserved c).room)

pub overflow_add-unlock_count : goal.overflow_add-unlock_count
overflow_add-unlock_count c = omega (arith, (loop-at-preserved c).room, (loop-at-preserved c).few)

pub loop-at-smaller : goal.loop-at-smaller
loop-at-smaller c =
    reading_less _ _ _ _ _ c.loop-at.invariant (omega arith) _ _ (sym c.read.ensures ∙ c.in_ok-u.was) c.witness_len-at.ensures

pub returns-in_err-u : goal.returns-in_err-u
returns-in_err-u c =
    rw (passed_on _ c.from_residual.ensures.1) (reading_cut _ _ _ _ _ c.loop-at.invariant (omega arith) _ (sym c.read.ensures ∙ c.in_err-u.was))

pub returns : goal.returns
returns c = reading_end _ _ _ _ _ c.loop-at.invariant c.loop-at-test.false
