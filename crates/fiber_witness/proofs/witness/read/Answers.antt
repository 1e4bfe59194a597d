-- The tests in order: the hash length, the two counts, and the TLCs.
use mathlib.Core.Path.{◌∙◌}
use Rattle.fiber_refusal.proofs.PassedLaws.{passed_on}
use Rattle.fiber_witness.proofs.WitnessLaws.{witness_unknown, witness_short, witness_tlcs}
use Rattle.fiber_witness.proofs.witness.read.Goals as goal

pub returns-in_err-h : goal.returns-in_err-h
returns-in_err-h c =
    rw (passed_on _ c.from_residual.ensures.1, c.in_err-h.ensures.1) (witness_unknown _ _ c.in_err-h.ensures.0)

pub returns-then-w-lt2 : goal.returns-then-w-lt2
returns-then-w-lt2 c = rw (← c.in_ok-h.ensures) (witness_short _ _ c.in_ok-h.h.valid c.if-w-lt2.true)

pub returns : goal.returns
returns c = c.read_tlcs.ensures ∙ rw (← c.in_ok-h.ensures) (witness_tlcs _ _ c.in_ok-h.h.valid c.if-w-lt2.false)
