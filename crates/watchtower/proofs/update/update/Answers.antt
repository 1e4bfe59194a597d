-- The length of hashes, then the reading and what follows it.
use mathlib.Core.Path.{sym}
use Rattle.fiber_refusal.proofs.PassedLaws.{passed_on}
use Rattle.fiber_witness.proofs.WitnessLaws.{witness_unknown}
use Rattle.fiber_witness.proofs.UpdateLaws.{updated_refused}
use Rattle.watchtower.proofs.update.update.Goals as goal

pub returns-in_err-h : goal.returns-in_err-h
returns-in_err-h c =
    rw (passed_on _ c.from_residual.ensures.1, c.in_err-h.ensures.1) (updated_refused _ _ _ _ (sym (witness_unknown c.args.h c.args.w.now c.in_err-h.ensures.0)))
