-- The reading decides, then the unlocks; where both are fine, the state left is written, if it has room.
use native.Mathlib.Omega.{arith}
use Rattle.fiber_refusal.proofs.PassedLaws.{passed_on}
use Rattle.fiber_witness.proofs.LeavingLaws.{update_refused, update_short, update_written}
use Rattle.watchtower.proofs.update.settle.Goals as goal

pub returns-in_err-left : goal.returns-in_err-left
returns-in_err-left c =
    rw (passed_on _ c.from_residual.ensures.1) (update_refused _ _ _ _ (rw c.in_err-left.was at c.state_left.ensures))

pub returns-then-out-size : goal.returns-then-out-size
returns-then-out-size c = update_short _ _ _ _ (rw c.in_ok-left.was at c.state_left.ensures) _ c.state_len-size.ensures c.if-out-size.true

pub returns : goal.returns
returns c =
    update_written _ _ _ _ (rw c.in_ok-left.was at c.state_left.ensures) (omega (arith, c.state_len-size.ensures, c.if-out-size.false)) _ _ c.put_state.ensures
