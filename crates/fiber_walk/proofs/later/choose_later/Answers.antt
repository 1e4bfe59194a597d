-- The witness is read and its unlocks are taken; what they leave is what the rows before the walk look at.
use Rattle.fiber_refusal.proofs.PassedLaws.{passed_on}
use Rattle.fiber_choice.proofs.SettlementsLaws.{leaves_as, later_refused, later_left}
use Rattle.fiber_walk.proofs.later.choose_later.Goals as goal

pub returns-in_err-left : goal.returns-in_err-left
returns-in_err-left c =
    rw (passed_on _ c.from_residual.ensures.1) (later_refused _ _ _ _ (rw c.in_err-left.was at c.state_left.ensures))

pub returns : goal.returns
returns c = leaves_as _ _ (later_left _ _ _ _ (rw c.in_ok-left.was at c.state_left.ensures)) _ _ c.later_state.ensures
