-- Where a row stands against the walk, that is answered. Else the thirds answer.
use Rattle.fiber_refusal.proofs.PassedLaws.{passed_on}
use Rattle.fiber_choice.proofs.SettlementsLaws.{leaves_as, first_stops, first_begins}
use Rattle.fiber_walk.proofs.first.choose_first.Goals as goal

pub returns-in_err-first_ready : goal.returns-in_err-first_ready
returns-in_err-first_ready c =
    rw (passed_on _ c.from_residual.ensures.1) (first_stops _ _ _ _ c.first_ready.ensures _ c.in_err-first_ready.was)

pub returns : goal.returns
returns c = leaves_as _ _ (first_begins _ _ _ _ c.first_ready.ensures c.in_ok-first_ready.was) _ _ c.first_thirds.ensures
