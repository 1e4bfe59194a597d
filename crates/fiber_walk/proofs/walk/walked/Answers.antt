-- The wait is for the TLC at the place that the walk noted; what is chosen, and our share where none is left, the check finds.
use mathlib.Core.Path.{sym, ◌∙◌}
use mathlib.Core.Bool.{false≢true}
use Rattle.fiber_choice.specs.Request.{pairs}
use Rattle.fiber_choice.specs.inner.Request.{request_by}
use Rattle.fiber_choice.proofs.WalkLaws.{picked_wait, picked_place}
use Rattle.fiber_walk.proofs.walk.walked.Goals as goal
use Rattle.fiber_walk.proofs.walk.walked.Goals.{then-noted-eq0+else-may_share, else-noted-eq0}

pub returns-in-Continue-2 : goal.returns-in-Continue-2
returns-in-Continue-2 c =
    let q = request_by c.args.walk.now.q.now in
    picked_wait _ _ q.time _ (pairs q) _ _ _ c.noting.ensures _ c.in-Continue.is
    (elim c.if-noted-eq0.branch [
      | then-noted-eq0+else-may_share w ↦ λ z. false≢true (sym w.if-may_share.false ∙ w.may_share.ensures ∙ z.1)
      | else-noted-eq0 w ↦ λ z. w.if-noted-eq0.false z.0
    ])
    _ (c.wait_at.ensures q.time (pairs q) _ (picked_place _ _ q.time _ (pairs q) _ _ _ c.noting.ensures _ c.in-Continue.is))
