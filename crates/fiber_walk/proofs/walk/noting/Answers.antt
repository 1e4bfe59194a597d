-- To walk on from a place, with so many pending, gives what the whole walk gives.
use Prim.Native.Nat.{◌<◌}
use mathlib.Core.Path.{ap, sym, ◌∙◌}
use mathlib.Core.Logic.{inl}
use native.Mathlib.Omega.{arith}
use Rattle.std.specs.Prelude.{length}
use Rattle.std.specs.Iterator.Adapters.{enumerate_source, enumerate_count}
use Rattle.fiber_first.specs.inner.Left.{left}
use Rattle.fiber_choice.specs.Request.{tracked_tlcs}
use Rattle.fiber_choice.specs.inner.Request.{request_by}
use Rattle.fiber_choice.proofs.WalkLaws.{walking_start, walking_end, walking_at, walking_chosen, walking_on, reaches_all}
use Rattle.fiber_walk.proofs.walk.noting.Goals as goal

pub loop-place-init : goal.loop-place-init
loop-place-init c =
    let i = c.into_iter-place-iterator.ensures.into_iter_gives in
    let e = ap (λ it. left (enumerate_source it)) i ∙ ap left c.enumerate-place-items.ensures.source ∙ c.tracked_tlcs.ensures in
    let n = ap enumerate_count i ∙ c.enumerate-place-items.ensures.count in
    ((tt, tt, inl (omega (arith, n, ap length e, c.args.walk.now.few))), tt, rw n (walking_start _ _ _ _ _ _ _ _ _ _ c.tracked_count-pending.ensures e))

pub invariant_of-tracked : goal.invariant_of-tracked
invariant_of-tracked c = record { whole = omega (arith, (walking_at _ _ _ _ _ _ _ _ _ _ _ _ _ c.loop-place.invariant.2 _ _ c.in-Some.ensures.steps.0).whole) }

pub step-requires : goal.step-requires
step-requires c =
    let walk = c.args.walk.now in
    let below = (walking_at _ _ _ _ _ _ _ _ _ _ _ _ _ c.loop-place.invariant.2 _ _ c.in-Some.ensures.steps.0).below in
    let g : c.in-Some.place < length (tracked_tlcs (request_by walk.q.now)) = rw (← c.in-Some.ensures.steps.1) at below in
    (omega (arith, g, walk.few), reaches_all _ _ _ walk.reaches_all _ g)

pub returns-in_err-left : goal.returns-in_err-left
returns-in_err-left c =
    c.from_residual.ensures
    ∙ walking_chosen _ _ _ _ _ _ _ _ _ _ _ _ _ c.loop-place.invariant.2 _ _ c.in-Some.ensures.steps.0 _ (rw c.in-Some.ensures.steps.1 at c.step.ensures) _ c.in_err-left.was

pub loop-place-preserved : goal.loop-place-preserved
loop-place-preserved c =
    let s = c.in-Some.ensures.steps in
    let on = walking_on _ _ _ _ _ _ _ _ _ _ _ _ _ c.loop-place.invariant.2 _ _ s.0 _ (rw s.1 at c.step.ensures) _ _ c.in_ok-left.was (rw s.1 at c.noted-first.ensures) in
    (c.in-Some.ensures.goes.keeps, tt, rw (sym s.2) at on)

pub returns : goal.returns
returns c = walking_end _ _ _ _ _ _ _ _ _ _ _ _ _ c.loop-place.invariant.2 c.in-None.ensures.steps.0.0
