-- What the walk chooses is among the tracked TLCs, so it can be handed out.
use native.Mathlib.Omega.{arith}
use mathlib.Core.Path.{sym, ◌∙◌}
use lib.ListN.{length}
use Prim.Native.Nat.{◌≤◌}
use Rattle.fiber_refusal.proofs.PassedLaws.{passed_on}
use Rattle.fiber_since.proofs.EpochLaws.{third_within}
use Rattle.fiber_choice.specs.Request.{tracked_tlcs}
use Rattle.fiber_choice.specs.inner.Request.{request_by}
use Rattle.fiber_choice.proofs.SettlementsLaws.{within_below, ByThirds, thirds_nothing, thirds_within, thirds_chosen}
use Rattle.fiber_walk.proofs.first.first_thirds.Goals as goal
use Rattle.fiber_walk.proofs.first.first_thirds.Goals.{After-walked}

pub invariant_of-dues_by-2 : goal.invariant_of-dues_by-2
invariant_of-dues_by-2 c = record { bounded = third_within _ 1 (omega arith) c.args.full.bounded _ _ c.mul.ensures c.in_ok-third.was }

pub invariant_of-dues_by-3 : goal.invariant_of-dues_by-3
invariant_of-dues_by-3 c = record { bounded = third_within _ 2 (omega arith) c.args.full.bounded _ _ c.mul-2.ensures c.in_ok-two_thirds.was }

by_thirds : (c : After-walked) → ByThirds (request_by c.args.q.now) c.args.full.epoch c.in_ok-third.third c.in_ok-two_thirds.two_thirds c.dues_by-dues.result c.walked.result
by_thirds c = record {
  third_is = sym c.mul.ensures ∙ c.in_ok-third.was;
  two_is = sym c.mul-2.ensures ∙ c.in_ok-two_thirds.was;
  dues = c.dues_by-dues.ensures;
  picks = c.walked.ensures;
}

pub returns-in_err-chosen : goal.returns-in_err-chosen
returns-in_err-chosen c =
    rw (passed_on _ c.from_residual-in_err-chosen.ensures.1) (thirds_nothing (by_thirds (goal.at.returns-in_err-chosen c).After-walked) _ _ c.in_err-chosen.was)

pub first_place-place-requires : goal.first_place-place-requires
first_place-place-requires c =
    let l : length (tracked_tlcs (request_by c.args.q.now)) ≤ 255 = omega (arith, c.requires.few) in
    within_below _ _ 255 _ l (thirds_within (by_thirds (goal.at.first_place-place-requires c).After-walked) c.in_ok-chosen.was c.requires.as_many)

pub write_output-requires : goal.write_output-requires
write_output-requires c = thirds_within (by_thirds (goal.at.write_output-requires c).After-walked) c.in_ok-chosen.was c.requires.as_many

pub returns : goal.returns
returns c =
    thirds_chosen (by_thirds (goal.at.returns c).After-walked) c.in_ok-chosen.was _ _ _ _ _ c.first_shares-built.ensures.remote c.first_shares-built.ensures.local
    c.delay_for-delay.ensures c.first_place-place.ensures _ _ c.write_output.ensures
