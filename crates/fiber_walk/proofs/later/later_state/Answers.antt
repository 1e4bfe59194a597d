-- The rows before the walk, then the walk, then what is handed out.
-- Where 254 stand at most, and they are the tracked ones, no more are tracked.
use Rattle.fiber_refusal.proofs.PassedLaws.{passed_on}
use Rattle.fiber_witness.specs.inner.Records.{standing_of}
use Rattle.fiber_choice.specs.inner.Request.{request_by}
use Rattle.fiber_choice.proofs.SettlementsLaws.{Begun, state_begun, state_stops, state_few, state_nothing, state_within, state_chosen}
use Rattle.fiber_walk.proofs.later.later_state.Goals as goal
use Rattle.fiber_walk.proofs.later.later_state.Goals.{After-later_ready}

begun : (c : After-later_ready)
    → Begun (request_by c.args.q.now) (standing_of c.args.left.now.records) c.args.left.now.shares.remote.now c.args.left.now.shares.local.now c.is_last-last.result c.later_ready.result
begun c = state_begun c.sides.ensures.ours c.sides.ensures.other c.is_last-last.ensures c.later_ready.ensures

pub returns-in_err-later_ready : goal.returns-in_err-later_ready
returns-in_err-later_ready c =
    rw (passed_on _ c.from_residual.ensures.1) (state_stops (begun (goal.at.returns-in_err-later_ready c).After-later_ready) _ _ _ c.in_err-later_ready.was)

pub later_choice-requires : goal.later_choice-requires
later_choice-requires c = state_few (begun (goal.at.later_choice-requires c).After-later_ready) c.in_ok-later_ready.was

pub returns-in_err-chosen : goal.returns-in_err-chosen
returns-in_err-chosen c =
    rw (passed_on _ c.from_residual-in_err-chosen.ensures.1) (state_nothing (begun (goal.at.returns-in_err-chosen c).After-later_ready) c.in_ok-later_ready.was c.later_choice.ensures _ _ _ c.in_err-chosen.was)

pub invariant_of-lent : goal.invariant_of-lent
invariant_of-lent c = record { few = state_few (begun (goal.at.invariant_of-lent c).After-later_ready) c.in_ok-later_ready.was; args_long = c.requires }

pub write_output-requires : goal.write_output-requires
write_output-requires c = state_within (begun (goal.at.write_output-requires c).After-later_ready) c.in_ok-later_ready.was c.later_choice.ensures c.in_ok-chosen.was

pub returns : goal.returns
returns c = state_chosen (begun (goal.at.returns c).After-later_ready) c.in_ok-later_ready.was c.later_choice.ensures c.in_ok-chosen.was _ _ _ c.later_place-place.ensures _ _ c.write_output.ensures
