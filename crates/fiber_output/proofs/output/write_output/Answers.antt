-- The plan says of the choice what the definitions say, and its three parts have the lengths that the code adds up.
use native.Mathlib.Omega.{arith}
use mathlib.Core.Path.{ap, ◌∙◌}
use Rattle.fiber_types.specs.declared.unlock.Unlock.{Unlock}
use Rattle.fiber_types.specs.Records.{witness_len}
use Rattle.fiber_choice.proofs.HandedLaws.{handed_short, handed_whole}
use Rattle.fiber_choice.proofs.SettlementsLaws.{within_below}
use Rattle.fiber_output.proofs.output.write_output.Goals as goal

pub plan_of-p-requires : goal.plan_of-p-requires
plan_of-p-requires c = within_below _ _ 255 _ (omega (arith, c.args.lent.now.few)) c.requires

pub returns-then-out-size : goal.returns-then-out-size
returns-then-out-size c =
    let a = c.args.lent.now in
    rw c.record_len.ensures
    (handed_short a.q.now.h.bytes a.q.now.args.now a.q.now.tracked.now a.q.now.preimages.now a.shares.remote.now a.shares.local.now _ _ _ c.tracked_count-n.ensures c.plan_of-p.ensures
    a.args_long a.shares.remote_36 a.shares.local_36 c.requires _ _ _ _ _ _ (c.witness_len-unlock_len.ensures ∙ ap (λ (u : Unlock). witness_len u.flag) c.unlock_of.ensures) c.new_args_len-args_len.ensures _ (rw c.record_len.ensures at c.if-out-size.true))

pub returns : goal.returns
returns c =
    let a = c.args.lent.now in
    rw c.record_len.ensures
    (handed_whole a.q.now.h.bytes a.q.now.args.now a.q.now.tracked.now a.q.now.preimages.now a.shares.remote.now a.shares.local.now _ _ _ c.tracked_count-n.ensures c.plan_of-p.ensures
    a.args_long a.shares.remote_36 a.shares.local_36 c.requires _ _ _ _ _ _ (c.witness_len-unlock_len.ensures ∙ ap (λ (u : Unlock). witness_len u.flag) c.unlock_of.ensures) c.new_args_len-args_len.ensures _ (rw c.record_len.ensures at c.if-out-size.false)
    _ _ _ c.amount_of.ensures c.record_size.ensures c.put_joined.ensures)
