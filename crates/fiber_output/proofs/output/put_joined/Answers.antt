-- The unlock, and in the part behind it the state after it, which the state before it is written over; then the new args.
use mathlib.Core.Path.{ap, ◌∙◌}
use Rattle.fiber_types.specs.declared.unlock.Unlock.{Unlock}
use Rattle.fiber_types.specs.Records.{witness_len}
use Rattle.fiber_choice.proofs.HandedLaws.{keep_listed, joined_puts}
use Rattle.fiber_output.proofs.output.put_joined.Goals as goal

pub returns : goal.returns
returns c =
    let a = c.args.lent.now in
    joined_puts a.q.now.h.bytes a.q.now.args.now a.q.now.tracked.now a.q.now.preimages.now a.shares.remote.now a.shares.local.now c.args.p a.args_long a.shares.remote_36 a.shares.local_36
    c.requires.pair_whole _ _ _ _ _ _ _ _ c.requires.p_in_bounds (c.witness_len-at.ensures ∙ ap (λ (u : Unlock). witness_len u.flag) c.unlock_of.ensures) c.put_unlock.ensures c.hash_after-hash.ensures.out_after c.hash_after-hash.ensures.value
    (rw keep_listed at c.put_tracked-size.ensures) c.put_args.ensures
