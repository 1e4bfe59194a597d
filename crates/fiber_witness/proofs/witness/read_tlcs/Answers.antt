-- Where the witness ends before the share part, the division says how many records are whole, and the next is turned down.
-- Where all are whole, the shares follow them.
use mathlib.Core.Path.{refl, ◌∙◌}
use native.Mathlib.Omega.{arith}
use Rattle.fiber_witness.proofs.WitnessLaws.{whole_cut, shares_cut, shares_whole}
use Rattle.fiber_witness.proofs.witness.read_tlcs.Goals as goal

pub returns-then-w-share_place : goal.returns-then-w-share_place
returns-then-w-share_place c =
    rw c.record_len-size.ensures (whole_cut _ _ _ _ refl c.requires.0 (rw c.record_len-size.ensures at c.if-w-share_place.true))

pub returns-then-w-share_place-lt-SHARES : goal.returns-then-w-share_place-lt-SHARES
returns-then-w-share_place-lt-SHARES c =
    let room = rw c.record_len-size.ensures at c.if-w-share_place.false in
    let short = rw c.record_len-size.ensures at c.if-w-share_place-lt-SHARES.true in
    rw c.record_len-size.ensures (shares_cut c.args.h.bytes c.args.w.now c.args.n room (omega arith))

pub returns : goal.returns
returns c =
    let room = rw c.record_len-size.ensures at c.if-w-share_place.false in
    let shares = rw c.record_len-size.ensures at c.if-w-share_place-lt-SHARES.false in
    c.read_unlocks.ensures ∙ rw c.record_len-size.ensures (shares_whole c.args.h.bytes c.args.w.now c.args.n room (omega arith))
