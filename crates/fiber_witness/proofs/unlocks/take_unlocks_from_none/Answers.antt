-- Each turn takes one unlock: to take the rest, from what was taken, gives what taking all gives.
-- The marks say what the list of settled places says. Behind an unlock that is cut short there is none.
use Prim.Native.Nat.{◌+◌, ◌≤◌}
use mathlib.Core.Path.{◌≡◌, sym, ◌∙◌}
use native.Mathlib.Omega.{arith}
use lib.ListN.{length}
use Rattle.fiber_types.proofs.RoundTrips.{unlock_refused}
use Rattle.fiber_witness.specs.Witness.{unlock_len}
use Rattle.fiber_witness.proofs.WitnessLaws.{unlock_long, unlock_whole}
use Rattle.fiber_witness.proofs.UpdateLaws.{Taking, taking_start, taking_end, taking_local, taking_remote, taking_beyond, taking_twice, taking_tlc}
use Rattle.fiber_witness.proofs.unlocks.take_unlocks_from_none.Goals as goal
use Rattle.fiber_witness.proofs.unlocks.take_unlocks_from_none.Goals.{then-b-eq-UNLOCK_LOCAL, else-b-eq-UNLOCK_LOCAL+then-b-eq-UNLOCK_REMOTE, else-b-eq-UNLOCK_LOCAL+else-b-eq-UNLOCK_REMOTE+else-settled-b+else-settled-b-2}

pub loop-at-init : goal.loop-at-init
loop-at-init c = taking_start _ _ _ c.requires

pub returns-then-settled-b : goal.returns-then-settled-b
returns-then-settled-b c =
    let l = c.loop-at.invariant in
    rw l.long (taking_beyond _ _ _ _ _ _ _ l (omega arith) c.if-b-eq-UNLOCK_LOCAL.false c.if-b-eq-UNLOCK_REMOTE.false (omega (arith, l.long, c.if-settled-b.true)))

pub returns-then-settled-b-2 : goal.returns-then-settled-b-2
returns-then-settled-b-2 c =
    let l = c.loop-at.invariant in
    rw l.long (taking_twice _ _ _ _ _ _ _ l (omega arith) c.if-b-eq-UNLOCK_LOCAL.false c.if-b-eq-UNLOCK_REMOTE.false (omega (arith, l.long, c.if-settled-b.false)) c.if-settled-b-2.true)

-- it is whole
whole : (c : goal.After-witness_len-at)
    → (c.witness_len-at.result ≡ unlock_len c.args.w.now c.loop-at.at) × (c.loop-at.at + unlock_len c.args.w.now c.loop-at.at ≤ length c.args.w.now)
whole c = unlock_whole _ _ _ _ (sym c.read.ensures ∙ c.in-Ok.is) c.witness_len-at.ensures

pub overflow_add-at : goal.overflow_add-at
overflow_add-at c = omega (arith, whole c)

pub loop-at-smaller : goal.loop-at-smaller
loop-at-smaller c =
    omega (arith, whole c, unlock_long c.args.w.now c.loop-at.at)

pub loop-at-preserved : goal.loop-at-preserved
loop-at-preserved c =
    let l = c.loop-at in
    rw (whole c).0
    (elim c.if-b-eq-UNLOCK_LOCAL.branch [
      | then-b-eq-UNLOCK_LOCAL w ↦
          rw (w.settled-is, w.remote-is, w.local-is) (taking_local _ _ _ _ _ _ _ l.invariant (omega arith) w.if-b-eq-UNLOCK_LOCAL.true)
      | else-b-eq-UNLOCK_LOCAL+then-b-eq-UNLOCK_REMOTE w ↦
          rw (w.settled-is, w.remote-is, w.local-is) (taking_remote _ _ _ _ _ _ _ l.invariant (omega arith) w.if-b-eq-UNLOCK_LOCAL.false w.if-b-eq-UNLOCK_REMOTE.true)
      | else-b-eq-UNLOCK_LOCAL+else-b-eq-UNLOCK_REMOTE+else-settled-b+else-settled-b-2 w ↦
          rw (w.settled-is, w.remote-is, w.local-is)
          (taking_tlc _ _ _ _ _ _ _ l.invariant (omega arith) w.if-b-eq-UNLOCK_LOCAL.false w.if-b-eq-UNLOCK_REMOTE.false (omega (arith, l.invariant.long, w.if-settled-b.false)) w.if-settled-b-2.false)
    ])

pub returns-after-loop-at : goal.returns-after-loop-at
returns-after-loop-at c = rw c.loop-at.invariant.long (taking_end _ _ _ _ _ _ _ c.loop-at.invariant c.loop-at-test.false)

pub returns-in_default : goal.returns-in_default
returns-in_default c =
    let l = c.loop-at in
    let here : Taking (length c.args.settled.now) c.args.w.now c.args.first_unlock c.if-b-eq-UNLOCK_LOCAL.settled c.if-b-eq-UNLOCK_LOCAL.remote c.if-b-eq-UNLOCK_LOCAL.local (l.at + unlock_len c.args.w.now l.at) =
    elim c.if-b-eq-UNLOCK_LOCAL.branch [
      | then-b-eq-UNLOCK_LOCAL w ↦
          rw (w.settled-is, w.remote-is, w.local-is) (taking_local _ _ _ _ _ _ _ l.invariant (omega arith) w.if-b-eq-UNLOCK_LOCAL.true)
      | else-b-eq-UNLOCK_LOCAL+then-b-eq-UNLOCK_REMOTE w ↦
          rw (w.settled-is, w.remote-is, w.local-is) (taking_remote _ _ _ _ _ _ _ l.invariant (omega arith) w.if-b-eq-UNLOCK_LOCAL.false w.if-b-eq-UNLOCK_REMOTE.true)
      | else-b-eq-UNLOCK_LOCAL+else-b-eq-UNLOCK_REMOTE+else-settled-b+else-settled-b-2 w ↦
          rw (w.settled-is, w.remote-is, w.local-is)
          (taking_tlc _ _ _ _ _ _ _ l.invariant (omega arith) w.if-b-eq-UNLOCK_LOCAL.false w.if-b-eq-UNLOCK_REMOTE.false (omega (arith, l.invariant.long, w.if-settled-b.false)) w.if-settled-b-2.false)
    ] in
    let cut = unlock_refused c.args.w.now l.at c.in_default.field-0 (sym c.read.ensures ∙ c.in_default.is) in
    rw here.long (taking_end _ _ _ _ _ _ _ here (omega (arith, cut.0)))
