-- The reading decides, then the unlocks; a witness that is read whole has its TLCs and its shares, and its count is a byte.
use native.Mathlib.Omega.{arith}
use mathlib.Core.Path.{refl, sym, ◌∙◌}
use Rattle.fiber_refusal.proofs.PassedLaws.{passed_on}
use Rattle.fiber_witness.proofs.UpdateLaws.{marks_none, marks_front}
use Rattle.fiber_witness.proofs.LeavingLaws.{Reads, left_unread, left_few, left_room, left_faulty, left_fine}
use Rattle.fiber_witness.proofs.left.state_left.Goals as goal
use Rattle.fiber_witness.proofs.left.state_left.Goals.{After-take_unlocks_from_none}

pub returns-in_err-layout : goal.returns-in_err-layout
returns-in_err-layout c =
    rw (passed_on _ c.from_residual.ensures.1) (left_unread _ _ _ (sym c.read.ensures ∙ c.in_err-layout.was))

pub take_unlocks_from_none-requires : goal.take_unlocks_from_none-requires
take_unlocks_from_none-requires c = marks_front _ _ _ (marks_none 256)

-- the witness that is read, with its marks once the unlocks are taken
whole : (c : After-take_unlocks_from_none) → Reads c.args.h.bytes c.args.w.now c.in_ok-layout.layout c.take_unlocks_from_none.new.settled
whole c = record {
  is = sym c.read.ensures ∙ c.in_ok-layout.was;
  byte = c.type_inv.w 1;
  long = c.take_unlocks_from_none.auto.settled;
}

pub returns-in_err-taken : goal.returns-in_err-taken
returns-in_err-taken c =
    rw (passed_on _ c.from_residual-in_err-taken.ensures.1)
    (left_faulty (whole (goal.at.returns-in_err-taken c).After-take_unlocks_from_none) _ (rw c.in_err-taken.was at (c.take_unlocks_from_none.ensures c.in_ok-layout.layout.share_place)))

pub invariant_of-records : goal.invariant_of-records
invariant_of-records c =
    let read = whole (goal.at.invariant_of-records c).After-take_unlocks_from_none in
    record {
      short = c.args.h.small;
      few = left_few read;
      near = omega (arith, c.record_len.ensures, c.args.h.small);
      whole = rw c.record_len.ensures (omega (arith, left_room read));
      counted = c.count_standing.ensures;
    }

pub returns : goal.returns
returns c =
    left_fine (whole (goal.at.returns c).After-take_unlocks_from_none) _ (rw c.in_ok-taken.was at (c.take_unlocks_from_none.ensures c.in_ok-layout.layout.share_place))
    _ refl refl (rw c.record_len.ensures refl) (rw c.at.ensures.remote at c.left-shares.ensures.remote) (rw c.at.ensures.local at c.left-shares.ensures.local)
