-- To write what is left, from here, gives what the whole gives.
use mathlib.Core.Path.{ap, ◌∙◌}
use native.Mathlib.Omega.{arith}
use Rattle.fiber_witness.proofs.UpdateLaws.{rest_room}
use Rattle.fiber_choice.proofs.FirstRecordsLaws.{wells_here, firsts_start, firsts_room, firsts_next, firsts_end}
use Rattle.fiber_first.specs.inner.Left.{left}
use Rattle.fiber_first.proofs.built.put_first_tlcs.Goals as goal

pub loop-tlc-init : goal.loop-tlc-init
loop-tlc-init c = firsts_start _ _ _ _ c.requires.tlcs_valid (ap left c.into_iter-tlc-iterator.ensures.into_iter_gives ∙ c.settlement_tlcs-tlc-items.ensures)

pub slice_bounds-put_first-count : goal.slice_bounds-put_first-count
slice_bounds-put_first-count c =
    let i = c.loop-tlc.invariant in
    omega (arith, i.writing.same, c.requires.tlcs_in_bounds, firsts_room _ _ i c.args.h.valid c.in-Some.ensures.steps)

pub overflow_add-at : goal.overflow_add-at
overflow_add-at c =
    let i = c.loop-tlc.invariant in
    omega (arith, i.writing.same, c.requires.tlcs_in_bounds, c.record_len-size.ensures, firsts_room _ _ i c.args.h.valid c.in-Some.ensures.steps)

pub put_first-requires : goal.put_first-requires
put_first-requires c =
    let l = c.loop-tlc in
    let steps = c.in-Some.ensures.steps in
    let well = wells_here l.invariant.wells steps in
    (well.0, rest_room l.out l.at _ (omega (arith, l.invariant.writing.same, c.requires.tlcs_in_bounds, firsts_room _ _ l.invariant c.args.h.valid steps)))

pub loop-tlc-preserved : goal.loop-tlc-preserved
loop-tlc-preserved c =
    let i = c.loop-tlc.invariant in
    let steps = c.in-Some.ensures.steps in
    rw c.record_len-size.ensures
    (firsts_next _ _ i c.args.h.valid steps (omega (arith, i.writing.same, c.requires.tlcs_in_bounds, firsts_room _ _ i c.args.h.valid steps)) _ c.put_first.ensures)

pub returns : goal.returns
returns c = firsts_end _ _ c.loop-tlc.invariant c.in-None.ensures.steps.0
