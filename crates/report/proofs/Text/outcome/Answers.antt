-- What the update says of the witness, or that it was turned down.
use Rattle.std.proofs.Common.{ap, ◌∙◌, sym}
use Rattle.report.specs.declared.Text.{Text}
use native.Mathlib.Omega.{arith}
use Rattle.report.proofs.ReportLaws.{left_some, left_whole, says_state, says_refused, written_len, refused_short}
use Rattle.report.proofs.Text.outcome.Goals as goal

pub bounds-input-0 : goal.bounds-input-0
bounds-input-0 c = omega (arith, left_some c.args.input.now c.args.buffer.now c.in-Ok.len (sym c.in-Ok.is ∙ c.updated.ensures.0))

pub state-requires-clause-whole : goal.state-requires-clause-whole
state-requires-clause-whole c =
    left_whole _ _ _ (sym c.in-Ok.is ∙ c.updated.ensures.0) _ _ _ c.updated.ensures.1 c.part_of.ensures c.from.ensures

pub returns-in-Ok : goal.returns-in-Ok
returns-in-Ok c =
    let s = says_state _ _ _ (sym c.in-Ok.is ∙ c.updated.ensures.0) _ _ _ c.updated.ensures.1 c.part_of.ensures c.from.ensures in
    rw (← s.0) (record { text = c.state.ensures.text; len = c.state.ensures.len; buffer = s.1 })

pub returns-in-Err : goal.returns-in-Err
returns-in-Err c =
    let s = says_refused _ _ _ _ (sym c.in-Err.is ∙ c.updated.ensures.0) c.updated.ensures.1 in
    rw (← s.0, ← c.number.ensures, ← c.place.ensures)
    (record { text = c.refused.ensures; len = ap (λ (t : Text). t.len) c.refused.ensures ∙ written_len _ _ c.requires (refused_short _ _); buffer = s.1 })
