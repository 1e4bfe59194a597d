-- Where there is room, the record is written.
use mathlib.Core.Path.{sym, ◌∙◌}
use native.Mathlib.Omega.{arith}
use Rattle.fiber_choice.proofs.FirstRecordsLaws.{tlc_whole}
use Rattle.fiber_first.proofs.first.settlement_tlc_witness.Goals as goal

pub returns : goal.returns
returns c =
    let a = c.args in
    let h = c.in_ok-h.h in
    let size = c.record_len-size.ensures in
    let n = c.if-tlc-ne-SETTLEMENT_TLC.false in
    rw (size, ← c.in_ok-h.ensures)
    (tlc_whole _ _ _ _ h.valid n (sym c.is_valid_settlement.ensures ∙ c.if-not-is_valid_settlement.false) (omega (arith, size, c.if-out-size.false)) _
    c.put_first.ensures)
