-- Where there is room, the count, the records and the two shares are the first state.
-- The records have 65 + h bytes each, so that the shares go right behind them.
use mathlib.Core.Path.{sym, ◌∙◌}
use native.Mathlib.Omega.{arith}
use lib.ListN.{length-set}
use Rattle.fiber_choice.proofs.FirstRecordsLaws.{firsts_flat, data_puts}
use Rattle.fiber_first.proofs.first.settlement_data_witness.Goals as goal

pub put_first_tlcs-requires-clause-tlcs_in_bounds : goal.put_first_tlcs-requires-clause-tlcs_in_bounds
put_first_tlcs-requires-clause-tlcs_in_bounds c =
    let h = c.in_ok-h.h in
    simp length-set (omega (arith, rw c.record_len.ensures at c.if-out-size.false, firsts_flat h.bytes c.args.for_remote h.valid c.args.lent.now.tlcs.now))

pub returns : goal.returns
returns c =
    rw (c.record_len.ensures, ← c.in_ok-h.ensures)
    (data_puts _ _ _ c.in_ok-h.h.valid _ (sym c.valid_data.ensures ∙ c.if-not-valid_data.false) c.if-n-gt-MOST_COUNTED.false (rw c.record_len.ensures at c.if-out-size.false) _ _ _ _ _
    c.first_shares-shares.ensures.remote c.first_shares-shares.ensures.local c.put_first_tlcs.ensures (rw c.record_len.ensures at c.put.ensures) (rw c.record_len.ensures at c.put-2.ensures))
