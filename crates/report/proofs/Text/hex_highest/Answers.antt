-- The last byte's digits, and then those of the bytes before it.
use Rattle.std.proofs.Common.{rules}
use Rattle.report.proofs.ReportLaws.{left_more, left_none, highest_turn, highest_end}
use Rattle.report.proofs.Text.hex_highest.Goals as goal

pub loop-byte-preserved : goal.loop-byte-preserved
loop-byte-preserved c =
    let l = c.loop-byte in
    (search rules, search rules, left_more l.self _ _ _ _ (rw (highest_turn l.byte-iterator.iter.rest.now _ _ (c.in-Some.ensures.steps)) at l.invariant.2) c.hex_byte.ensures)

pub returns : goal.returns
returns c =
    let l = c.loop-byte in
    left_none l.self _ _ (rw (highest_end l.byte-iterator.iter.rest.now (c.in-None.ensures.steps).0) at l.invariant.2)
