-- The next byte's digits, and then those behind it.
use Rattle.std.proofs.Common.{rules}
use Rattle.report.proofs.ReportLaws.{left_more, left_none, hex_turn, hex_end}
use Rattle.report.proofs.Text.hex.Goals as goal

pub loop-byte-preserved : goal.loop-byte-preserved
loop-byte-preserved c =
    let l = c.loop-byte in
    left_more l.self _ _ _ _ (rw (hex_turn c.args.bytes.now l.byte-index (search rules)) at l.invariant) c.hex_byte.ensures

pub returns : goal.returns
returns c =
    let l = c.loop-byte in
    left_none l.self _ _ (rw (hex_end c.args.bytes.now l.byte-index (search rules)) at l.invariant)
