-- The digits of the bytes from here on are left.
use Rattle.std.proofs.Common.{drop}
use Rattle.report.specs.Report.{hex}
use Rattle.report.proofs.ReportLaws.{Left}
use Rattle.report.proofs.Text.hex.Given as goal

abbrev pub invariant-loop-byte : goal.invariant-loop-byte
invariant-loop-byte l = Left l.self (hex (drop l.byte-index l.bytes)) l.initial.self (hex l.bytes)
