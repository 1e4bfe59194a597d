-- The digits of the bytes before here are left.
use Rattle.report.specs.Report.{hex_highest}
use Rattle.report.proofs.ReportLaws.{Left}
use Rattle.report.proofs.Text.hex_highest.Given as goal

abbrev pub invariant-loop-byte : goal.invariant-loop-byte
invariant-loop-byte l =
    (goal.iterator-loop-byte).can_next l.byte-iterator ×
    (goal.iterator-loop-byte).is_finite l.byte-iterator × Left l.self (hex_highest l.byte-iterator.iter.rest.now) l.initial.self (hex_highest l.bytes)
