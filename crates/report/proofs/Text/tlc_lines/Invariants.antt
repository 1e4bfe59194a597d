-- The lines of the records from here on are left.
use Rattle.std.proofs.Common.{◌≡◌}
use Rattle.report.proofs.ReportLaws.{Left, lines}
use Rattle.report.proofs.Text.tlc_lines.Given as goal

abbrev pub invariant-loop-i : goal.invariant-loop-i
invariant-loop-i l =
    (goal.iterator-loop-i).can_next l.i-iterator ×
    (goal.iterator-loop-i).is_finite l.i-iterator ×
    (l.i-iterator.iter.size ≡ l.size) ×
    Left l.self (lines l.size l.i-iterator.count l.i-iterator.iter.rest.now) l.initial.self (lines l.size 0 l.tlcs)
