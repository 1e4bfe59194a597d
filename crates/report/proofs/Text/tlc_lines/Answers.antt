-- The next record's line, and then those behind it.
use Rattle.std.proofs.Common.{rules, ◌∙◌}
use Rattle.report.proofs.ReportLaws.{left_more, left_none, lines_turn, lines_end}
use Rattle.report.proofs.Text.tlc_lines.Goals as goal

pub loop-i-preserved : goal.loop-i-preserved
loop-i-preserved c =
    let i = c.loop-i.invariant in
    let s = c.in-Some.ensures.steps in
    (search rules, search rules, search rules, left_more _ _ _ _ _ (rw (lines_turn c.args.size _ _ _ _ _ _ c.requires.size_is_positive s.0.1.0 (s.0.1.1 ∙ i.2) s.1 s.2) at i.3) c.tlc_line.ensures)

pub returns : goal.returns
returns c =
    let i = c.loop-i.invariant in
    let s = c.in-None.ensures.steps in
    left_none _ _ _ (rw (lines_end c.args.size c.loop-i.i-iterator.count c.loop-i.i-iterator.iter.rest.now (rw i.2 at s.0.1.0)) at i.3)
