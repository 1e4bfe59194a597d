-- The parts are written one behind the other, and a state is so short that its whole length is counted.
use Rattle.std.proofs.Common.{◌≡◌, ap, ◌∙◌}
use native.Mathlib.Omega.{arith}
use Rattle.report.specs.declared.Text.{Text}
use Rattle.report.specs.Report.{state_text}
use Rattle.report.specs.inner.Written.{written}
use Rattle.report.proofs.ReportLaws.{writes, written_len, text_short}
use Rattle.report.proofs.Text.state.Goals as goal

pub returns : goal.returns
returns c =
    let text : c.share_line-2.new.self ≡ written c.args.self.now (state_text c.args.h c.args.state.now) = grind (arith, writes) in
    let short = text_short c.args.h c.args.state.now c.requires.whole.0 (omega (arith, c.type_inv.state 0)) in
    record { text = text; len = ap (λ (t : Text). t.len) text ∙ written_len _ _ c.requires.at_front short }
