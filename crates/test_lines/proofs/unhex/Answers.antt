-- What is left to write, from here, gives what the whole gives; bytes without room change nothing.
use Rattle.std.proofs.Common.{◌/◌, length, ◌∙◌, length-set, arith}
use Rattle.test_lines.proofs.LinesLaws.{unhex_more, unhex_end}
use Rattle.test_lines.proofs.unhex.Goals as goal

pub loop-i-preserved : goal.loop-i-preserved
loop-i-preserved c =
    let l = c.loop-i in
    (simp length-set l.invariant.0, unhex_more c.args.s.now l.out (length c.args.s.now / 2) l.i (omega arith) _ _ (omega arith) c.hex_at.ensures ∙ l.invariant.1)

pub returns-clause-out_after : goal.returns-clause-out_after
returns-clause-out_after c =
    let l = c.loop-i in
    unhex_end c.args.s.now l.out (length c.args.s.now / 2) l.i (omega arith) ∙ l.invariant.1
