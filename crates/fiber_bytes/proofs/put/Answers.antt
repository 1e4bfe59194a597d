-- Bytes are stored one after the other; those without room change nothing.
use Rattle.std.proofs.Common.{refl, ◌∙◌, rules, arith, length}
use lib.ListN.{length-set}
use native.Mathlib.Nat.{add-zero}
use Rattle.fiber_bytes.proofs.BytesLaws.{put_more, put_end, sets_capped}
use Rattle.fiber_bytes.proofs.put.Goals as goal

pub loop-i-init : goal.loop-i-init
loop-i-init c =
    let a = c.args in
    (refl, simp add-zero (rw c.min-start.ensures (sets_capped a.src.now a.out.now a.at (length a.out.now) (omega arith))))

pub loop-i-preserved : goal.loop-i-preserved
loop-i-preserved c =
    let l = c.loop-i in
    (simp length-set l.invariant.0, put_more l.out c.args.src.now c.min-start.result l.i (search rules) ∙ l.invariant.1)

pub returns : goal.returns
returns c =
    let l = c.loop-i in
    put_end l.out c.args.src.now c.min-start.result l.i (omega (arith, l.invariant.0)) ∙ l.invariant.1
