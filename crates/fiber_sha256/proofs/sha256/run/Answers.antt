-- The loop makes eight turns at a time, and all words of the schedule.
use Rattle.std.proofs.Common.{◌≡◌, ℕ, ◌+◌, ◌*◌, min, refl, arith, rules, subst}
use Rattle.fiber_sha256.specs.Sha256.{extended, turns}
use Rattle.fiber_sha256.proofs.sha256.run.Goals as goal

pub loop-i-init : goal.loop-i-init
unfolding extended turns
loop-i-init c = (omega arith, (refl, refl))

pub loop-i-preserved : goal.loop-i-preserved
loop-i-preserved c =
    let l = c.loop-i in
    let w = c.args.w.now in
    let n = c.eight_steps-next in
    let e : 8 * l.i + 8 ≡ 8 * (l.i + 1) = omega arith in (
      search rules,
      subst (λ (j : ℕ). (n.new.w ≡ extended (min j 48) w) × (n.result ≡ turns j c.args.v (extended 48 w))) e (n.ensures c.args.v w l.invariant.1),
    )

pub returns : goal.returns
returns c =
    let e : c.loop-i.i ≡ 8 = omega arith in
    rw e at c.loop-i.invariant.1.1
