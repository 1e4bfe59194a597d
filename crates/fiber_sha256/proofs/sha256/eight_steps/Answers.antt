-- Eight steps, each from where the last ended.
use Rattle.std.proofs.Common.{◌≡◌, min}
use Rattle.fiber_sha256.specs.Sha256.{extended, turns}
use Rattle.fiber_sha256.proofs.Sha256Laws.{eight_by}
use Rattle.fiber_sha256.proofs.sha256.eight_steps.Goals as goal

pub returns : goal.returns
returns c =
    λ v₀ w₀.
    eight_by (λ n v w. (w ≡ extended (min n 48) w₀) × (v ≡ turns n v₀ (extended 48 w₀))) c.args.i
    (c.step-v.ensures v₀ w₀) (c.step-v-2.ensures v₀ w₀) (c.step-v-3.ensures v₀ w₀) (c.step-v-4.ensures v₀ w₀)
    (c.step-v-5.ensures v₀ w₀) (c.step-v-6.ensures v₀ w₀) (c.step-v-7.ensures v₀ w₀) (c.step.ensures v₀ w₀)
