-- A turn, and one more word of the schedule as long as there is one: word i is already as it is when all 48 are made.
use Rattle.std.proofs.Common.{refl}
use Rattle.fiber_sha256.proofs.Sha256Laws.{step_by, turn_by}
use Rattle.fiber_sha256.proofs.sha256.step.Goals.{then-i-lt48, else-i-lt48}
use Rattle.fiber_sha256.proofs.sha256.step.Goals as goal

pub returns : goal.returns
returns c =
    λ v₀ w₀ h.
    elim c.if-i-lt48.branch [
      | then-i-lt48 b ↦ step_by v₀ w₀ _ _ _ _ _ _ _ _ b.if-i-lt48.true b.sig1.ensures b.sig0.ensures refl b.w-is c.turn.ensures h
      | else-i-lt48 b ↦ turn_by v₀ w₀ _ _ _ _ _ b.if-i-lt48.false b.w-is c.turn.ensures h
    ]
