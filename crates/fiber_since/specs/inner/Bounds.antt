-- How the code keeps products within 64 bits.
use Rattle.std.specs.Prelude.{ℕ, ◌*◌, ◌^◌, cond, ltb, Result, Ok, Err}
use Rattle.fiber_refusal.specs.declared.Refusal.{Refusal}
use Rattle.fiber_refusal.specs.declared.Refusal.TheVariants.{ScaledAbove}

-- a product that has 64 bits, else 8
unfoldable pub product : ℕ → ℕ → Result ℕ Refusal
product a b = cond (ltb (a * b) (2 ^ 64)) (Ok (a * b)) (Err ScaledAbove)
