-- A rotation by shifts, at any width.
-- Assumes nothing.
use mathlib.Core.Path.{◌≡◌, sym, ap, ap₂, ◌∙◌, subst}
use Prim.Native.Nat.{ℕ, ◌+◌, ◌-◌, ◌*◌, ◌/◌, ◌%◌, ◌^◌, ◌<◌}
use native.Mathlib.Nat.{add_comm, add-zero, mul-mod_left, mod-eq_of_lt}
use native.Mathlib.Omega.{arith}
use lib.Bits.{bit_or, or_shifted_r}
use lib.Pow.{mod-pow-add, shl-shr, shr_lt}
use Rattle.fiber_bytes.specs.Words.{rotated}

shifted : (x j k : ℕ) → x * 2 ^ j % 2 ^ (k + j) ≡ x % 2 ^ k * 2 ^ j
shifted x j k =
    mod-pow-add (x * 2 ^ j) k j
    ∙ ap₂ (λ (a b : ℕ). a % 2 ^ k * 2 ^ j + b) (shl-shr x j) (mul-mod_left x (2 ^ j))
    ∙ add-zero (x % 2 ^ k * 2 ^ j)

split : (x j k : ℕ) → x < 2 ^ (j + k) → bit_or (x / 2 ^ k) (x * 2 ^ j % 2 ^ (k + j)) ≡ x / 2 ^ k + x % 2 ^ k * 2 ^ j
split x j k h =
    ap (bit_or (x / 2 ^ k)) (shifted x j k)
    ∙ or_shifted_r (x % 2 ^ k) j (x / 2 ^ k) (shr_lt j k h)
    ∙ add_comm (x % 2 ^ k * 2 ^ j) (x / 2 ^ k)

-- x >> k | x << (w - k)
rotation : (w x k : ℕ) → x < 2 ^ w → k < w → bit_or (x / 2 ^ k) (x * 2 ^ (w - k) % 2 ^ w) ≡ rotated w k x
unfolding rotated
rotation w x k h l =
    let e : k + (w - k) ≡ w = omega arith in
    let d : (w - k) + k ≡ w = omega arith in
    subst (λ (n : ℕ). bit_or (x / 2 ^ k) (x * 2 ^ (w - k) % 2 ^ n) ≡ x / 2 ^ k + x % 2 ^ k * 2 ^ (w - k)) e
    (split x (w - k) k (subst (λ (n : ℕ). x < 2 ^ n) (sym d) h))

-- `rotate_right`, by any number of bits but none and all
pub rotated_right : (w x k : ℕ) → x < 2 ^ w → 0 < k → k < w → bit_or (x / 2 ^ (k % w)) (x * 2 ^ ((w - k % w) % w) % 2 ^ w) ≡ rotated w k x
rotated_right w x k h z l =
    let e : k % w ≡ k = mod-eq_of_lt l in
    let f : (w - k) % w ≡ w - k = mod-eq_of_lt (omega arith) in
    rw (e, f) (rotation w x k h l)
