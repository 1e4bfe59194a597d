-- `ch` and `maj` in forms with fewer operations than FIPS 180-4 writes, proved bit by bit.
-- Assumes nothing.
use Rattle.std.proofs.Common.{◌≡◌, ℕ, zero, suc, ◌+◌, ◌-◌, ◌*◌, ◌/◌, ◌%◌, ◌^◌, ◌<◌, ◌≤◌, refl, pow-suc, arith}
use lib.Bits.{bit_and, bit_xor, and_shr, xor_shr, and_mod, xor_mod}

and_half : (a b : ℕ) → bit_and a b / 2 ≡ bit_and (a / 2) (b / 2)
and_half a b = and_shr a b 1

xor_half : (a b : ℕ) → bit_xor a b / 2 ≡ bit_xor (a / 2) (b / 2)
xor_half a b = xor_shr a b 1

and_bit : (a b : ℕ) → bit_and a b % 2 ≡ bit_and (a % 2) (b % 2)
and_bit a b = and_mod a b 1

xor_bit : (a b : ℕ) → bit_xor a b % 2 ≡ bit_xor (a % 2) (b % 2)
xor_bit a b = xor_mod a b 1

same : (a b : ℕ) → a / 2 ≡ b / 2 → a % 2 ≡ b % 2 → a ≡ b
same a b e f = omega arith

bit : (P : ℕ → Type 0) → P 0 → P 1 → (x : ℕ) → x < 2 → P x
bit P a b zero h = a
bit P a b (suc zero) h = b
bit P a b (suc (suc x)) h = absurd (omega arith)

-- what holds of every three bits holds of the lowest bits of any numbers
bits : (P : ℕ → ℕ → ℕ → Type 0) → P 0 0 0 → P 0 0 1 → P 0 1 0 → P 0 1 1 → P 1 0 0 → P 1 0 1 → P 1 1 0 → P 1 1 1 → (x y z : ℕ) → P (x % 2) (y % 2) (z % 2)
bits P a b c d e f g h x y z =
    let i : x % 2 < 2 = omega arith in
    let j : y % 2 < 2 = omega arith in
    let k : z % 2 < 2 = omega arith in
    bit (λ m. P m (y % 2) (z % 2))
    (bit (λ m. P 0 m (z % 2)) (bit (P 0 0) a b (z % 2) k) (bit (P 0 1) c d (z % 2) k) (y % 2) j)
    (bit (λ m. P 1 m (z % 2)) (bit (P 1 0) e f (z % 2) k) (bit (P 1 1) g h (z % 2) k) (y % 2) j)
    (x % 2) i

maj_to : (n x y z : ℕ) → x ≤ n → y ≤ n → z ≤ n → bit_xor y (bit_and (bit_xor x y) (bit_xor y z)) ≡ bit_xor (bit_xor (bit_and x y) (bit_and x z)) (bit_and y z)
maj_to zero x y z h i j =
    let a : x ≡ 0 = omega arith in
    let b : y ≡ 0 = omega arith in
    rw (a, b)
maj_to (suc n) x y z h i j =
    same _ _
    (simp (and_half, xor_half) (maj_to n (x / 2) (y / 2) (z / 2) (omega arith) (omega arith) (omega arith)))
    (simp (and_bit, xor_bit) (bits (λ x y z. bit_xor y (bit_and (bit_xor x y) (bit_xor y z)) ≡ bit_xor (bit_xor (bit_and x y) (bit_and x z)) (bit_and y z)) refl refl refl refl refl refl refl refl x y z))

pub maj_by : (x y z : ℕ) → bit_xor y (bit_and (bit_xor x y) (bit_xor y z)) ≡ bit_xor (bit_xor (bit_and x y) (bit_and x z)) (bit_and y z)
maj_by x y z = maj_to (x + y + z) x y z (omega arith) (omega arith) (omega arith)

-- m is the complement of x at k bits
ch_to : (k x m y z : ℕ) → x + m + 1 ≡ 2 ^ k → z < 2 ^ k → bit_xor z (bit_and x (bit_xor y z)) ≡ bit_xor (bit_and x y) (bit_and m z)
ch_to zero x m y z h i =
    let a : x ≡ 0 = omega arith in
    let b : m ≡ 0 = omega arith in
    let c : z ≡ 0 = omega arith in
    rw (a, b, c)
ch_to (suc k) x m y z h i =
    let p : 2 ^ suc k ≡ 2 ^ k * 2 = pow-suc 2 k in
    let c : m % 2 ≡ 1 - x % 2 = omega arith in
    same _ _
    (simp (and_half, xor_half) (ch_to k (x / 2) (m / 2) (y / 2) (z / 2) (omega arith) (omega arith)))
    (simp (and_bit, xor_bit, c) (bits (λ x y z. bit_xor z (bit_and x (bit_xor y z)) ≡ bit_xor (bit_and x y) (bit_and (1 - x) z)) refl refl refl refl refl refl refl refl x y z))

pub ch_by : (x y z : ℕ) → x < 2 ^ 32 → z < 2 ^ 32 → bit_xor z (bit_and x (bit_xor y z)) ≡ bit_xor (bit_and x y) (bit_and (2 ^ 32 - 1 - x) z)
ch_by x y z h i = ch_to 32 x (2 ^ 32 - 1 - x) y z (omega arith) i
