-- Epochs: fields, scaling and the due test; docs/SCOPE.md, modules 2 to 4, with the numbers of its table.
use Rattle.std.specs.Prelude.{ℕ, ◌+◌, ◌*◌, ◌/◌, ◌%◌, ◌^◌, ◌<◌, Bool, cond, ◌&&◌, ◌||◌, eqb, ltb, leb, Result, Ok, Err}
use Rattle.fiber_refusal.specs.declared.Refusal.{Refusal}
use Rattle.fiber_refusal.specs.declared.Refusal.TheVariants.{LengthZero, ScaledAbove, NotWell}
use Rattle.fiber_since.specs.declared.epoch.Epoch.{Epoch}

abbrev pub epoch : ℕ → ℕ → ℕ → Epoch
epoch number index length = record { number = number; index = index; length = length }

-- an epoch value has number (bits 0 to 23), index (24 to 39) and length (40 to 55)
unfoldable pub epoch_of : ℕ → Epoch
epoch_of v = record { number = v % 2 ^ 24; index = v / 2 ^ 24 % 2 ^ 16; length = v / 2 ^ 40 % 2 ^ 16 }

-- each field within its bits
unfoldable pub within_bits : Epoch → Bool
within_bits e = ltb e.number (2 ^ 24) && ltb e.index (2 ^ 16) && ltb e.length (2 ^ 16)

-- ---- scaling

unfoldable pub units : Epoch → ℕ
units e = e.number * e.length + e.index

-- s: D div 1800 + 1 where D > 1800, else 1
unfoldable pub factor : ℕ → ℕ
factor d = cond (ltb 1800 d) (d / 1800 + 1) 1

-- whole part N div D, rest R = N mod D; (N div D, R div s, D div s)
unfoldable pub normalized : ℕ → ℕ → Result Epoch Refusal
normalized n d =
    cond (eqb d 0) (Err LengthZero)
    (cond (ltb 16777215 (n / d)) (Err ScaledAbove)
    (Ok (record { number = n / d; index = n % d / factor d; length = d / factor d })))

-- in the order 14, N (8), D (8), 7, whole part (8), with N = numerator × units and D = denominator × length
unfoldable pub scaled : Epoch → ℕ → ℕ → Result Epoch Refusal
scaled delay numerator denominator =
    let n = numerator * units delay in
    let d = denominator * delay.length in
    cond (within_bits delay)
    (cond (leb (2 ^ 64) n) (Err ScaledAbove)
    (cond (leb (2 ^ 64) d) (Err ScaledAbove)
    (normalized n d)))
    (Err NotWell)

-- ---- the due test

-- what the due test has found before it compares: each field within its bits, and no length of 0
pub record Bounded (e : Epoch) : Type 0 where
  pub number : e.number < 16777216
  pub index : e.index < 65536
  pub length : e.length < 65536
  pub some : 0 < e.length

-- header + delay ≤ current, as fractions number + index / length, cross-multiplied
unfoldable pub due : Epoch → Epoch → Epoch → Bool
due header delay current =
    leb ((units header * delay.length + units delay * header.length) * current.length) (units current * (header.length * delay.length))

-- a length of 0
abbrev pub no_length : Epoch → Bool
no_length e = eqb e.length 0

-- in the order 14, 7
unfoldable pub due_test : Epoch → Epoch → Epoch → Result Bool Refusal
due_test header delay current =
    cond (within_bits header && within_bits delay && within_bits current)
    (cond (eqb header.length 0 || eqb delay.length 0 || eqb current.length 0) (Err LengthZero)
    (Ok (due header delay current)))
    (Err NotWell)
