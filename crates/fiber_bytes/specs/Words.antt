-- Words of w bits (RFC 7693, 2.3; FIPS 180-4, 3.2).
use Rattle.std.specs.Prelude.{ℕ, ◌+◌, ◌-◌, ◌*◌, ◌/◌, ◌%◌, ◌^◌}

-- x rotated right by k bits
unfoldable pub rotated : ℕ → ℕ → ℕ → ℕ
rotated w k x = x / 2 ^ k + x % 2 ^ k * 2 ^ (w - k)
