-- Numbers held in bytes, and parts of a list of bytes.
-- Document 01, Records: "Numbers held in bytes are little-endian, here and in every later layout."
use Rattle.std.specs.Prelude.{ℕ, zero, suc, ◌+◌, ◌*◌, ◌/◌, ◌%◌, ◌^◌, length, take, drop}
use mathlib.Core.List.{List, [], ◌∷◌, ◌++◌, flat_map}

-- the n bytes of s from a place on, or fewer where s ends before
abbrev pub part : List ℕ → ℕ → ℕ → List ℕ
part s at n = take n (drop at s)

-- the number that bytes hold, lowest first; a byte that is missing at the end counts as 0
unfoldable pub le : List ℕ → ℕ
le [] = 0
le (b ∷ bs) = b + 256 * le bs

-- the lowest n bytes of a number, lowest first
unfoldable pub le_bytes : ℕ → ℕ → List ℕ
le_bytes zero x = []
le_bytes (suc n) x = x % 256 ∷ le_bytes n (x / 256)

-- numbers one behind the other, eight bytes each
abbrev pub numbers : List ℕ → List ℕ
numbers xs = flat_map (le_bytes 8) xs

-- highest first (FIPS 180-4, 3.1)
unfoldable pub be : List ℕ → ℕ
be [] = 0
be (b ∷ bs) = b * 256 ^ length bs + be bs

unfoldable pub be_bytes : ℕ → ℕ → List ℕ
be_bytes zero x = []
be_bytes (suc n) x = be_bytes n (x / 256) ++ (x % 256 ∷ [])
