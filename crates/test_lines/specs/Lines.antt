-- Lists of test cases: a case to a line, fields parted by single blanks, numbers in decimal, bytes in hexadecimal.
use Rattle.std.specs.Prelude.{ℕ, zero, suc, ◌+◌, ◌-◌, ◌*◌, ◌/◌, ◌%◌, ◌^◌, Bool, true, cond, ◌&&◌, ◌||◌, List, [], ◌∷◌, length, ◌==◌, nat_le, nat_lt, slice_index}

-- the value of a digit, 0-9 or a-f; 0 for anything else
unfoldable pub digit : ℕ → ℕ
digit b = cond (nat_lt b 48) 0 (cond (nat_le b 57) (b - 48) (cond (nat_lt b 97) 0 (cond (nat_le b 102) (b - 97 + 10) 0)))

-- the byte that two digits at a place stand for, or 0 where they are not both there
unfoldable pub hex_at : List ℕ → ℕ → ℕ
hex_at s i = cond (nat_le (i + 2) (length s)) (digit (slice_index s i) * 16 + digit (slice_index s (i + 1))) 0

-- n bytes in hexadecimal, from the i-th on
unfoldable pub hex_bytes : ℕ → List ℕ → ℕ → List ℕ
hex_bytes zero s i = []
hex_bytes (suc n) s i = hex_at s (2 * i) ∷ hex_bytes n s (i + 1)

-- whether s holds n of the bytes in hexadecimal, from the i-th on
unfoldable pub holds : ℕ → List ℕ → List ℕ → ℕ → Bool
holds zero bytes s i = true
holds (suc n) bytes s i = slice_index bytes i == hex_at s (2 * i) && holds n bytes s (i + 1)

-- whether s is the bytes in hexadecimal
unfoldable pub agree : List ℕ → List ℕ → Bool
agree bytes s = length s / 2 == length bytes && holds (length bytes) bytes s 0

-- a decimal number, modulo 2^64, with x read before
unfoldable pub number_from : ℕ → List ℕ → ℕ
number_from x [] = x
number_from x (b ∷ bs) = number_from ((10 * x + digit b) % 2 ^ 64) bs

-- the first place from at on that holds b or a newline, of the n bytes there
unfoldable pub find_in : ℕ → List ℕ → ℕ → ℕ → ℕ
find_in zero s at b = at
find_in (suc n) s at b =
    let rest = find_in n s (at + 1) b in
    cond (slice_index s at == b || slice_index s at == 10) at rest

unfoldable pub find : List ℕ → ℕ → ℕ → ℕ
find s at b = find_in (length s - at) s at b
