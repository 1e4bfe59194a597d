-- SHA-256 in the order of FIPS 180-4, over lists of numbers.
use Rattle.std.specs.Prelude.{ℕ, zero, suc, ◌+◌, ◌-◌, ◌*◌, ◌/◌, ◌%◌, ◌^◌, List, [], ◌∷◌, ◌++◌, length, set, replicate, bit_and, bit_xor, slice_index, slice_set}
use mathlib.Core.List.{flat_map}
use Rattle.fiber_bytes.specs.Bytes.{part, be, be_bytes}
use Rattle.fiber_bytes.specs.Words.{rotated}

-- 3.2, 4.1.2: the functions; the complement of a word x is 2^32 - 1 - x
unfoldable pub ch : ℕ → ℕ → ℕ → ℕ
ch x y z = bit_xor (bit_and x y) (bit_and (2 ^ 32 - 1 - x) z)

unfoldable pub maj : ℕ → ℕ → ℕ → ℕ
maj x y z = bit_xor (bit_xor (bit_and x y) (bit_and x z)) (bit_and y z)

unfoldable pub sum0 : ℕ → ℕ
sum0 x = bit_xor (bit_xor (rotated 32 2 x) (rotated 32 13 x)) (rotated 32 22 x)

unfoldable pub sum1 : ℕ → ℕ
sum1 x = bit_xor (bit_xor (rotated 32 6 x) (rotated 32 11 x)) (rotated 32 25 x)

unfoldable pub sig0 : ℕ → ℕ
sig0 x = bit_xor (bit_xor (rotated 32 7 x) (rotated 32 18 x)) (x / 2 ^ 3)

unfoldable pub sig1 : ℕ → ℕ
sig1 x = bit_xor (bit_xor (rotated 32 17 x) (rotated 32 19 x)) (x / 2 ^ 10)

-- 4.2.2: the constants
unfoldable pub constants : List ℕ
constants =
    0x428a_2f98 ∷ 0x7137_4491 ∷ 0xb5c0_fbcf ∷ 0xe9b5_dba5 ∷ 0x3956_c25b ∷ 0x59f1_11f1 ∷ 0x923f_82a4 ∷ 0xab1c_5ed5
    ∷ 0xd807_aa98 ∷ 0x1283_5b01 ∷ 0x2431_85be ∷ 0x550c_7dc3 ∷ 0x72be_5d74 ∷ 0x80de_b1fe ∷ 0x9bdc_06a7 ∷ 0xc19b_f174
    ∷ 0xe49b_69c1 ∷ 0xefbe_4786 ∷ 0x0fc1_9dc6 ∷ 0x240c_a1cc ∷ 0x2de9_2c6f ∷ 0x4a74_84aa ∷ 0x5cb0_a9dc ∷ 0x76f9_88da
    ∷ 0x983e_5152 ∷ 0xa831_c66d ∷ 0xb003_27c8 ∷ 0xbf59_7fc7 ∷ 0xc6e0_0bf3 ∷ 0xd5a7_9147 ∷ 0x06ca_6351 ∷ 0x1429_2967
    ∷ 0x27b7_0a85 ∷ 0x2e1b_2138 ∷ 0x4d2c_6dfc ∷ 0x5338_0d13 ∷ 0x650a_7354 ∷ 0x766a_0abb ∷ 0x81c2_c92e ∷ 0x9272_2c85
    ∷ 0xa2bf_e8a1 ∷ 0xa81a_664b ∷ 0xc24b_8b70 ∷ 0xc76c_51a3 ∷ 0xd192_e819 ∷ 0xd699_0624 ∷ 0xf40e_3585 ∷ 0x106a_a070
    ∷ 0x19a4_c116 ∷ 0x1e37_6c08 ∷ 0x2748_774c ∷ 0x34b0_bcb5 ∷ 0x391c_0cb3 ∷ 0x4ed8_aa4a ∷ 0x5b9c_ca4f ∷ 0x682e_6ff3
    ∷ 0x748f_82ee ∷ 0x78a5_636f ∷ 0x84c8_7814 ∷ 0x8cc7_0208 ∷ 0x90be_fffa ∷ 0xa450_6ceb ∷ 0xbef9_a3f7 ∷ 0xc671_78f2 ∷ []

-- 5.1.1: the message, a one bit, zeros up to 8 bytes before a multiple of 64, and the count of bits
unfoldable pub padded : List ℕ → List ℕ
padded s = s ++ (128 ∷ (replicate ((119 - length s % 64) % 64) 0 ++ be_bytes 8 (8 * length s % 2 ^ 64)))

-- 5.3.3: the first hash value
unfoldable pub initial : List ℕ
initial =
    0x6a09_e667 ∷ 0xbb67_ae85 ∷ 0x3c6e_f372 ∷ 0xa54f_f53a ∷ 0x510e_527f ∷ 0x9b05_688c ∷ 0x1f83_d9ab ∷ 0x5be0_cd19 ∷ []

-- 6.2.2, step 1: the schedule of the block of s at a place: its sixteen words, big-endian (3.1), in a list of 64, and the words made of them
unfoldable pub loaded : ℕ → List ℕ → ℕ → List ℕ
loaded zero s at = replicate 64 0
loaded (suc n) s at = slice_set (loaded n s at) n (be (part s (at + 4 * n) 4))

unfoldable pub extended : ℕ → List ℕ → List ℕ
extended zero w = w
extended (suc n) w =
    set (extended n w) (n + 16)
    ((sig1 (slice_index (extended n w) (n + 14)) + slice_index (extended n w) (n + 9) + sig0 (slice_index (extended n w) (n + 1)) + slice_index (extended n w) n) % 2 ^ 32)

-- step 3: T1 and T2, and one turn of the working variables a, .., h
unfoldable pub t1 : List ℕ → ℕ → ℕ → ℕ
t1 v k w = (slice_index v 7 + sum1 (slice_index v 4) + ch (slice_index v 4) (slice_index v 5) (slice_index v 6) + k + w) % 2 ^ 32

unfoldable pub t2 : List ℕ → ℕ
t2 v = (sum0 (slice_index v 0) + maj (slice_index v 0) (slice_index v 1) (slice_index v 2)) % 2 ^ 32

unfoldable pub turned : List ℕ → ℕ → ℕ → List ℕ
turned v k w =
    (t1 v k w + t2 v) % 2 ^ 32 ∷ slice_index v 0 ∷ slice_index v 1 ∷ slice_index v 2
    ∷ (slice_index v 3 + t1 v k w) % 2 ^ 32 ∷ slice_index v 4 ∷ slice_index v 5 ∷ slice_index v 6 ∷ []

unfoldable pub turns : ℕ → List ℕ → List ℕ → List ℕ
turns zero v w = v
turns (suc n) v w = turned (turns n v w) (slice_index constants n) (slice_index w n)

-- step 4
unfoldable pub folded : ℕ → List ℕ → List ℕ → List ℕ
folded zero h v = h
folded (suc i) h v = slice_set (folded i h v) i ((slice_index (folded i h v) i + slice_index v i) % 2 ^ 32)

unfoldable pub compressed : List ℕ → List ℕ → ℕ → List ℕ
compressed h s at = folded 8 h (turns 64 h (extended 48 (loaded 16 s at)))

-- 6.2.2: the first n blocks of the padded message; the digest is the words' bytes
unfoldable pub absorbed : ℕ → List ℕ → List ℕ
absorbed zero s = initial
absorbed (suc n) s = compressed (absorbed n s) s (n * 64)

unfoldable pub sha256 : List ℕ → List ℕ
sha256 s = flat_map (be_bytes 4) (absorbed ((length s + 8) / 64 + 1) (padded s))
