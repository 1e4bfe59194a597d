-- BLAKE2b in the order of RFC 7693, unkeyed, over lists of numbers; CKB's hash.
-- The parameter block is an argument, so that the RFC's own vector and CKB's hash are values of one definition.
use Rattle.std.specs.Prelude.{ℕ, zero, suc, ◌+◌, ◌-◌, ◌*◌, ◌/◌, ◌%◌, ◌^◌, List, [], ◌∷◌, ◌++◌, length, take, replicate, bit_xor, slice_index, slice_index_or, slice_set}
use Rattle.fiber_bytes.specs.Bytes.{part, le, numbers}
use Rattle.fiber_bytes.specs.Words.{rotated}

-- 2.4: words are little-endian, eight bytes each: the n words of s from a place on, a byte past the end being padding's 0
unfoldable pub words : ℕ → List ℕ → ℕ → List ℕ
words zero s at = []
words (suc n) s at = words n s at ++ (le (part s (at + 8 * n) 8) ∷ [])

-- 2.5: the parameter block: digest length, no key, fanout 1, depth 1; the RFC leaves the rest 0, and BLAKE2 keeps bytes 48 to 63 of it
-- for a personalisation
unfoldable pub params : ℕ → List ℕ → List ℕ
params digest_length personal = digest_length ∷ 0 ∷ 1 ∷ 1 ∷ (replicate 44 0 ++ personal)

-- 2.6: the initialization vector
unfoldable pub iv : List ℕ
iv =
    0x6a09_e667_f3bc_c908 ∷ 0xbb67_ae85_84ca_a73b ∷ 0x3c6e_f372_fe94_f82b ∷ 0xa54f_f53a_5f1d_36f1
    ∷ 0x510e_527f_ade6_82d1 ∷ 0x9b05_688c_2b3e_6c1f ∷ 0x1f83_d9ab_fb41_bd6b ∷ 0x5be0_cd19_137e_2179 ∷ []

-- 2.7: the message schedule
unfoldable pub sigma : List (List ℕ)
sigma =
    (0 ∷ 1 ∷ 2 ∷ 3 ∷ 4 ∷ 5 ∷ 6 ∷ 7 ∷ 8 ∷ 9 ∷ 10 ∷ 11 ∷ 12 ∷ 13 ∷ 14 ∷ 15 ∷ [])
    ∷ (14 ∷ 10 ∷ 4 ∷ 8 ∷ 9 ∷ 15 ∷ 13 ∷ 6 ∷ 1 ∷ 12 ∷ 0 ∷ 2 ∷ 11 ∷ 7 ∷ 5 ∷ 3 ∷ [])
    ∷ (11 ∷ 8 ∷ 12 ∷ 0 ∷ 5 ∷ 2 ∷ 15 ∷ 13 ∷ 10 ∷ 14 ∷ 3 ∷ 6 ∷ 7 ∷ 1 ∷ 9 ∷ 4 ∷ [])
    ∷ (7 ∷ 9 ∷ 3 ∷ 1 ∷ 13 ∷ 12 ∷ 11 ∷ 14 ∷ 2 ∷ 6 ∷ 5 ∷ 10 ∷ 4 ∷ 0 ∷ 15 ∷ 8 ∷ [])
    ∷ (9 ∷ 0 ∷ 5 ∷ 7 ∷ 2 ∷ 4 ∷ 10 ∷ 15 ∷ 14 ∷ 1 ∷ 11 ∷ 12 ∷ 6 ∷ 8 ∷ 3 ∷ 13 ∷ [])
    ∷ (2 ∷ 12 ∷ 6 ∷ 10 ∷ 0 ∷ 11 ∷ 8 ∷ 3 ∷ 4 ∷ 13 ∷ 7 ∷ 5 ∷ 15 ∷ 14 ∷ 1 ∷ 9 ∷ [])
    ∷ (12 ∷ 5 ∷ 1 ∷ 15 ∷ 14 ∷ 13 ∷ 4 ∷ 10 ∷ 0 ∷ 7 ∷ 6 ∷ 3 ∷ 9 ∷ 2 ∷ 8 ∷ 11 ∷ [])
    ∷ (13 ∷ 11 ∷ 7 ∷ 14 ∷ 12 ∷ 1 ∷ 3 ∷ 9 ∷ 5 ∷ 0 ∷ 15 ∷ 4 ∷ 8 ∷ 6 ∷ 2 ∷ 10 ∷ [])
    ∷ (6 ∷ 15 ∷ 14 ∷ 9 ∷ 11 ∷ 3 ∷ 0 ∷ 8 ∷ 12 ∷ 2 ∷ 13 ∷ 7 ∷ 1 ∷ 4 ∷ 10 ∷ 5 ∷ [])
    ∷ (10 ∷ 2 ∷ 8 ∷ 4 ∷ 7 ∷ 6 ∷ 1 ∷ 5 ∷ 15 ∷ 11 ∷ 9 ∷ 14 ∷ 3 ∷ 12 ∷ 13 ∷ 0 ∷ [])
    ∷ []

-- 2.3, 3.1: the steps of G: v[a] := (v[a] + v[b] + x) mod 2^64, and v[d] := (v[d] ^ v[a]) >>> k; G itself
unfoldable pub added : List ℕ → ℕ → ℕ → ℕ → List ℕ
added v a b x = slice_set v a ((slice_index v a + slice_index v b + x) % 2 ^ 64)

unfoldable pub turned : List ℕ → ℕ → ℕ → ℕ → List ℕ
turned v d a k = slice_set v d (rotated 64 k (bit_xor (slice_index v d) (slice_index v a)))

unfoldable pub half : List ℕ → ℕ → ℕ → ℕ → ℕ → ℕ → ℕ → ℕ → List ℕ
half v a b c d x j k = turned (added (turned (added v a b x) d a j) c d 0) b c k

unfoldable pub mixed : List ℕ → ℕ → ℕ → ℕ → ℕ → ℕ → ℕ → List ℕ
mixed v a b c d x y = half (half v a b c d x 32 24) a b c d y 16 63

-- 3.2: a round: the columns, then the diagonals, with the message words that a row s of the schedule picks
unfoldable pub columns : List ℕ → ℕ → ℕ → ℕ → ℕ → ℕ → ℕ → ℕ → ℕ → List ℕ
columns v a b c d e f g h =
    mixed (mixed (mixed (mixed v 0 4 8 12 a b) 1 5 9 13 c d) 2 6 10 14 e f) 3 7 11 15 g h

unfoldable pub diagonals : List ℕ → ℕ → ℕ → ℕ → ℕ → ℕ → ℕ → ℕ → ℕ → List ℕ
diagonals v a b c d e f g h =
    mixed (mixed (mixed (mixed v 0 5 10 15 a b) 1 6 11 12 c d) 2 7 8 13 e f) 3 4 9 14 g h

abbrev pub picked : List ℕ → List ℕ → ℕ → ℕ
picked m s i = slice_index m (slice_index s i)

unfoldable pub round : List ℕ → List ℕ → List ℕ → List ℕ
round v m s =
    diagonals
    (columns v (picked m s 0) (picked m s 1) (picked m s 2) (picked m s 3) (picked m s 4) (picked m s 5) (picked m s 6) (picked m s 7))
    (picked m s 8) (picked m s 9) (picked m s 10) (picked m s 11) (picked m s 12) (picked m s 13) (picked m s 14) (picked m s 15)

unfoldable pub rounds : ℕ → List ℕ → List ℕ → List ℕ
rounds zero v m = v
rounds (suc r) v m = round (rounds r v m) m (slice_index_or sigma (r % 10) [])

-- the words that a block's compression starts from: t is the count of bytes so far, f is all ones at the last block and else 0
unfoldable pub start : List ℕ → ℕ → ℕ → List ℕ
start h t f =
    slice_index h 0 ∷ slice_index h 1 ∷ slice_index h 2 ∷ slice_index h 3 ∷ slice_index h 4 ∷ slice_index h 5 ∷ slice_index h 6 ∷ slice_index h 7
    ∷ slice_index iv 0 ∷ slice_index iv 1 ∷ slice_index iv 2 ∷ slice_index iv 3
    ∷ bit_xor (t % 2 ^ 64) (slice_index iv 4) ∷ bit_xor (t / 2 ^ 64) (slice_index iv 5) ∷ bit_xor f (slice_index iv 6) ∷ slice_index iv 7 ∷ []

-- h[i] := h[i] ^ v[i] ^ v[i + 8] at the first n words
unfoldable pub folded : ℕ → List ℕ → List ℕ → List ℕ
folded zero h v = h
folded (suc i) h v = slice_set (folded i h v) i (bit_xor (bit_xor (slice_index (folded i h v) i) (slice_index v i)) (slice_index v (i + 8)))

-- F
unfoldable pub compressed : List ℕ → List ℕ → ℕ → ℕ → List ℕ
compressed h m t f = folded 8 h (rounds 12 (start h t f) m)

-- 3.3: the initialization vector with the parameter block's words
unfoldable pub initial : ℕ → List ℕ → List ℕ
initial zero p = []
initial (suc n) p = initial n p ++ (bit_xor (slice_index iv n) (le (part p (8 * n) 8)) ∷ [])

-- n blocks of 128 bytes that are not the last; then the last, which a message of no bytes has too
unfoldable pub absorbed : ℕ → List ℕ → List ℕ → List ℕ
absorbed zero h s = h
absorbed (suc n) h s = compressed (absorbed n h s) (words 16 s (n * 128)) (n * 128 + 128) 0

unfoldable pub hashed : List ℕ → List ℕ → List ℕ
hashed h s =
    let n = (length s - 1) / 128 in
    compressed (absorbed n h s) (words 16 s (n * 128)) (length s) 0xffff_ffff_ffff_ffff

-- the 64 bytes of h[] under a parameter block, and the digest: the first of them, as many as the block says
unfoldable pub chain : List ℕ → List ℕ → List ℕ
chain p s = numbers (hashed (initial 8 p) s)

unfoldable pub blake2b : List ℕ → List ℕ → List ℕ
blake2b p s = take (slice_index p 0) (chain p s)

-- docs/SCOPE.md, "Hashes": 32 bytes, no key, the personalisation "ckb-default-hash"
unfoldable pub ckb_personal : List ℕ
ckb_personal = 99 ∷ 107 ∷ 98 ∷ 45 ∷ 100 ∷ 101 ∷ 102 ∷ 97 ∷ 117 ∷ 108 ∷ 116 ∷ 45 ∷ 104 ∷ 97 ∷ 115 ∷ 104 ∷ []

unfoldable pub ckb_hash : List ℕ → List ℕ
ckb_hash s = blake2b (params 32 ckb_personal) s
