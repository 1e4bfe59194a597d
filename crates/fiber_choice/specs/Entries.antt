-- The lists that the host lends, flat, one entry behind the other; docs/SCOPE.md, "What the host lends".
use Rattle.std.specs.Prelude.{ℕ, ◌+◌, ◌/◌, ◌%◌, Bool, true, false, ◌&&◌, List, [], ◌∷◌, map, length, get_or, drop, eqb, leb, Option, bytes_eq}
use Rattle.std.specs.List.{list_all, position_from}
use Rattle.fiber_bytes.specs.Bytes.{part, le}
use Rattle.fiber_witness.specs.Witness.{record_len, chunks}

-- whether two lists of bytes are the same
abbrev pub same : List ℕ → List ℕ → Bool
same xs ys = bytes_eq xs ys

-- and two lists of such
unfoldable pub same_lists : List (List ℕ) → List (List ℕ) → Bool
same_lists [] [] = true
same_lists [] (y ∷ ys) = false
same_lists (x ∷ xs) [] = false
same_lists (x ∷ xs) (y ∷ ys) = same x y && same_lists xs ys

-- ---- lists of entries

unfoldable pub entries : ℕ → List ℕ → List (List ℕ)
entries size s = chunks size (length s / size) s

abbrev pub whole_entries : ℕ → List ℕ → Bool
whole_entries size s = eqb (length s % size) 0

abbrev pub all : (List ℕ → Bool) → List (List ℕ) → Bool
all good es = list_all good es

-- where the first one is that passes a test, place i being the first of the list's
abbrev pub find_first : (List ℕ → Bool) → ℕ → List (List ℕ) → Option ℕ
find_first test i es = position_from test i es

-- ---- settlement TLC, 124 bytes: received 0/1, algorithm 0 (CKB) or 1 (SHA-256), amount 16, hash 32, expiry in ms 8, local key 33,
-- remote key 33

abbrev pub settlement_len : ℕ
settlement_len = 124

abbrev pub received : List ℕ → ℕ
received t = get_or t 0 0

abbrev pub algorithm : List ℕ → ℕ
algorithm t = get_or t 1 0

-- the amount is at byte 2
abbrev pub hash : List ℕ → List ℕ
hash t = part t 18 32

abbrev pub expiry_ms : List ℕ → ℕ
expiry_ms t = le (part t 50 8)

abbrev pub local_key : List ℕ → List ℕ
local_key t = part t 58 33

abbrev pub remote_key : List ℕ → List ℕ
remote_key t = part t 91 33

unfoldable pub valid_settlement : List ℕ → Bool
valid_settlement t = leb (received t) 1 && leb (algorithm t) 1

-- ---- tracked TLC: hash 32, algorithm 1, record 65 + h

abbrev pub tracked_len : ℕ → ℕ
tracked_len h = 33 + record_len h

abbrev pub tracked_hash : List ℕ → List ℕ
tracked_hash t = part t 0 32

abbrev pub tracked_algorithm : List ℕ → ℕ
tracked_algorithm t = get_or t 32 0

abbrev pub tracked_record : List ℕ → List ℕ
tracked_record t = drop 33 t

unfoldable pub valid_tracked : List ℕ → Bool
valid_tracked t = leb (tracked_algorithm t) 1

-- the records of a tracked list
unfoldable pub tracked_records : List (List ℕ) → List (List ℕ)
tracked_records ts = map tracked_record ts

-- ---- stored preimages: pairs of 64 bytes, hash and preimage

abbrev pub pair_len : ℕ
pair_len = 64

abbrev pub pair_hash : List ℕ → List ℕ
pair_hash p = part p 0 32

abbrev pub pair_preimage : List ℕ → List ℕ
pair_preimage p = part p 32 32
