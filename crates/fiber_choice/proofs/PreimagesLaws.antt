-- Laws of `specs/Preimages.antt`: the search for a pair, and whether it counts.
-- Assumes nothing.
use Prim.Native.Nat.{ℕ, ◌+◌, ◌*◌, ◌≤◌, ◌<◌}
use native.Mathlib.Omega.{arith}
use mathlib.Core.Path.{◌≡◌, refl, sym, ap, subst, ◌∙◌}
use mathlib.Core.Bool.{Bool}
use mathlib.Core.List.{List, []}
use lib.ListN.{length, get_or, drop}
use lib.Seq.{take-take}
use Rattle.std.specs.Prelude.{Option, Some, None}
use Rattle.fiber_bytes.specs.Bytes.{part}
use Rattle.fiber_bytes.proofs.BytesLaws.{part_part}
use Rattle.fiber_bytes.proofs.CaseLaws.{by_each}
use Rattle.fiber_choice.specs.Entries.{same, entries, find_first, tracked_hash, tracked_algorithm, pair_len, pair_hash, pair_preimage}
use Rattle.fiber_choice.specs.Preimages.{digest, find_pair, counts_at, if_counts, counting_pair}
use Rattle.fiber_choice.proofs.EntriesLaws.{FoundBelow, found_below, entries_length, entry_at}

-- ---- pairs

-- whether a pair has a hash
abbrev pub has_hash : List ℕ → List ℕ → Bool
has_hash hash p = same (pair_hash p) hash

-- the search, by that test
pub find_by : (ps : List (List ℕ)) (hash : List ℕ) → find_first (has_hash hash) 0 ps ≡ find_pair ps hash
unfolding find_pair
find_by ps hash = refl

-- a pair counts by its preimage's hash
pub counts_by : (ps : List (List ℕ)) (t : List ℕ) (i : ℕ) → counts_at ps t i ≡ same (digest (tracked_algorithm t) (pair_preimage (get_or ps i []))) (tracked_hash t)
unfolding counts_at
counts_by ps t i = refl

-- the first half of a pair is its hash
pub pair_hash_lem : (s : List ℕ) (at : ℕ) → pair_hash (part s at pair_len) ≡ part s at 32
pair_hash_lem s at = take-take 32 64 (drop at s) (omega arith)

-- only a pair of the list is found
pair_below : (ps : List (List ℕ)) (hash : List ℕ) → FoundBelow (length ps) (find_pair ps hash)
unfolding find_pair
pair_below ps hash = found_below (has_hash hash) ps 0 (length ps) (omega arith)

-- the same, of one that is known
pub pair_room : (ps : List (List ℕ)) (hash : List ℕ) (pair_place : ℕ) → Some pair_place ≡ find_pair ps hash → pair_place < length ps
pair_room ps hash pair_place e = subst (FoundBelow (length ps)) (sym e) (pair_below ps hash)

-- in bytes
pub pair_bytes : (s hash : List ℕ) (pair_place : ℕ) → Some pair_place ≡ find_pair (entries pair_len s) hash → 64 * pair_place + 64 ≤ length s
pair_bytes s hash pair_place e = omega (arith, pair_room (entries pair_len s) hash pair_place e, entries_length pair_len s)

-- the preimage of the pair at a place
pub pair_preimage_lem : (s : List ℕ) (pair_place : ℕ) → 64 * pair_place + 64 ≤ length s → pair_preimage (get_or (entries pair_len s) pair_place []) ≡ part s (64 * pair_place + 32) 32
pair_preimage_lem s pair_place h =
    let e : pair_place * 64 + 32 ≡ 64 * pair_place + 32 = omega arith in
    ap pair_preimage (entry_at pair_len s pair_place (omega arith))
    ∙ part_part s (pair_place * 64) 64 32 32 (omega arith)
    ∙ ap (λ (k : ℕ). part s k 32) e

-- a pair that counts is one of the list
pub counting_below : (ps : List (List ℕ)) (t : List ℕ) → FoundBelow (length ps) (counting_pair ps t)
unfolding counting_pair if_counts
counting_below ps t = go (find_pair ps (tracked_hash t)) (pair_below ps (tracked_hash t))
  where
    go : (f : Option ℕ) → FoundBelow (length ps) f → FoundBelow (length ps) (if_counts ps t f)
    go (Some i) g = by_each (FoundBelow (length ps)) (counts_at ps t i) _ _ g tt
    go None g = tt
