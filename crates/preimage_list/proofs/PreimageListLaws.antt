-- Laws of `specs/PreimageList.antt`: the search in a list of pairs and that in the flat slice of the same pairs agree, and so do their preimages.
-- Assumes nothing.
use Prim.Native.Nat.{ℕ, zero, suc, ◌+◌, ◌≤◌, ◌<◌}
use native.Mathlib.Omega.{arith}
use mathlib.Core.Path.{◌≡◌, refl, sym, ap, subst, ◌∙◌}
use mathlib.Core.Bool.{Bool, true, false, cond}
use mathlib.Core.List.{List, [], ◌∷◌, ◌++◌, map, flat_map}
use Rattle.std.specs.Prelude.{Option, Some, None}
use Rattle.std.specs.List.{position_from}
use lib.ListN.{length, get_or, take, length-append}
use lib.Seq.{take_at, drop_at, take_all}
use Rattle.fiber_choice.specs.Entries.{same, entries, find_first, tracked_hash, tracked_algorithm, pair_len, pair_hash, pair_preimage}
use Rattle.fiber_choice.specs.Preimages.{digest, find_pair, counts_at}
use Rattle.preimage_list.specs.declared.pair.Preimage.{Preimage}
use Rattle.preimage_list.specs.PreimageList.{flat_pairs}
use Rattle.fiber_choice.proofs.EntriesLaws.{entries_none, entries_append}
use Rattle.fiber_choice.proofs.PreimagesLaws.{has_hash, find_by, counts_by}

-- whether a pair has a hash
abbrev pub pair_has : List ℕ → Preimage → Bool
pair_has h p = same p.hash h

-- the first pair with a hash; the first of the list is at place i
abbrev pub find_in : ℕ → List Preimage → List ℕ → Option ℕ
find_in i ps h = position_from (pair_has h) i ps

-- the preimage of the pair at a place; past the end there is none
abbrev pub preimage_at : List Preimage → ℕ → List ℕ
preimage_at ps i = get_or (map (λ (p : Preimage). p.preimage) ps) i []

-- every pair's hash and preimage have 32 bytes
pub record SizedPair (p : Preimage) : Type 0 where
  pub hash_32 : length p.hash ≡ 32
  pub preimage_32 : length p.preimage ≡ 32

abbrev pub Sized : List Preimage → Type 0
Sized [] = Unit {0}
Sized (p ∷ ps) = SizedPair p × Sized ps

-- they have, since they are arrays
pub sized : (ps : List Preimage) → Sized ps
sized [] = tt
sized (p ∷ ps) = (record { hash_32 = p.hash_32; preimage_32 = p.preimage_32 }, sized ps)

-- ---- the flat slice's entries

-- a pair as its 64 bytes
abbrev pub bytes_of : Preimage → List ℕ
bytes_of p = p.hash ++ p.preimage

module _ (p : Preimage) (z : SizedPair p) where
  bytes_64 : length (bytes_of p) ≡ 64
  bytes_64 = omega (arith, length-append p.hash p.preimage, z.hash_32, z.preimage_32)

  pub pair_hash_lem : pair_hash (bytes_of p) ≡ p.hash
  pair_hash_lem = take_at p.hash p.preimage 32 z.hash_32

  pub pair_preimage_lem : pair_preimage (bytes_of p) ≡ p.preimage
  pair_preimage_lem =
      let e : length p.preimage ≤ 32 = omega (arith, z.preimage_32) in
      ap (take 32) (drop_at p.hash p.preimage 32 z.hash_32) ∙ take_all 32 p.preimage e

-- the entries are the pairs, one for one
pub entries_flat : (ps : List Preimage) → Sized ps → entries pair_len (flat_pairs ps) ≡ map bytes_of ps
unfolding flat_pairs flat_map
entries_flat [] z = entries_none pair_len
entries_flat (p ∷ ps) z = entries_append pair_len (bytes_of p) (flat_pairs ps) (omega arith) (bytes_64 p z.0) ∙ ap (λ (es : List (List ℕ)). bytes_of p ∷ es) (entries_flat ps z.1)

-- ---- the search

find_from : (i : ℕ) (ps : List Preimage) (h : List ℕ) → Sized ps → find_in i ps h ≡ find_first (has_hash h) i (map bytes_of ps)
find_from i [] h z = refl
find_from i (p ∷ ps) h z = rw (pair_hash_lem p z.0) (ap (λ (next : Option ℕ). cond (same p.hash h) (Some i) next) (find_from (i + 1) ps h z.1))

-- on the same pairs, this search and the flat slice's find the same
pub find_agrees : (ps : List Preimage) (h : List ℕ) → Sized ps → find_in 0 ps h ≡ find_pair (entries pair_len (flat_pairs ps)) h
find_agrees ps h z = find_from 0 ps h z ∙ find_by (map bytes_of ps) h ∙ ap (λ (es : List (List ℕ)). find_pair es h) (sym (entries_flat ps z))

-- ---- the preimages

-- the preimage of a pair, read from its bytes; past the end there are none
preimage_from : (ps : List Preimage) → Sized ps → (i : ℕ) → pair_preimage (get_or (map bytes_of ps) i []) ≡ preimage_at ps i
preimage_from [] z i = refl
preimage_from (p ∷ ps) z zero = pair_preimage_lem p z.0
preimage_from (p ∷ ps) z (suc i) = preimage_from ps z.1 i

-- at each place the flat slice's preimage is the pair's
pub preimage_agrees : (ps : List Preimage) → Sized ps → (i : ℕ) → pair_preimage (get_or (entries pair_len (flat_pairs ps)) i []) ≡ preimage_at ps i
preimage_agrees ps z i =
    ap (λ (es : List (List ℕ)). pair_preimage (get_or es i [])) (entries_flat ps z) ∙ preimage_from ps z i

-- so a pair counts by its own preimage
pub counts_agrees : (ps : List Preimage) → Sized ps → (t : List ℕ) (i : ℕ)
    → counts_at (entries pair_len (flat_pairs ps)) t i ≡ same (digest (tracked_algorithm t) (preimage_at ps i)) (tracked_hash t)
counts_agrees ps z t i =
    counts_by (entries pair_len (flat_pairs ps)) t i
    ∙ ap (λ (s : List ℕ). same (digest (tracked_algorithm t) s) (tracked_hash t)) (preimage_agrees ps z i)

-- ---- the pair that is found

-- no answer is a place and nothing at once
abbrev NoPlace : Option ℕ → Type 0
NoPlace (Some i) = ⊥
NoPlace None = Unit {0}

abbrev place_of : Option ℕ → ℕ
place_of (Some i) = i
place_of None = 0

-- the search's next step stays within the list, so this one does
within_step : (t : Bool) (k i n : ℕ) (next : Option ℕ) → (next ≡ Some i → i < k + 1 + n) → cond t (Some k) next ≡ Some i → i < k + suc n
within_step true k i n next f e =
    let g : k ≡ i = ap place_of e in
    omega (arith, g)
within_step false k i n next f e = omega (arith, f e)

within_from : (k : ℕ) (ps : List Preimage) (h : List ℕ) (i : ℕ) → find_in k ps h ≡ Some i → i < k + length ps
within_from k [] h i e = absurd (subst NoPlace e tt)
within_from k (p ∷ ps) h i e = within_step (same p.hash h) k i (length ps) (find_in (k + 1) ps h) (within_from (k + 1) ps h i) e

-- the pair that the search names is one of the list, and its preimage is the one that the choice looks at in the flat slice
pub found_preimage : (ps : List Preimage) (h : List ℕ) → Sized ps → (i : ℕ) → find_in 0 ps h ≡ Some i
    → (i < length ps) × (pair_preimage (get_or (entries pair_len (flat_pairs ps)) i []) ≡ preimage_at ps i)
found_preimage ps h z i e = (omega (arith, within_from 0 ps h i e), preimage_agrees ps z i)
