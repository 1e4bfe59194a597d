-- Which stored preimage counts; docs/SCOPE.md, "What the host lends".
use Rattle.std.specs.Prelude.{ℕ, Bool, cond, List, [], get_or, eqb, Option, Some, None}
use Rattle.fiber_blake2b.specs.Blake2b.{ckb_hash}
use Rattle.fiber_sha256.specs.Sha256.{sha256}
use Rattle.fiber_choice.specs.Entries.{same, find_first, tracked_hash, tracked_algorithm, pair_hash, pair_preimage}

-- the hash under an algorithm: 1 is SHA-256, 0 CKB's hash
unfoldable pub digest : ℕ → List ℕ → List ℕ
digest algorithm s = cond (eqb algorithm 1) (sha256 s) (ckb_hash s)

-- the first pair with a hash
unfoldable pub find_pair : List (List ℕ) → List ℕ → Option ℕ
find_pair ps hash = find_first (λ p. same (pair_hash p) hash) 0 ps

-- it counts if its preimage has that hash under the tracked TLC's algorithm
unfoldable pub counts_at : List (List ℕ) → List ℕ → ℕ → Bool
counts_at ps t i = same (digest (tracked_algorithm t) (pair_preimage (get_or ps i []))) (tracked_hash t)

unfoldable pub if_counts : List (List ℕ) → List ℕ → Option ℕ → Option ℕ
if_counts ps t (Some i) = cond (counts_at ps t i) (Some i) None
if_counts ps t None = None

-- only the first pair with a tracked TLC's hash is looked at
unfoldable pub counting_pair : List (List ℕ) → List ℕ → Option ℕ
counting_pair ps t = if_counts ps t (find_pair ps (tracked_hash t))
