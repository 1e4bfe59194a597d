-- Key hashes; docs/SCOPE.md, "Hashes".
use Rattle.std.specs.Prelude.{ℕ, cond, List, length, take, eqb, Result, Ok, Err}
use Rattle.fiber_refusal.specs.declared.Refusal.{Refusal}
use Rattle.fiber_refusal.specs.declared.Refusal.TheVariants.{NotWell}
use Rattle.fiber_blake2b.specs.Blake2b.{ckb_hash}

-- the first 20 bytes of the CKB hash of the 33 key bytes; a key of another length is 14
unfoldable pub key_hash : List ℕ → Result (List ℕ) Refusal
key_hash key = cond (eqb (length key) 33) (Ok (take 20 (ckb_hash key))) (Err NotWell)
