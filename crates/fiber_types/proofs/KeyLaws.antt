-- Laws of `specs/Key.antt`.
-- Assumes nothing.
use Prim.Native.Nat.{ℕ}
use native.Mathlib.Omega.{arith}
use mathlib.Core.Path.{◌≡◌, refl, ◌∙◌}
use mathlib.Core.Bool.{Bool, true, false, cond}
use mathlib.Core.List.{List}
use lib.Dec.{eqb}
use lib.ListN.{length, take, replicate, length-take}
use borrow.Author.Tests.{eq-eqb, ne_eqb}
use Rattle.std.specs.Prelude.{Result, Ok, Err}
use Rattle.std.specs.Result.{result_unwrap_or}
use Rattle.fiber_refusal.specs.declared.Refusal.{Refusal}
use Rattle.fiber_refusal.specs.declared.Refusal.TheVariants.{NotWell}
use Rattle.fiber_blake2b.specs.Blake2b.{ckb_hash}
use Rattle.fiber_types.specs.Key.{key_hash}
use Rattle.fiber_blake2b.proofs.Blake2bLaws.{ckb_length}

-- the hash of a key of 33 bytes, and zeros for one that is none
pub hash_taken : (key : List ℕ) → length key ≡ 33 → take 20 (ckb_hash key) ≡ result_unwrap_or (key_hash key) (replicate 20 0)
unfolding key_hash
hash_taken key h = rw (eq-eqb (length key) 33 h)

pub hash_none : (key : List ℕ) → (length key ≡ 33 → ⊥) → replicate 20 0 ≡ result_unwrap_or (key_hash key) (replicate 20 0)
unfolding key_hash
hash_none key h = rw (ne_eqb (length key) 33 h)

-- both have 20 bytes
pub hash_length : (key : List ℕ) → length (result_unwrap_or (key_hash key) (replicate 20 0)) ≡ 20
unfolding key_hash
hash_length key = go (eqb (length key) 33)
  where
    go : (b : Bool) → length (result_unwrap_or (cond {A = Result (List ℕ) Refusal} b (Ok (take 20 (ckb_hash key))) (Err NotWell)) (replicate 20 0)) ≡ 20
    go true = length-take 20 (ckb_hash key) ∙ omega (arith, ckb_length key)
    go false = refl
