-- First records; docs/SCOPE.md, "First records", with rows 14, 12 and 13 of its table.
use Rattle.std.specs.Prelude.{ℕ, ◌+◌, ◌*◌, ◌/◌, ◌^◌, Bool, true, cond, ◌&&◌, List, ◌++◌, map, length, take, replicate, eqb, leb, Result, Err}
use Rattle.fiber_bytes.specs.Bytes.{le_bytes}
use Rattle.std.specs.Result.{result_unwrap_or}
use Rattle.fiber_refusal.specs.declared.Refusal.{Refusal}
use Rattle.fiber_refusal.specs.declared.Refusal.TheVariants.{TooManyTlcs, NotWell}
use Rattle.fiber_types.specs.declared.tlc.Amount.{Amount}
use Rattle.fiber_types.specs.HashLen.{valid_hash_len}
use Rattle.fiber_types.specs.Records.{Outcome, unwritten, outcome, amount_at, tlc_bytes}
use Rattle.fiber_types.specs.Key.{key_hash}
use Rattle.fiber_witness.specs.Witness.{state_bytes}
use Rattle.fiber_choice.specs.Entries.{entries, settlement_len, received, algorithm, hash, expiry_ms, local_key, remote_key, valid_settlement}
use Rattle.fiber_choice.specs.Request.{SettlementData, valid_data}

-- a key's hash, 20 bytes; zeros for a key that is none
abbrev pub hash_of : List ℕ → List ℕ
hash_of key = result_unwrap_or (key_hash key) (replicate 20 0)

-- ---- a record

-- The type is algorithm × 2 + (1 if received), the expiry the bits 0x4000000000000000 with expiry div 1000, which stays below them. The
-- key hashes are remote, local; without for_remote swapped.
unfoldable pub first_record : ℕ → Bool → List ℕ → List ℕ
first_record h for_remote t =
    tlc_bytes (record { kind = algorithm t * 2 + received t; amount = amount_at t 2; expiry = 2 ^ 62 + expiry_ms t / 1000 })
    (take h (hash t))
    (hash_of (cond for_remote (remote_key t) (local_key t)))
    (hash_of (cond for_remote (local_key t) (remote_key t)))

unfoldable pub first_records : ℕ → Bool → List (List ℕ) → List (List ℕ)
first_records h for_remote ts = map (first_record h for_remote) ts

-- one settlement TLC of 124 bytes: 14, 13
unfoldable pub wrote_first_tlc : ℕ → Bool → List ℕ → List ℕ → Outcome (Result ℕ Refusal)
wrote_first_tlc h for_remote t out =
    outcome (valid_hash_len h && eqb (length t) settlement_len && valid_settlement t) (first_record h for_remote t) out

-- ---- the state

-- a share: key hash 20, amount 16
unfoldable pub share_bytes : List ℕ → Amount → List ℕ
share_bytes key a = hash_of key ++ le_bytes 8 a.low ++ le_bytes 8 a.high

-- the shares are remote, local; without for_remote swapped
unfoldable pub first_remote : Bool → SettlementData → List ℕ
first_remote for_remote d = cond for_remote (share_bytes d.remote_key d.remote_amount) (share_bytes d.local_key d.local_amount)

unfoldable pub first_local : Bool → SettlementData → List ℕ
first_local for_remote d = cond for_remote (share_bytes d.local_key d.local_amount) (share_bytes d.remote_key d.remote_amount)

unfoldable pub first_state : ℕ → Bool → SettlementData → List ℕ
first_state h for_remote d =
    state_bytes (first_records h for_remote (entries settlement_len d.tlcs)) (first_remote for_remote d) (first_local for_remote d)

-- 14, 12 above 255 settlement TLCs, 13
unfoldable pub wrote_first : ℕ → Bool → SettlementData → List ℕ → Outcome (Result ℕ Refusal)
wrote_first h for_remote d out =
    cond (valid_hash_len h && valid_data d)
    (cond (leb (length d.tlcs / settlement_len) 255) (outcome true (first_state h for_remote d) out) (unwritten (Err TooManyTlcs) out))
    (unwritten (Err NotWell) out)
