-- TLC records and unlocks; docs/SCOPE.md, "Records", with the numbers of its table.
use Rattle.std.specs.Prelude.{ℕ, ◌+◌, ◌-◌, ◌*◌, ◌%◌, ◌^◌, ◌≡◌, Bool, cond, ◌&&◌, List, ◌∷◌, ◌++◌, length, get_or, eqb, leb, Result, Ok, Err}
use Rattle.std.proofs.lemmas.List.Edits.{sets}
use Rattle.fiber_refusal.specs.declared.Refusal.{Refusal}
use Rattle.fiber_refusal.specs.declared.Refusal.TheVariants.{TlcCut, UnlockCut, OutputShort, NotWell}
use Rattle.fiber_types.specs.declared.tlc.Amount.{Amount}
use Rattle.fiber_types.specs.declared.tlc.Tlc.{Tlc}
use Rattle.fiber_types.specs.declared.unlock.Unlock.{Unlock}
use Rattle.fiber_bytes.specs.Bytes.{part, le, le_bytes}
use Rattle.fiber_types.specs.HashLen.{valid_hash_len}

-- ---- what writers answer

-- a writer's answer, and the output as it leaves it
pub record Outcome (A : Type 0) : Type 0 where
  pub answer : A
  pub bytes : List ℕ

-- an answer and an output that are those of an outcome
abbrev pub Gives : {A : Type 0} → Outcome A → A → List ℕ → Type 0
Gives o answer out = (answer ≡ o.answer) × (out ≡ o.bytes)

-- turned down: the output is as it was
abbrev pub unwritten : {A : Type 0} → A → List ℕ → Outcome A
unwritten answer out = record { answer = answer; bytes = out }

-- bytes to the front of an output: 14 where what they are made of does not fit the layout, then 13, at the bytes needed
unfoldable pub outcome : Bool → List ℕ → List ℕ → Outcome (Result ℕ Refusal)
outcome fits bytes out =
    cond fits
    (cond (leb (length bytes) (length out))
    (record { answer = Ok (length bytes); bytes = sets out 0 bytes })
    (unwritten (Err (OutputShort (length bytes))) out))
    (unwritten (Err NotWell) out)

-- ---- amounts: 16 bytes, as two halves of 64 bits

-- the number that an amount is
unfoldable pub amount_of : Amount → ℕ
amount_of a = a.low + 2 ^ 64 * a.high

unfoldable pub amount_at : List ℕ → ℕ → Amount
amount_at s at = record { low = le (part s at 8); high = le (part s (at + 8) 8) }

-- its bytes: the low half, then the high one, each lowest first
unfoldable pub amount_bytes : Amount → List ℕ
amount_bytes a = le_bytes 8 a.low ++ le_bytes 8 a.high

-- ---- TLCs

-- type bit 0 clear: offered
unfoldable pub is_offered : Tlc → Bool
is_offered t = eqb (t.kind % 2) 0

-- type 1, amount 16, hash h, remote key hash 20, local key hash 20, expiry 8
unfoldable pub tlc_bytes : Tlc → List ℕ → List ℕ → List ℕ → List ℕ
tlc_bytes t hash remote local =
    t.kind
    ∷ (le_bytes 8 t.amount.low ++ (le_bytes 8 t.amount.high ++ (hash ++ (remote ++ (local ++ le_bytes 8 t.expiry)))))

-- the numbers of the TLC at a place
unfoldable pub tlc_at : ℕ → List ℕ → ℕ → Tlc
tlc_at h s at = record { kind = get_or s at 0; amount = amount_at s (at + 1); expiry = le (part s (at + 57 + h) 8) }

-- the hash in a record, and the key hash in a slot of it, local or remote
unfoldable pub payment_hash : ℕ → List ℕ → List ℕ
payment_hash h r = part r 17 h

unfoldable pub key_hash_in : ℕ → Bool → List ℕ → List ℕ
key_hash_in h local r = part r (cond local 37 17 + h) 20

-- 14, then a TLC cut short: 2 at its first byte
unfoldable pub read_tlc : ℕ → List ℕ → ℕ → Result Tlc Refusal
read_tlc h s at =
    cond (valid_hash_len h)
    (cond (leb (at + (65 + h)) (length s))
    (Ok (tlc_at h s at))
    (Err (TlcCut at)))
    (Err NotWell)

unfoldable pub wrote_tlc : Tlc → List ℕ → List ℕ → List ℕ → List ℕ → Outcome (Result ℕ Refusal)
wrote_tlc t hash remote local out =
    outcome (valid_hash_len (length hash) && eqb (length remote) 20 && eqb (length local) 20) (tlc_bytes t hash remote local) out

-- ---- unlocks

abbrev pub witness_len : Bool → ℕ
witness_len flag = cond flag 99 67

-- a flag is written as 0 or 1
abbrev pub flag_byte : Bool → ℕ
flag_byte flag = cond flag 1 0

-- byte 1, flag 1, signature 65, and preimage 32 exactly if the flag is 1
unfoldable pub unlock_bytes : Unlock → List ℕ → List ℕ → List ℕ
unlock_bytes u signature preimage = u.byte ∷ (flag_byte u.flag ∷ (signature ++ preimage))

-- every flag but 1 is read as none; an unlock below 67 bytes, or below 99 with flag 1: 4 at its first byte
unfoldable pub read_unlock : List ℕ → ℕ → Result Unlock Refusal
read_unlock s at =
    let flag = eqb (get_or s (at + 1) 0) 1 in
    cond (leb (at + witness_len flag) (length s))
    (Ok (record { byte = get_or s at 0; flag = flag }))
    (Err (UnlockCut at))

unfoldable pub wrote_unlock : Unlock → List ℕ → List ℕ → List ℕ → Outcome (Result ℕ Refusal)
wrote_unlock u signature preimage out =
    outcome (eqb (length signature) 65 && eqb (length preimage) (witness_len u.flag - 67)) (unlock_bytes u signature preimage) out
