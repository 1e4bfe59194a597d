-- Laws of `specs/Records.antt`: the definitions by their tests, and both directions of each layout.
-- Assumes nothing.
use Prim.Native.Nat.{ℕ, suc, ◌+◌, ◌-◌, ◌^◌, ◌≤◌, ◌<◌, min}
use native.Mathlib.Omega.{arith}
use mathlib.Core.Path.{◌≡◌, refl, sym, ap, ap₂, ◌∙◌}
use mathlib.Core.Bool.{Bool, true, false, ◌&&◌, ◌||◌}
use mathlib.Core.List.{List, ◌∷◌, ◌++◌, append_assoc}
use lib.Dec.{eqb, leb, lit≤}
use lib.ListN.{length, get_or, drop, length-append, length-take, set}
use lib.Seq.{sets, length-sets}
use borrow.Author.Tests.{le-leb, lt-leb, leb-true, eq-eqb, eqb-true}
use Rattle.std.specs.Prelude.{Result, Ok, Err}
use Rattle.fiber_refusal.specs.declared.Refusal.{Refusal}
use Rattle.fiber_refusal.specs.declared.Refusal.TheVariants.{OutputShort, NotWell}
use Rattle.fiber_types.specs.declared.tlc.Amount.{Amount}
use Rattle.fiber_types.specs.declared.tlc.Tlc.{Tlc}
use Rattle.fiber_types.specs.declared.unlock.Unlock.{Unlock}
use Rattle.fiber_bytes.specs.Bytes.{part, le, le_bytes}
use Rattle.fiber_types.specs.HashLen.{valid_hash_len}
use Rattle.fiber_types.specs.Records.{outcome, amount_at, amount_bytes, tlc_bytes, tlc_at, payment_hash, read_tlc, wrote_tlc, witness_len, flag_byte, unlock_bytes, read_unlock, wrote_unlock, unwritten}
use Rattle.fiber_bytes.proofs.BytesLaws.{part_part, le_bytes_length, sets_append, sets_capped, sets_then}

-- ---- reading

module _ (h : ℕ) (s : List ℕ) (at : ℕ) where
  pub tlc_whole : valid_hash_len h ≡ true → at + (65 + h) ≤ length s → read_tlc h s at ≡ Ok (tlc_at h s at)
  unfolding read_tlc
  tlc_whole e g = rw (e, le-leb (at + (65 + h)) (length s) g)

  -- its numbers
  pub tlc_fields : (k : ℕ) (a : Amount) (x : ℕ) → k ≡ get_or s at 0 → a ≡ amount_at s (at + 1) → x ≡ le (part s (at + 57 + h) 8)
      → record { kind = k; amount = a; expiry = x } ≡ tlc_at h s at
  unfolding tlc_at
  tlc_fields k a x e f g = rw (e, f, g)

-- a record's hash has at most h bytes, and as many where the record is whole
pub payment_hash_length : (h : ℕ) (r : List ℕ) → length (payment_hash h r) ≤ h
unfolding payment_hash
payment_hash_length h r = omega (arith, length-take h (drop 17 r))

-- 20 is one, and 32
pub hash_len_20 : valid_hash_len 20 ≡ true
unfolding valid_hash_len
hash_len_20 = refl

pub hash_len_32 : valid_hash_len 32 ≡ true
unfolding valid_hash_len
hash_len_32 = refl

pub hash_len_small : (h : ℕ) → valid_hash_len h ≡ true → h ≤ 32
unfolding valid_hash_len
hash_len_small h e = go (eqb h 20) (eqb h 32) refl refl e
  where
    go : (a b : Bool) → eqb h 20 ≡ a → eqb h 32 ≡ b → (a || b) ≡ true → h ≤ 32
    go true b p q r = omega (arith, eqb-true h 20 p)
    go false true p q r = omega (arith, eqb-true h 32 q)
    go false false p q r = let z : ◌≡◌ {A = ℕ} 0 1 = cc in absurd (omega arith)

module _ (s : List ℕ) (at : ℕ) where
  pub unlock_whole : (t : Bool) → t ≡ eqb (get_or s (at + 1) 0) 1 → at + witness_len t ≤ length s
      → Ok (record { byte = get_or s at 0; flag = t }) ≡ read_unlock s at
  unfolding read_unlock
  unlock_whole t e h = rw (← e, le-leb (at + witness_len t) (length s) h)

module _ (s : List ℕ) (at : ℕ) where
  pub amount_both : (x y : ℕ) → x ≡ le (part s at 8) → y ≡ le (part s (at + 8) 8) → record { low = x; high = y } ≡ amount_at s at
  unfolding amount_at
  amount_both x y e f = rw (e, f)

-- an amount within a part is the amount at its place
pub amount_part : (s : List ℕ) (at n i : ℕ) → i + 16 ≤ n → amount_at (part s at n) i ≡ amount_at s (at + i)
unfolding amount_at
amount_part s at n i h =
    let e : at + (i + 8) ≡ at + i + 8 = omega arith in
    rw (part_part s at n i 8 (omega arith), part_part s at n (i + 8) 8 (omega arith), e)

-- ---- writing

module _ (ok : Bool) (bytes out : List ℕ) where
  module _ (e : ok ≡ true) (n : ℕ) (f : length bytes ≡ n) where
    pub outcome_short : length out < n → (Err (OutputShort n) ≡ (outcome ok bytes out).answer) × (out ≡ (outcome ok bytes out).bytes)
    unfolding outcome
    outcome_short g = (rw (e, f, lt-leb n (length out) g), rw (e, f, lt-leb n (length out) g))

    pub outcome_whole : n ≤ length out → (out' : List ℕ) → out' ≡ sets out 0 bytes → (Ok n ≡ (outcome ok bytes out).answer) × (out' ≡ (outcome ok bytes out).bytes)
    unfolding outcome
    outcome_whole g out' d = (rw (e, f, le-leb n (length out) g), rw (e, f, le-leb n (length out) g) d)

-- an amount's bytes, alone and behind others
pub amount_bytes_length : (a : Amount) → length (amount_bytes a) ≡ 16
unfolding amount_bytes
amount_bytes_length a = omega (arith, length-append (le_bytes 8 a.low) (le_bytes 8 a.high), le_bytes_length 8 a.low, le_bytes_length 8 a.high)

pub amount_behind : (s : List ℕ) (a : Amount) → s ++ amount_bytes a ≡ s ++ le_bytes 8 a.low ++ le_bytes 8 a.high
unfolding amount_bytes
amount_behind s a = sym (append_assoc s (le_bytes 8 a.low) (le_bytes 8 a.high))

-- its halves, one behind the other: where the second place stops at the greatest number neither has room
pub amount_puts : (o o₁ o₂ : List ℕ) (at j : ℕ) (a : Amount) → length o < 2 ^ 64 → j ≡ min (at + 8) (2 ^ 64 - 1)
    → o₁ ≡ sets o at (le_bytes 8 a.low) → o₂ ≡ sets o₁ j (le_bytes 8 a.high) → o₂ ≡ sets o at (amount_bytes a)
unfolding amount_bytes
amount_puts o o₁ o₂ at j a h m e f =
    let low = le_bytes 8 a.low in
    let high = le_bytes 8 a.high in
    let n : length o₁ ≡ length o = ap length e ∙ length-sets o at low in
    f
    ∙ ap (λ (k : ℕ). sets o₁ k high) m
    ∙ sets_capped high o₁ (at + 8) (2 ^ 64 - 1) (omega arith)
    ∙ ap₂ (λ (l : List ℕ) (k : ℕ). sets l k high) e (ap (λ (k : ℕ). at + k) (sym (le_bytes_length 8 a.low)))
    ∙ sym (sets_append low high o at)

-- what does not fit the layout, and what has no room
pub outcome_none : (bytes out : List ℕ) → outcome false bytes out ≡ unwritten (Err NotWell) out
unfolding outcome
outcome_none bytes out = refl

pub outcome_over : (bytes out : List ℕ) → length out < length bytes → outcome true bytes out ≡ unwritten (Err (OutputShort (length bytes))) out
unfolding outcome
outcome_over bytes out g = rw (lt-leb (length bytes) (length out) g)

-- what has room is written
pub outcome_room : (bytes out : List ℕ) → length bytes ≤ length out → outcome true bytes out ≡ record { answer = Ok (length bytes); bytes = sets out 0 bytes }
unfolding outcome
outcome_room bytes out g = rw (le-leb (length bytes) (length out) g)

-- what holds where the bytes are written, and where they have no room, holds of the outcome
pub outcome_by : (P : List ℕ → Result ℕ Refusal → Type 0) (bytes out : List ℕ)
    → (length bytes ≤ length out → P (sets out 0 bytes) (Ok (length bytes)))
    → P out (Err (OutputShort (length bytes)))
    → P (outcome true bytes out).bytes (outcome true bytes out).answer
unfolding outcome
outcome_by P bytes out f g = go (leb (length bytes) (length out)) refl
  where
    go : (b : Bool) → leb (length bytes) (length out) ≡ b → P (outcome true bytes out).bytes (outcome true bytes out).answer
    go true e = rw e (f (leb-true (length bytes) (length out) e))
    go false e = rw e g

-- the output stays as long as it is
pub outcome_length : (ok : Bool) (bytes out : List ℕ) → length (outcome ok bytes out).bytes ≡ length out
unfolding outcome
outcome_length false bytes out = refl
outcome_length true bytes out = outcome_by (λ o r. length o ≡ length out) bytes out (λ _. length-sets out 0 bytes) refl

module _ (t : Tlc) (hash remote local : List ℕ) where
  pub tlc_bytes_length : length (tlc_bytes t hash remote local) ≡ 25 + (length hash + length remote + length local)
  unfolding tlc_bytes
  tlc_bytes_length = simp (length-append, le_bytes_length) (omega arith)

  regroup : (((t.kind ∷ amount_bytes t.amount) ++ hash) ++ remote) ++ local ++ le_bytes 8 t.expiry ≡ tlc_bytes t hash remote local
  unfolding amount_bytes tlc_bytes
  regroup = simp append_assoc

  pub tlc_puts : (o o₁ o₂ o₃ o₄ o₅ : List ℕ) → o₁ ≡ sets (set o 0 t.kind) 1 (amount_bytes t.amount)
      → o₂ ≡ sets o₁ 17 hash → o₃ ≡ sets o₂ (17 + length hash) remote → o₄ ≡ sets o₃ (17 + length hash + length remote) local
      → o₅ ≡ sets o₄ (17 + length hash + length remote + length local) (le_bytes 8 t.expiry) → o₅ ≡ sets o 0 (tlc_bytes t hash remote local)
  tlc_puts o o₁ o₂ o₃ o₄ o₅ e₁ e₂ e₃ e₄ e₅ =
      let a₁ : List ℕ = t.kind ∷ amount_bytes t.amount in
      let a₂ : List ℕ = a₁ ++ hash in
      let a₃ : List ℕ = a₂ ++ remote in
      let n₁ : length a₁ ≡ 17 = ap suc (amount_bytes_length t.amount) in
      let n₂ : length a₂ ≡ 17 + length hash = length-append a₁ hash ∙ ap (λ (n : ℕ). n + length hash) n₁ in
      let n₃ : length a₃ ≡ 17 + length hash + length remote = length-append a₂ remote ∙ ap (λ (n : ℕ). n + length remote) n₂ in
      let n₄ : length (a₃ ++ local) ≡ 17 + length hash + length remote + length local = length-append a₃ local ∙ ap (λ (n : ℕ). n + length local) n₃ in
      let p₂ = sets_then o a₁ hash 17 e₁ e₂ (sym n₁) in
      let p₃ = sets_then o a₂ remote (17 + length hash) p₂ e₃ (sym n₂) in
      let p₄ = sets_then o a₃ local (17 + length hash + length remote) p₃ e₄ (sym n₃) in
      sets_then o (a₃ ++ local) (le_bytes 8 t.expiry) (17 + length hash + length remote + length local) p₄ e₅ (sym n₄) ∙ ap (sets o 0) regroup

module _ (u : Unlock) (signature preimage : List ℕ) where
  -- it begins with its byte, and its flag is read back
  pub unlock_bytes_byte : get_or (unlock_bytes u signature preimage) 0 0 ≡ u.byte
  unfolding unlock_bytes
  unlock_bytes_byte = refl

  pub unlock_bytes_flag : eqb (get_or (unlock_bytes u signature preimage) 1 0) 1 ≡ u.flag
  unfolding unlock_bytes
  unlock_bytes_flag = go u.flag
    where
      go : (b : Bool) → eqb (flag_byte b) 1 ≡ b
      go true = refl
      go false = refl

  pub unlock_bytes_length : length (unlock_bytes u signature preimage) ≡ 2 + (length signature + length preimage)
  unfolding unlock_bytes
  unlock_bytes_length = simp length-append (omega arith)

  pub unlock_puts : (o o₁ o₂ : List ℕ) (f : ℕ) → f ≡ flag_byte u.flag → o₁ ≡ sets (set (set o 0 u.byte) 1 f) 2 signature → o₂ ≡ sets o₁ (2 + length signature) preimage
      → o₂ ≡ sets o 0 (unlock_bytes u signature preimage)
  unfolding unlock_bytes
  unlock_puts o o₁ o₂ f d e₁ e₂ =
      let p : o₁ ≡ sets o 0 (u.byte ∷ (flag_byte u.flag ∷ signature)) = rw (← d) e₁ in
      sets_then o (u.byte ∷ (flag_byte u.flag ∷ signature)) preimage (2 + length signature) p e₂ (omega arith)

-- ---- what is written, by the tests

pub at_least : (f : Bool) → 67 ≤ witness_len f
at_least true = lit≤ tt
at_least false = lit≤ tt

module _ (t : Tlc) (hash remote local out : List ℕ) where
  module _ (k : valid_hash_len (length hash) ≡ true) (e : length remote ≡ 20) (f : length local ≡ 20) where
    fit : (valid_hash_len (length hash) && eqb (length remote) 20 && eqb (length local) 20) ≡ true
    fit = rw (k, e, f)

    size : length (tlc_bytes t hash remote local) ≡ 65 + length hash
    size = omega (arith, tlc_bytes_length t hash remote local)

    pub tlc_written : 65 + length hash ≤ length out → (out' : List ℕ) → out' ≡ sets out 0 (tlc_bytes t hash remote local)
        → (Ok (65 + length hash) ≡ (wrote_tlc t hash remote local out).answer) × (out' ≡ (wrote_tlc t hash remote local out).bytes)
    unfolding wrote_tlc
    tlc_written g out' d = outcome_whole _ (tlc_bytes t hash remote local) out fit _ size g out' d

module _ (u : Unlock) (signature preimage out : List ℕ) (n : ℕ) (w : n ≡ witness_len u.flag) where
  module _ (e : length signature ≡ 65) (f : length preimage ≡ n - 67) where
    fits : (eqb (length signature) 65 && eqb (length preimage) (witness_len u.flag - 67)) ≡ true
    fits = rw (e, ← w, eq-eqb (length preimage) (n - 67) f)

    len : length (unlock_bytes u signature preimage) ≡ n
    len = omega (arith, w, unlock_bytes_length u signature preimage, at_least u.flag)

    pub unlock_short : length out < n → (Err (OutputShort n) ≡ (wrote_unlock u signature preimage out).answer) × (out ≡ (wrote_unlock u signature preimage out).bytes)
    unfolding wrote_unlock
    unlock_short g = outcome_short _ (unlock_bytes u signature preimage) out fits n len g

    pub unlock_written : n ≤ length out → (out' : List ℕ) → out' ≡ sets out 0 (unlock_bytes u signature preimage)
        → (Ok n ≡ (wrote_unlock u signature preimage out).answer) × (out' ≡ (wrote_unlock u signature preimage out).bytes)
    unfolding wrote_unlock
    unlock_written g out' d = outcome_whole _ (unlock_bytes u signature preimage) out fits n len g out' d
