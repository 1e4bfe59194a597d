-- Both directions of each layout: what was written reads back, and what was read and written is the same bytes (an unlock's flag aside).
-- Assumes nothing.
use Prim.Native.Nat.{ℕ, zero, suc, ◌+◌, ◌-◌, ◌*◌, ◌/◌, ◌%◌, ◌^◌, ◌≤◌, ◌<◌}
use native.Mathlib.Nat.{pow-zero, pow-suc, div-lt_iff_lt-mul}
use native.Mathlib.Omega.{arith}
use mathlib.Core.Path.{◌≡◌, refl, sym, ap, ap₂, ◌∙◌}
use mathlib.Core.Bool.{Bool, true, false, cond}
use mathlib.Core.Logic.{⊎_elim}
use mathlib.Core.List.{List, [], ◌∷◌, ◌++◌, append_assoc}
use lib.Dec.{eqb, leb, lit<}
use lib.ListN.{length, get_or, take, drop, set, length-append, length-take, get_or-eq_default}
use lib.Seq.{take_at, drop_at, drop-drop, get_or_at, get_or-take, get_or-drop}
use borrow.Author.Tests.{leb-true, leb-false}
use Rattle.std.proofs.lemmas.Bool.{cases_lt}
use Rattle.std.specs.Prelude.{Result, Ok, Err}
use Rattle.fiber_refusal.specs.declared.Refusal.{Refusal}
use Rattle.fiber_refusal.specs.declared.Refusal.TheVariants.{TlcCut, UnlockCut, NotWell}
use Rattle.fiber_types.specs.declared.tlc.Tlc.{Tlc}
use Rattle.fiber_types.specs.declared.unlock.Unlock.{Unlock}
use Rattle.fiber_bytes.specs.Bytes.{part, le, le_bytes}
use Rattle.fiber_types.specs.HashLen.{valid_hash_len}
use Rattle.fiber_types.specs.Records.{amount_of, amount_at, tlc_bytes, tlc_at, payment_hash, key_hash_in, read_tlc, witness_len, flag_byte, unlock_bytes, read_unlock}
use Rattle.fiber_bytes.proofs.BytesLaws.{part_add, part_length, part_one, le_add, le_bytes_length}
use Rattle.fiber_types.proofs.RecordsLaws.{tlc_bytes_length, unlock_bytes_length, tlc_whole, tlc_fields, unlock_whole, at_least, amount_both}

-- every element is a byte
pub Bytes : List ℕ → Type 0
Bytes s = (k : ℕ) → get_or s k 0 < 256

pub all_bytes : (s : List ℕ) → ((k : ℕ) → get_or s k 0 < 256) → Bytes s
unfolding Bytes
all_bytes s h = h

-- ---- numbers

pub le_le_bytes : (n x : ℕ) → x < 256 ^ n → le (le_bytes n x) ≡ x
unfolding le le_bytes
le_le_bytes zero x h = omega (arith, pow-zero 256)
le_le_bytes (suc n) x h =
    let q : x / 256 < 256 ^ n = (div-lt_iff_lt-mul (lit< tt)).1 (omega (arith, pow-suc 256 n)) in
    omega (arith, le_le_bytes n (x / 256) q)

pub le_bytes_le : (xs : List ℕ) → Bytes xs → le_bytes (length xs) (le xs) ≡ xs
unfolding le le_bytes Bytes
le_bytes_le [] h = refl
le_bytes_le (x ∷ xs) h =
    let b : x < 256 = h 0 in
    let m : (x + 256 * le xs) % 256 ≡ x = omega arith in
    let d : (x + 256 * le xs) / 256 ≡ le xs = omega arith in
    rw (m, d) (ap (λ (l : List ℕ). x ∷ l) (le_bytes_le xs (λ k. h (suc k))))

-- an amount's two halves are the number in its 16 bytes
pub amount_is : (s : List ℕ) (at : ℕ) → at + 16 ≤ length s → amount_of (amount_at s at) ≡ le (part s at 16)
unfolding amount_of amount_at
amount_is s at h = sym (le_add s at 8 8 (omega arith))

-- ---- parts

part_in : (s p a r : List ℕ) (at n : ℕ) → s ≡ p ++ (a ++ r) → length p ≡ at → length a ≡ n → part s at n ≡ a
part_in s p a r at n e f g = rw (e, drop_at p (a ++ r) at f) (take_at a r n g)

cut : (s : List ℕ) (at m n k b : ℕ) → k ≡ m + n → b ≡ at + m → part s at k ≡ part s at m ++ part s b n
cut s at m n k b e f = rw (e, f) (part_add s at m n)

pub part_bytes : (s : List ℕ) (at n : ℕ) → Bytes s → Bytes (part s at n)
unfolding Bytes
part_bytes s at n h k = ⊎_elim within past (cases_lt k n)
  where
    past : n ≤ k → get_or (part s at n) k 0 < 256
    past g =
        let l : length (part s at n) ≤ k = omega (arith, length-take n (drop at s)) in
        rw (get_or-eq_default (part s at n) 0 l) (lit< tt)

    within : k < n → get_or (part s at n) k 0 < 256
    within g = rw (get_or-take n (drop at s) k 0 g, get_or-drop at s k 0) (h (at + k))

-- eight bytes, read and written
again : (s : List ℕ) (at : ℕ) → Bytes s → at + 8 ≤ length s → le_bytes 8 (le (part s at 8)) ≡ part s at 8
again s at h g = ap (λ (n : ℕ). le_bytes n (le (part s at 8))) (sym (part_length s at 8 g)) ∙ le_bytes_le (part s at 8) (part_bytes s at 8 h)

-- ---- TLCs

-- a TLC's numbers within their bytes
pub record TlcFits (t : Tlc) : Type 0 where
  pub low : t.amount.low < 2 ^ 64
  pub high : t.amount.high < 2 ^ 64
  pub expiry : t.expiry < 2 ^ 64

-- where its three parts stand in s
module _ (h : ℕ) (s : List ℕ) (at : ℕ) where
  hash_at : payment_hash h (drop at s) ≡ part s (at + 17) h
  unfolding payment_hash
  hash_at = ap (take h) (drop-drop 17 at s)

  slot_at : (local : Bool) (place : ℕ) → at + (cond local 37 17 + h) ≡ place → key_hash_in h local (drop at s) ≡ part s place 20
  unfolding key_hash_in
  slot_at local place e = ap (take 20) (drop-drop (cond local 37 17 + h) at s) ∙ ap (λ (k : ℕ). part s k 20) e

-- What reading finds in s at a place: the TLC, and its three parts.
pub record TlcBack (h : ℕ) (s : List ℕ) (at : ℕ) (t : Tlc) (a b c : List ℕ) : Type 0 where
  pub tlc : read_tlc h s at ≡ Ok t
  pub hash : payment_hash h (drop at s) ≡ a
  pub remote : key_hash_in h false (drop at s) ≡ b
  pub local : key_hash_in h true (drop at s) ≡ c

module _ (t : Tlc) (hash remote local p q : List ℕ) (w : TlcFits t) (k : valid_hash_len (length hash) ≡ true) (e : length remote ≡ 20) (f : length local ≡ 20) where
  abbrev low : List ℕ
  low = le_bytes 8 t.amount.low

  abbrev high : List ℕ
  high = le_bytes 8 t.amount.high

  abbrev end : List ℕ
  end = le_bytes 8 t.expiry

  -- the witness: p, the record, q
  abbrev whole : List ℕ
  whole = p ++ (tlc_bytes t hash remote local ++ q)

  low_part : part whole (length p + 1) 8 ≡ low
  unfolding tlc_bytes
  low_part = part_in whole (p ++ (t.kind ∷ [])) low (high ++ (hash ++ (remote ++ (local ++ (end ++ q))))) (length p + 1) 8 (simp append_assoc) (length-append p (t.kind ∷ [])) (le_bytes_length 8 _)

  high_part : part whole (length p + 1 + 8) 8 ≡ high
  unfolding tlc_bytes
  high_part =
      part_in whole (p ++ (t.kind ∷ low)) high (hash ++ (remote ++ (local ++ (end ++ q)))) (length p + 1 + 8) 8 (simp append_assoc)
      (length-append p (t.kind ∷ low) ∙ omega (arith, le_bytes_length 8 t.amount.low)) (le_bytes_length 8 _)

  abbrev front : List ℕ
  front = t.kind ∷ (low ++ high)

  front_length : length front ≡ 17
  front_length = omega (arith, length-append low high, le_bytes_length 8 t.amount.low, le_bytes_length 8 t.amount.high)

  hash_part : part whole (length p + 17) (length hash) ≡ hash
  unfolding tlc_bytes
  hash_part =
      part_in whole (p ++ front) hash (remote ++ (local ++ (end ++ q))) (length p + 17) (length hash) (simp append_assoc) (length-append p front ∙ omega (arith, front_length)) refl

  remote_part : part whole (length p + 17 + length hash) 20 ≡ remote
  unfolding tlc_bytes
  remote_part =
      part_in whole (p ++ (front ++ hash)) remote (local ++ (end ++ q)) (length p + 17 + length hash) 20 (simp append_assoc)
      (length-append p (front ++ hash) ∙ omega (arith, length-append front hash, front_length)) e

  local_part : part whole (length p + 37 + length hash) 20 ≡ local
  unfolding tlc_bytes
  local_part =
      part_in whole (p ++ (front ++ (hash ++ remote))) local (end ++ q) (length p + 37 + length hash) 20 (simp append_assoc)
      (length-append p (front ++ (hash ++ remote)) ∙ omega (arith, length-append front (hash ++ remote), length-append hash remote, front_length, e)) f

  expiry_part : part whole (length p + 57 + length hash) 8 ≡ end
  unfolding tlc_bytes
  expiry_part =
      part_in whole (p ++ (front ++ (hash ++ (remote ++ local)))) end q (length p + 57 + length hash) 8 (simp append_assoc)
      (length-append p (front ++ (hash ++ (remote ++ local)))
      ∙ omega (arith, length-append front (hash ++ (remote ++ local)), length-append hash (remote ++ local), length-append remote local, front_length, e, f))
      (le_bytes_length 8 _)

  room : length p + (65 + length hash) ≤ length whole
  room = omega (arith, length-append p (tlc_bytes t hash remote local ++ q), length-append (tlc_bytes t hash remote local) q, tlc_bytes_length t hash remote local, e, f)

  kind_at : get_or whole (length p) 0 ≡ t.kind
  unfolding tlc_bytes
  kind_at = get_or_at p t.kind _ 0 (length p) refl

  same : t ≡ tlc_at (length hash) whole (length p)
  same =
      let l : t.amount.low ≡ le (part whole (length p + 1) 8) = sym (ap le low_part ∙ le_le_bytes 8 _ w.low) in
      let h : t.amount.high ≡ le (part whole (length p + 1 + 8) 8) = sym (ap le high_part ∙ le_le_bytes 8 _ w.high) in
      let x : t.expiry ≡ le (part whole (length p + 57 + length hash) 8) = sym (ap le expiry_part ∙ le_le_bytes 8 _ w.expiry) in
      tlc_fields (length hash) whole (length p) _ _ _ (sym kind_at) (amount_both whole (length p + 1) t.amount.low t.amount.high l h) x

  -- What was written reads back.
  pub tlc_reads_back : TlcBack (length hash) whole (length p) t hash remote local
  tlc_reads_back = record {
    tlc = tlc_whole (length hash) whole (length p) k room ∙ ap Ok (sym same);
    hash = hash_at (length hash) whole (length p) ∙ hash_part;
    remote = slot_at (length hash) whole (length p) false (length p + 17 + length hash) (omega arith) ∙ remote_part;
    local = slot_at (length hash) whole (length p) true (length p + 37 + length hash) (omega arith) ∙ local_part;
  }

-- what a TLC that was read says of the slice
tlc_read : (h : ℕ) (s : List ℕ) (at : ℕ) (t : Tlc) → read_tlc h s at ≡ Ok t
    → (at + (65 + h) ≤ length s) × (t ≡ tlc_at h s at)
unfolding read_tlc
tlc_read h s at t e = go (valid_hash_len h) (leb (at + (65 + h)) (length s)) refl e
  where
    go : (a b : Bool) → leb (at + (65 + h)) (length s) ≡ b
        → cond a (cond b (Ok (tlc_at h s at)) (Err (TlcCut at))) (Err NotWell) ≡ Ok t
        → (at + (65 + h) ≤ length s) × (t ≡ tlc_at h s at)
    go true true p e = (leb-true (at + (65 + h)) (length s) p, cc)
    go true false p e = let z : ◌≡◌ {A = ℕ} 0 1 = cc in absurd (omega arith)
    go false b p e = let z : ◌≡◌ {A = ℕ} 0 1 = cc in absurd (omega arith)

-- What was read and written is the same bytes.
pub tlc_same_bytes : (h : ℕ) (s : List ℕ) (at : ℕ) (t : Tlc) → Bytes s → read_tlc h s at ≡ Ok t
    → tlc_bytes t (payment_hash h (drop at s)) (key_hash_in h false (drop at s)) (key_hash_in h true (drop at s)) ≡ part s at (65 + h)
unfolding tlc_bytes tlc_at amount_at
tlc_same_bytes h s at t w e =
    let r = tlc_read h s at t e in
    let l : at + (65 + h) ≤ length s = r.0 in
    rw (hash_at h s at, slot_at h s at false (at + 17 + h) (omega arith), slot_at h s at true (at + 37 + h) (omega arith), r.1, again s (at + 1) w (omega arith), again s (at + 1 + 8) w (omega arith), again s (at + 57 + h) w (omega arith))
    (sym
    (cut s at 1 (64 + h) (65 + h) (at + 1) (omega arith) refl
    ∙ ap₂ ◌++◌ (part_one s at (omega arith))
    (cut s (at + 1) 8 (56 + h) (64 + h) (at + 1 + 8) (omega arith) refl
    ∙ ap (λ (x : List ℕ). part s (at + 1) 8 ++ x)
    (cut s (at + 1 + 8) 8 (48 + h) (56 + h) (at + 17) (omega arith) (omega arith)
    ∙ ap (λ (x : List ℕ). part s (at + 1 + 8) 8 ++ x)
    (cut s (at + 17) h 48 (48 + h) (at + 17 + h) (omega arith) refl
    ∙ ap (λ (x : List ℕ). part s (at + 17) h ++ x)
    (cut s (at + 17 + h) 20 28 48 (at + 37 + h) refl (omega arith)
    ∙ ap (λ (x : List ℕ). part s (at + 17 + h) 20 ++ x) (cut s (at + 37 + h) 20 8 28 (at + 57 + h) refl (omega arith))))))))

-- ---- unlocks

-- What reading finds in s at a place: the unlock, and its two parts.
pub record UnlockBack (s : List ℕ) (at : ℕ) (u : Unlock) (a b : List ℕ) : Type 0 where
  pub unlock : read_unlock s at ≡ Ok u
  pub signature : part s (at + 2) 65 ≡ a
  pub preimage : part s (at + 67) (witness_len u.flag - 67) ≡ b

flag_back : (f : Bool) → f ≡ eqb (flag_byte f) 1
flag_back true = refl
flag_back false = refl

module _ (u : Unlock) (signature preimage p q : List ℕ) (e : length signature ≡ 65) (f : length preimage ≡ witness_len u.flag - 67) where
  abbrev witness : List ℕ
  witness = p ++ (unlock_bytes u signature preimage ++ q)

  byte_at : get_or witness (length p) 0 ≡ u.byte
  unfolding unlock_bytes
  byte_at = get_or_at p u.byte _ 0 (length p) refl

  flag_at : get_or witness (length p + 1) 0 ≡ flag_byte u.flag
  unfolding unlock_bytes
  flag_at =
      ap (λ (l : List ℕ). get_or l (length p + 1) 0) (sym (append_assoc p (u.byte ∷ []) (flag_byte u.flag ∷ ((signature ++ preimage) ++ q))))
      ∙ get_or_at (p ++ (u.byte ∷ [])) (flag_byte u.flag) _ 0 (length p + 1) (length-append p (u.byte ∷ []))

  fits : length p + witness_len u.flag ≤ length witness
  fits =
      omega (arith, at_least u.flag, length-append p (unlock_bytes u signature preimage ++ q), length-append (unlock_bytes u signature preimage) q, unlock_bytes_length u signature preimage)

  signature_part : part witness (length p + 2) 65 ≡ signature
  unfolding unlock_bytes
  signature_part =
      part_in witness (p ++ (u.byte ∷ (flag_byte u.flag ∷ []))) signature (preimage ++ q) (length p + 2) 65 (simp append_assoc)
      (length-append p (u.byte ∷ (flag_byte u.flag ∷ []))) e

  preimage_part : part witness (length p + 67) (witness_len u.flag - 67) ≡ preimage
  unfolding unlock_bytes
  preimage_part =
      part_in witness (p ++ (u.byte ∷ (flag_byte u.flag ∷ signature))) preimage q (length p + 67) (witness_len u.flag - 67) (simp append_assoc)
      (length-append p (u.byte ∷ (flag_byte u.flag ∷ signature)) ∙ omega (arith, e)) f

  -- What was written reads back.
  pub unlock_reads_back : UnlockBack witness (length p) u signature preimage
  unlock_reads_back = record {
    unlock =
        sym
        (ap (λ (b : ℕ). Ok (record { byte = b; flag = u.flag })) (sym byte_at)
        ∙ unlock_whole witness (length p) u.flag (flag_back u.flag ∙ ap (λ (b : ℕ). eqb b 1) (sym flag_at)) fits);
    signature = signature_part;
    preimage = preimage_part;
  }

-- what an unlock that was turned down says
pub unlock_refused : (s : List ℕ) (at : ℕ) (r : Refusal) → read_unlock s at ≡ Err r
    → (length s < at + witness_len (eqb (get_or s (at + 1) 0) 1)) × (r ≡ UnlockCut at)
unfolding read_unlock
unlock_refused s at r e = go (leb (at + witness_len (eqb (get_or s (at + 1) 0) 1)) (length s)) refl e
  where
    go : (b : Bool) → leb (at + witness_len (eqb (get_or s (at + 1) 0) 1)) (length s) ≡ b
        → cond {A = Result Unlock Refusal} b (Ok (record { byte = get_or s at 0; flag = eqb (get_or s (at + 1) 0) 1 })) (Err (UnlockCut at)) ≡ Err r
        → (length s < at + witness_len (eqb (get_or s (at + 1) 0) 1)) × (r ≡ UnlockCut at)
    go true q f = let z : ◌≡◌ {A = ℕ} 0 1 = cc in absurd (omega arith)
    go false q f = (leb-false (at + witness_len (eqb (get_or s (at + 1) 0) 1)) (length s) q, cc)

-- what an unlock that was read says of the slice
pub unlock_read : (s : List ℕ) (at : ℕ) (u : Unlock) → read_unlock s at ≡ Ok u
    → (at + witness_len u.flag ≤ length s) × (u ≡ record { byte = get_or s at 0; flag = eqb (get_or s (at + 1) 0) 1 })
unfolding read_unlock
unlock_read s at u e = go (eqb (get_or s (at + 1) 0) 1) (leb (at + witness_len (eqb (get_or s (at + 1) 0) 1)) (length s)) refl refl e
  where
    go : (a b : Bool) → eqb (get_or s (at + 1) 0) 1 ≡ a → leb (at + witness_len (eqb (get_or s (at + 1) 0) 1)) (length s) ≡ b
        → cond b (Ok (record { byte = get_or s at 0; flag = eqb (get_or s (at + 1) 0) 1 })) (Err (UnlockCut at)) ≡ Ok u
        → (at + witness_len u.flag ≤ length s) × (u ≡ record { byte = get_or s at 0; flag = eqb (get_or s (at + 1) 0) 1 })
    go a true p q e =
        let r : u ≡ record { byte = get_or s at 0; flag = eqb (get_or s (at + 1) 0) 1 } = cc in
        (rw r (leb-true (at + witness_len (eqb (get_or s (at + 1) 0) 1)) (length s) q), r)
    go a false p q e = let z : ◌≡◌ {A = ℕ} 0 1 = cc in absurd (omega arith)

-- What was read and written is the same bytes but for the flag, which is written as 0 or 1.
pub unlock_same_bytes : (s : List ℕ) (at : ℕ) (u : Unlock) → read_unlock s at ≡ Ok u
    → unlock_bytes u (part s (at + 2) 65) (part s (at + 67) (witness_len u.flag - 67)) ≡ set (part s at (witness_len u.flag)) 1 (flag_byte u.flag)
unfolding unlock_bytes
unlock_same_bytes s at u e =
    let r = unlock_read s at u e in
    let l = r.0 in
    let m = at_least u.flag in
    let n : witness_len u.flag ≡ 1 + (1 + (65 + (witness_len u.flag - 67))) = omega arith in
    let whole : part s at (witness_len u.flag) ≡ get_or s at 0 ∷ (get_or s (at + 1) 0 ∷ (part s (at + 2) 65 ++ part s (at + 67) (witness_len u.flag - 67))) =
    cut s at 1 (1 + (65 + (witness_len u.flag - 67))) (witness_len u.flag) (at + 1) n refl
    ∙ ap₂ ◌++◌ (part_one s at (omega arith))
    (cut s (at + 1) 1 (65 + (witness_len u.flag - 67)) (1 + (65 + (witness_len u.flag - 67))) (at + 2) refl (omega arith)
    ∙ ap₂ ◌++◌ (part_one s (at + 1) (omega arith)) (cut s (at + 2) 65 (witness_len u.flag - 67) (65 + (witness_len u.flag - 67)) (at + 67) refl (omega arith))) in
    let b : u.byte ≡ get_or s at 0 = ap (λ (v : Unlock). v.byte) r.1 in
    rw (whole, b)
