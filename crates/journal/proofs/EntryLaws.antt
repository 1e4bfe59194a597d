-- Laws of the bytes of one entry.
-- Assumes nothing.
use Prim.Native.Nat.{ℕ, suc, ◌+◌}
use native.Mathlib.Omega.{arith}
use mathlib.Core.Path.{◌≡◌, refl, sym, ap, ◌∙◌}
use mathlib.Core.List.{List, [], ◌∷◌, ◌++◌, append_assoc}
use lib.ListN.{length, get_or, set, length-append}
use lib.Seq.{sets, drop-cons}
use Rattle.std.specs.Int.{w32, from_le_bytes, to_le_bytes}
use Rattle.fiber_bytes.specs.Bytes.{part, le, le_bytes}
use Rattle.fiber_bytes.proofs.BytesLaws.{sets_append, le_bytes_length, le_wide, le_bytes_wide}
use Rattle.fiber_types.specs.Records.{amount_bytes}
use Rattle.fiber_types.proofs.RecordsLaws.{amount_bytes_length}
use Rattle.journal.specs.declared.entry.Entry.{Entry}
use Rattle.journal.specs.Chain.{trailer, own_length, pointer_of}
use Rattle.journal.specs.Journal.{body, body_of}

-- the four bytes at the end of an entry
pub own_four : (e : List ℕ) → length e ≡ 62 → from_le_bytes w32 (get_or e 58 0 ∷ (get_or e 59 0 ∷ (get_or e 60 0 ∷ (get_or e 61 0 ∷ [])))) ≡ own_length e
unfolding own_length
own_four e n =
    let four : List ℕ = get_or e 58 0 ∷ (get_or e 59 0 ∷ (get_or e 60 0 ∷ (get_or e 61 0 ∷ []))) in
    let last : four ≡ part e 58 4 = rw (drop-cons e 58 0 (omega arith), drop-cons e 59 0 (omega arith), drop-cons e 60 0 (omega arith), drop-cons e 61 0 (omega arith)) refl in
    le_wide w32 four (omega arith) refl ∙ rw n (ap le last)

-- the eight bytes in front of them
pub pointer_fifty : (e : List ℕ) → length e ≡ 62 → le (part e 50 8) ≡ pointer_of e
unfolding pointer_of
pointer_fifty e n = rw n refl

-- ---- an entry is written

-- a run of stores from a place on, and another right behind it
sets_next : (o a b : List ℕ) (at k : ℕ) {l₁ l₂ : List ℕ} → l₁ ≡ sets o at a → l₂ ≡ sets l₁ k b → k ≡ at + length a → l₂ ≡ sets o at (a ++ b)
sets_next o a b at k e f g = f ∙ ap (λ (l : List ℕ). sets l k b) e ∙ ap (λ (n : ℕ). sets (sets o at a) n b) g ∙ sym (sets_append a b o at)

pub entry_puts : (e : Entry) (o : List ℕ) (at before : ℕ) {o₁ o₂ o₃ o₄ : List ℕ} → o₁ ≡ sets o at e.channel
    → o₂ ≡ sets (set (set o₁ (at + 32) e.unlock) (at + 33) e.flag) (at + 34) (amount_bytes e.amount) → o₃ ≡ sets o₂ (at + 50) (le_bytes 8 before)
    → o₄ ≡ sets o₃ (at + 58) (to_le_bytes w32 62) → o₄ ≡ sets o at (body_of e ++ trailer before 62)
unfolding body trailer
entry_puts e o at before {o₁} {o₂} {o₃} {o₄} e₁ e₂ e₃ e₄ =
    let two : List ℕ = e.unlock ∷ (e.flag ∷ []) in
    let front : List ℕ = e.channel ++ two in
    let amount : List ℕ = amount_bytes e.amount in
    let back : List ℕ = le_bytes 8 before in
    let s : suc (at + 32) ≡ at + 33 = omega arith in
    let p₁ : set (set o₁ (at + 32) e.unlock) (at + 33) e.flag ≡ sets o₁ (at + 32) two = rw s refl in
    let own : o₄ ≡ sets o₃ (at + 58) (le_bytes 4 62) = e₄ ∙ ap (sets o₃ (at + 58)) (le_bytes_wide w32 62 62 refl refl) in
    let n₁ : length front ≡ 34 = omega (arith, length-append e.channel two, e.channel_32) in
    let n₂ : length (front ++ amount) ≡ 50 = omega (arith, length-append front amount, amount_bytes_length e.amount) in
    let n₃ : length ((front ++ amount) ++ back) ≡ 58 = omega (arith, length-append (front ++ amount) back, le_bytes_length 8 before) in
    let q₁ = sets_next o e.channel two at (at + 32) e₁ p₁ (omega (arith, e.channel_32)) in
    let q₂ = sets_next o front amount at (at + 34) q₁ e₂ (omega arith) in
    let q₃ = sets_next o (front ++ amount) back at (at + 50) q₂ e₃ (omega arith) in
    let same : ((front ++ amount) ++ back) ++ le_bytes 4 62 ≡ body_of e ++ trailer before 62 = simp append_assoc in
    sets_next o ((front ++ amount) ++ back) (le_bytes 4 62) at (at + 58) q₃ own (omega arith) ∙ ap (sets o at) same

pub body_length : (e : Entry) → length (body_of e) ≡ 50
unfolding body
body_length e = length-append e.channel (e.unlock ∷ (e.flag ∷ amount_bytes e.amount)) ∙ omega (arith, e.channel_32, amount_bytes_length e.amount)
