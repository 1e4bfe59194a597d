-- Laws of the parts of a state: those of a first state are sound, a sound state has the parts that it is made of, and a record is as long in the
-- book as in the update.
-- Assumes nothing.
use Prim.Native.Nat.{ℕ, zero, suc, ◌+◌, ◌*◌, ◌≤◌}
use native.Mathlib.Nat.{zero-mul, suc-mul}
use native.Mathlib.Omega.{arith}
use mathlib.Core.Path.{◌≡◌, sym, ap, ◌∙◌}
use mathlib.Core.List.{List, ◌∷◌, map}
use lib.ListN.{length, get_or, drop}
use lib.Seq.{drop-drop}
use Rattle.fiber_bytes.specs.Bytes.{part}
use Rattle.fiber_witness.specs.Witness.{record_len, chunks, state_bytes, read_witness, whole}
use Rattle.fiber_witness.proofs.WitnessLaws.{read_fine, records_none, records_more, records_length}
use Rattle.fiber_witness.proofs.StateLaws.{Sound, state_tlcs, state_remote, state_local, parts_sound, parts_state}
use Rattle.fiber_choice.specs.declared.kinds.Side.{Side}
use Rattle.fiber_choice.specs.declared.kinds.Side.TheVariants.{Remote, Local}
use Rattle.book.specs.Book.{tlc_len, places_from, tlcs_in, share_in}
use Rattle.book.specs.Demand3.{FirstState}

-- the layout's length of a record is the update's
pub same_length : (h : ℕ) → tlc_len h ≡ record_len h
unfolding tlc_len
same_length h = omega arith

-- and its TLCs, by their places, are those that stand one behind the other
places_chunks : (k : ℕ) (s : List ℕ) (i n : ℕ) → map (λ (j : ℕ). part s (1 + j * k) k) (places_from i n) ≡ chunks k n (drop (1 + i * k) s)
unfolding places_from
places_chunks k s i zero = sym (records_none k (drop (1 + i * k) s))
places_chunks k s i (suc n) =
    let e : 1 + suc i * k ≡ 1 + i * k + k = omega (arith, suc-mul i k) in
    ap (λ (rs : List (List ℕ)). part s (1 + i * k) k ∷ rs) (places_chunks k s (suc i) n ∙ ap (λ (l : List ℕ). chunks k n l) (ap (λ (m : ℕ). drop m s) e ∙ sym (drop-drop k (1 + i * k) s)))
    ∙ sym (records_more k n (drop (1 + i * k) s))

same_tlcs : (h : ℕ) (s : List ℕ) → tlcs_in h s ≡ chunks (record_len h) (get_or s 0 0) (drop 1 s)
unfolding tlcs_in
same_tlcs h s = rw (same_length h) (rw zero-mul at (places_chunks (record_len h) s 0 (get_or s 0 0)))

-- what a channel can keep, with both shares by their side
abbrev pub SoundParts : ℕ → List (List ℕ) → (Side → List ℕ) → Type 0
SoundParts h rs shares = Sound h rs (shares Remote) (shares Local)

-- a sound state has the parts that it is made of
module _ {h : ℕ} {rs : List (List ℕ)} (shares : Side → List ℕ) (ok : SoundParts h rs shares) where
  pub tlcs_of : tlcs_in h (state_bytes rs (shares Remote) (shares Local)) ≡ rs
  tlcs_of = same_tlcs h (state_bytes rs (shares Remote) (shares Local)) ∙ state_tlcs ok

  pub share_of_lem : (side : Side) → share_in h (state_bytes rs (shares Remote) (shares Local)) side ≡ shares side
  unfolding share_in
  share_of_lem Remote = rw (same_length h) (state_remote ok)
  share_of_lem Local = rw (same_length h) (state_local ok)

-- a first state's parts are sound, and it is the state of them
module _ {h : ℕ} {s : List ℕ} (first : FirstState h s) where
  long : length s ≡ 1 + get_or s 0 0 * record_len h + 72
  long = rw (same_length h) at first.size

  pub first_count : length (tlcs_in h s) ≡ get_or s 0 0
  first_count = ap length (same_tlcs h s) ∙ records_length (record_len h) (get_or s 0 0) (drop 1 s)

  pub first_sound : SoundParts h (tlcs_in h s) (share_in h s)
  unfolding share_in
  first_sound = rw (same_tlcs h s, same_length h) (parts_sound h s long first.hash (omega (arith, first.count)))

  pub first_state_lem : state_bytes (tlcs_in h s) (share_in h s Remote) (share_in h s Local) ≡ s
  unfolding share_in
  first_state_lem = rw (same_tlcs h s, same_length h) (parts_state h s long)

-- whatever the reader takes whole, without an unlock behind it and with a byte for its count, is a first state
pub read_first : (h : ℕ) (s : List ℕ) (n share_place : ℕ) → read_witness h (0 ∷ s) ≡ whole n 0 share_place (1 + length s) → get_or s 0 0 ≤ 255 → FirstState h s
read_first h s n share_place e f =
    let r = read_fine h (0 ∷ s) _ e in
    let k : n * record_len h ≡ get_or s 0 0 * record_len h = ap (λ (m : ℕ). m * record_len h) r.count in
    record { hash = r.hash; count = omega arith; size = rw (same_length h) (omega (arith, r.tlcs, r.unlocks, k)) }
