-- Laws of a sound state: its length, its parts, and how a witness that holds it is read and what is left of it.
-- Assumes nothing.
use Prim.Native.Nat.{ℕ, ◌+◌, ◌*◌, ◌≤◌}
use native.Mathlib.Omega.{arith}
use mathlib.Core.Path.{◌≡◌, refl, sym, ap, ◌∙◌}
use mathlib.Core.Bool.{true}
use mathlib.Core.List.{List, [], ◌∷◌, ◌++◌, append-nil, append_assoc, flatten}
use lib.ListN.{length, get_or, take, drop, length-append, length-drop}
use lib.Seq.{drop-cons, drop-drop, take_at, drop_at, take_all}
use Rattle.fiber_bytes.specs.Bytes.{part}
use Rattle.fiber_bytes.proofs.BytesLaws.{part_add, part_length}
use Rattle.fiber_types.specs.HashLen.{valid_hash_len}
use Rattle.fiber_witness.specs.Witness.{record_len, chunks, state_bytes, places, unless_cut, read_unlocks, read_tlcs, read_witness, whole, cut_at}
use Rattle.fiber_witness.specs.Update.{Taken, keep, share_left, state_left, state_after}
use Rattle.fiber_witness.specs.inner.Strided.{behind_tlcs}
use Rattle.fiber_witness.proofs.WitnessLaws.{shares_whole, witness_tlcs, Even, flatten_even, records_even, records_length, even_records, flatten_records, state_size}
use Rattle.fiber_witness.proofs.UpdateLaws.{keep_few, even_keep, left_length}

-- what a channel whose hashes have h bytes can keep
pub record Sound (h : ℕ) (rs : List (List ℕ)) (R L : List ℕ) : Type 0 where
  pub hash : valid_hash_len h ≡ true
  pub few : length rs ≤ 255
  pub even : Even (record_len h) rs
  pub remote : length R ≡ 36
  pub local : length L ≡ 36

-- what unlocks leave of it is sound
pub sound_left : {h : ℕ} {rs : List (List ℕ)} {R L : List ℕ} → Sound h rs R L → (t : Taken)
    → Sound h (keep t.settled 0 rs) (share_left t.remote R) (share_left t.local L)
sound_left {h} {rs} {R} {L} ok t = record {
  hash = ok.hash;
  few = omega (arith, keep_few t.settled rs 0, ok.few);
  even = even_keep t.settled 0 ok.even;
  remote = left_length t.remote R ok.remote;
  local = left_length t.local L ok.local;
}

-- ---- its bytes

module _ {h : ℕ} {rs : List (List ℕ)} {R L : List ℕ} (ok : Sound h rs R L) where
  -- the count, the TLCs, two shares
  pub sound_length : length (state_bytes rs R L) ≡ 1 + length rs * record_len h + 72
  sound_length = omega (arith, state_size rs R L ok.remote ok.local, flatten_even ok.even)

  -- the parts of a list that has the TLCs and the shares from a place d on
  module _ (x rest : List ℕ) (d : ℕ) (e : drop d x ≡ flatten rs ++ (R ++ (L ++ rest))) where
    tlcs_part : chunks (record_len h) (length rs) (drop d x) ≡ rs
    tlcs_part = ap (chunks (record_len h) (length rs)) e ∙ records_even ok.even (R ++ (L ++ rest))

    shares_drop : drop (d + length rs * record_len h) x ≡ R ++ (L ++ rest)
    shares_drop =
        sym (drop-drop (length rs * record_len h) d x)
        ∙ ap (drop (length rs * record_len h)) e
        ∙ drop_at (flatten rs) (R ++ (L ++ rest)) (length rs * record_len h) (flatten_even ok.even)

    remote_part : part x (d + length rs * record_len h) 36 ≡ R
    remote_part = ap (take 36) shares_drop ∙ take_at R (L ++ rest) 36 ok.remote

    local_part : part x (d + length rs * record_len h + 36) 36 ≡ L
    local_part =
        ap (take 36) (sym (drop-drop 36 (d + length rs * record_len h) x) ∙ ap (drop 36) shares_drop ∙ drop_at R (L ++ rest) 36 ok.remote)
        ∙ take_at L rest 36 ok.local

  -- the state's own parts
  state_tail : drop 1 (state_bytes rs R L) ≡ flatten rs ++ (R ++ (L ++ []))
  unfolding state_bytes
  state_tail = simp append-nil

  pub state_count : get_or (state_bytes rs R L) 0 0 ≡ length rs
  unfolding state_bytes
  state_count = refl

  pub state_tlcs : chunks (record_len h) (get_or (state_bytes rs R L) 0 0) (drop 1 (state_bytes rs R L)) ≡ rs
  state_tlcs = rw state_count (tlcs_part (state_bytes rs R L) [] 1 state_tail)

  pub state_remote : part (state_bytes rs R L) (1 + get_or (state_bytes rs R L) 0 0 * record_len h) 36 ≡ R
  state_remote = rw state_count (remote_part (state_bytes rs R L) [] 1 state_tail)

  pub state_local : part (state_bytes rs R L) (1 + get_or (state_bytes rs R L) 0 0 * record_len h + 36) 36 ≡ L
  state_local = rw state_count (local_part (state_bytes rs R L) [] 1 state_tail)

  -- the first unlock of a witness that holds it stands behind it
  pub first_place_lem : behind_tlcs h (length rs) + 72 ≡ 1 + length (state_bytes rs R L)
  first_place_lem = omega (arith, sound_length)

  -- ---- a witness that holds it, between a count byte and bytes behind it

  module _ (count : ℕ) (behind : List ℕ) where
    abbrev w : List ℕ
    w = count ∷ (state_bytes rs R L ++ behind)

    w_tail : drop 2 w ≡ flatten rs ++ (R ++ (L ++ behind))
    unfolding state_bytes
    w_tail = simp append_assoc

    w_count : get_or w 1 0 ≡ length rs
    unfolding state_bytes
    w_count = refl

    w_room : behind_tlcs h (length rs) + 72 ≤ length w
    w_room = omega (arith, length-append (state_bytes rs R L) behind, sound_length)

    -- it is whole but for its unlocks
    pub read_sound : read_witness h w
        ≡ unless_cut w (places w (1 + length (state_bytes rs R L))) cut_at
        (whole (length rs) (length (places w (1 + length (state_bytes rs R L)))) (behind_tlcs h (length rs)) (1 + length (state_bytes rs R L)))
    unfolding read_unlocks
    read_sound =
        sym (witness_tlcs h w ok.hash (omega (arith, w_room)))
        ∙ ap (λ (n : ℕ). read_tlcs n h w n 2) w_count
        ∙ sym (shares_whole h w (length rs) (omega (arith, w_room)) w_room)
        ∙ ap (λ (f : ℕ). unless_cut w (places w f) cut_at (whole (length rs) (length (places w f)) (behind_tlcs h (length rs)) f)) first_place_lem

    -- what unlocks leave of the witness is what they leave of the state
    pub state_left_lem : (t : Taken)
        → state_left h w (length rs) (behind_tlcs h (length rs)) t ≡ state_bytes (keep t.settled 0 rs) (share_left t.remote R) (share_left t.local L)
    unfolding state_left state_after
    state_left_lem t = rw (tlcs_part w behind 2 w_tail, remote_part w behind 2 w_tail, local_part w behind 2 w_tail)

-- ---- the parts of a list that has as many bytes as its first byte says

module _ (h : ℕ) (s : List ℕ) (e : length s ≡ 1 + get_or s 0 0 * record_len h + 72) where
  tail_length : length (drop 1 s) ≡ get_or s 0 0 * record_len h + 72
  tail_length = omega (arith, length-drop 1 s, e)

  -- they are sound
  pub parts_sound : valid_hash_len h ≡ true → get_or s 0 0 ≤ 255
      → Sound h (chunks (record_len h) (get_or s 0 0) (drop 1 s)) (part s (1 + get_or s 0 0 * record_len h) 36) (part s (1 + get_or s 0 0 * record_len h + 36) 36)
  parts_sound k f = record {
    hash = k;
    few = omega (arith, records_length (record_len h) (get_or s 0 0) (drop 1 s));
    even = even_records (record_len h) (get_or s 0 0) (drop 1 s) (omega (arith, tail_length));
    remote = part_length s (1 + get_or s 0 0 * record_len h) 36 (omega arith);
    local = part_length s (1 + get_or s 0 0 * record_len h + 36) 36 (omega arith);
  }

  -- and the list is the state of them
  pub parts_state : state_bytes (chunks (record_len h) (get_or s 0 0) (drop 1 s)) (part s (1 + get_or s 0 0 * record_len h) 36) (part s (1 + get_or s 0 0 * record_len h + 36) 36) ≡ s
  unfolding state_bytes
  parts_state =
      let k = record_len h in
      let n = get_or s 0 0 in
      let shares : part s (1 + n * k) 36 ++ part s (1 + n * k + 36) 36 ≡ drop (n * k) (drop 1 s) =
      sym (part_add s (1 + n * k) 36 36)
      ∙ take_all 72 (drop (1 + n * k) s) (simp length-drop (omega (arith, e)))
      ∙ sym (drop-drop (n * k) 1 s) in
      ap (λ (m : ℕ). m ∷ (flatten (chunks k n (drop 1 s)) ++ (part s (1 + n * k) 36 ++ part s (1 + n * k + 36) 36))) (records_length k n (drop 1 s))
      ∙ ap (λ (r : List ℕ). n ∷ (flatten (chunks k n (drop 1 s)) ++ r)) shares
      ∙ ap (λ (r : List ℕ). n ∷ r) (flatten_records k n (drop 1 s))
      ∙ sym (drop-cons s 0 0 (omega (arith, e)))
