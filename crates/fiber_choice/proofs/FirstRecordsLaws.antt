-- Laws of `specs/FirstRecords.antt`: one record, the records of a list, and the first state.
-- Assumes nothing.
use Prim.Native.Nat.{ℕ, zero, suc, ◌+◌, ◌-◌, ◌*◌, ◌/◌, ◌^◌, ◌≤◌, ◌<◌}
use native.Mathlib.Nat.{suc-mul}
use native.Mathlib.Omega.{arith}
use mathlib.Core.Path.{◌≡◌, refl, sym, ap, ◌∙◌}
use mathlib.Core.Bool.{Bool, true, false, cond, ◌&&◌, and-eq-true_iff}
use mathlib.Core.List.{List, [], ◌∷◌, ◌++◌, flatten}
use lib.Dec.{leb}
use lib.ListN.{length, get_or, take, drop, set, replicate, length-take, length-drop, length-append}
use lib.Seq.{sets, take_all}
use borrow.Author.Tests.{eq-eqb, le-leb}
use Rattle.std.specs.List.{list_all, zip}
use Rattle.std.specs.Prelude.{Result, Ok}
use Rattle.std.proofs.lemmas.List.{get_or_default}
use Rattle.std.proofs.lemmas.List.Sums.{AllPass-from_list_all}
use Rattle.std.proofs.lemmas.Slice.Zip.{length-zip, get_or-zip}
use Rattle.fiber_bytes.specs.Bytes.{part, le, le_bytes}
use Rattle.fiber_bytes.proofs.CaseLaws.{by_each}
use Rattle.fiber_bytes.proofs.BytesLaws.{part_length, sets_then, sets_fill, le_bytes_length}
use Rattle.fiber_refusal.specs.declared.Refusal.{Refusal}
use Rattle.fiber_types.specs.declared.tlc.Amount.{Amount}
use Rattle.fiber_types.specs.declared.tlc.Tlc.{Tlc}
use Rattle.fiber_types.specs.HashLen.{valid_hash_len}
use Rattle.fiber_types.specs.Records.{Outcome, amount_at, amount_bytes, wrote_tlc}
use Rattle.fiber_types.proofs.RecordsLaws.{hash_len_small, amount_behind, tlc_bytes_length, tlc_written, outcome_whole, outcome_length}
use Rattle.fiber_witness.specs.Witness.{record_len, chunks}
use Rattle.fiber_choice.specs.Entries.{same, same_lists, entries, all, settlement_len, tracked_len, tracked_record, tracked_records, valid_settlement, local_key, remote_key}
use Rattle.fiber_choice.specs.FirstRecords.{hash_of, first_record, first_records, wrote_first_tlc, share_bytes, first_remote, first_local, first_state, wrote_first}
use Rattle.fiber_choice.specs.Request.{SettlementData, valid_data}
use Rattle.fiber_witness.proofs.WitnessLaws.{records_length, Even, even_none, even_more, even_at, even_here, even_next, flatten_even, state_size}
use Rattle.fiber_witness.proofs.StridedLaws.{Writing, writing_start, writing_end, writing_room, writing_next, state_puts}
use Rattle.fiber_choice.proofs.EntriesLaws.{tracked_length, lists_differ, lists_zip, entries_length, entries_even}
use Rattle.fiber_choice.proofs.HandedLaws.{sets_back}
use Rattle.fiber_types.proofs.KeyLaws.{hash_length}

-- ---- a record

module _ (h : ℕ) (b : Bool) (t : List ℕ) (k : valid_hash_len h ≡ true) (n : length t ≡ 124) where
  -- its hash is cut to h bytes
  first_hash_length : length (take h (part t 18 32)) ≡ h
  first_hash_length = omega (arith, length-take h (part t 18 32), part_length t 18 32 (omega arith), hash_len_small h k)

  -- 65 + h bytes
  pub first_length : length (first_record h b t) ≡ record_len h
  unfolding first_record
  first_length =
      tlc_bytes_length _ (take h (part t 18 32)) (hash_of (cond b (remote_key t) (local_key t))) (hash_of (cond b (local_key t) (remote_key t)))
      ∙ omega (arith, first_hash_length, hash_length (cond b (remote_key t) (local_key t)), hash_length (cond b (local_key t) (remote_key t)))

  -- read back from the front of the array that it was written to
  pub first_back : (o : List ℕ) → o ≡ sets (replicate 97 0) 0 (first_record h b t) → (m : ℕ) → m ≡ record_len h → part o 0 m ≡ first_record h b t
  first_back o e m f =
      ap (λ (q : List ℕ). part q 0 m) e
      ∙ sets_back (replicate 97 0) (first_record h b t) 0 m (f ∙ sym first_length) (omega (arith, first_length, hash_len_small h k))

  -- what `tlc::write` leaves of its parts
  module _ (out out' : List ℕ) (r : record_len h ≤ length out) (x : Amount) (z : ℕ) (ex : x ≡ amount_at t 2) (ez : z ≡ le (part t 50 8))
      (H L M : List ℕ) (e_h : H ≡ take h (part t 18 32)) (e_l : L ≡ hash_of (local_key t)) (e_m : M ≡ hash_of (remote_key t)) where
    abbrev put : Tlc
    put = record { kind = get_or t 1 0 * 2 + get_or t 0 0; amount = x; expiry = 2 ^ 62 + z / 1000 }

    wrote : (A B : List ℕ) → A ≡ hash_of (cond b (remote_key t) (local_key t)) → B ≡ hash_of (cond b (local_key t) (remote_key t)) → out' ≡ (wrote_tlc put H A B out).bytes
        → out' ≡ sets out 0 (first_record h b t)
    unfolding first_record
    wrote A B e_a e_b w =
        let n_h : length H ≡ h = ap length e_h ∙ first_hash_length in
        let k_h : valid_hash_len (length H) ≡ true = rw n_h k in
        let n_a : length A ≡ 20 = ap length e_a ∙ hash_length (cond b (remote_key t) (local_key t)) in
        let n_b : length B ≡ 20 = ap length e_b ∙ hash_length (cond b (local_key t) (remote_key t)) in
        w
        ∙ sym (tlc_written put H A B out k_h n_a n_b (omega arith) _ refl).1
        ∙ rw (ex, ez, e_a, e_b, e_h)

    -- the key hashes are remote, local
    pub first_remote_lem : b ≡ true → out' ≡ (wrote_tlc put H M L out).bytes → out' ≡ sets out 0 (first_record h b t)
    first_remote_lem e w = wrote M L (rw e e_m) (rw e e_l) w

    -- or swapped
    pub first_local_lem : b ≡ false → out' ≡ (wrote_tlc put H L M out).bytes → out' ≡ sets out 0 (first_record h b t)
    first_local_lem e w = wrote L M (rw e e_l) (rw e e_m) w

-- ---- one settlement TLC

-- where it is well and there is room, the record
pub tlc_whole : (h : ℕ) (b : Bool) (t out : List ℕ) → valid_hash_len h ≡ true → length t ≡ 124 → valid_settlement t ≡ true → record_len h ≤ length out
    → (out' : List ℕ) → out' ≡ sets out 0 (first_record h b t) → (Ok (record_len h) ≡ (wrote_first_tlc h b t out).answer) × (out' ≡ (wrote_first_tlc h b t out).bytes)
unfolding wrote_first_tlc
tlc_whole h b t out k n w g out' d = outcome_whole _ (first_record h b t) out (rw (k, eq-eqb (length t) 124 n, w)) (record_len h) (first_length h b t k n) g out' d

-- ---- a share

-- 36 bytes
pub share_length : (key : List ℕ) (a : Amount) → length (share_bytes key a) ≡ 36
unfolding share_bytes
share_length key a =
    omega (
      arith,
      length-append (hash_of key ++ le_bytes 8 a.low) (le_bytes 8 a.high),
      length-append (hash_of key) (le_bytes 8 a.low),
      hash_length key,
      le_bytes_length 8 a.low,
      le_bytes_length 8 a.high,
    )

-- one of two
pub share_by_length : (b : Bool) (key : List ℕ) (a : Amount) (other : List ℕ) (a' : Amount) → length (cond b (share_bytes key a) (share_bytes other a')) ≡ 36
share_by_length b key a other a' = by_each (λ (s : List ℕ). length s ≡ 36) b _ _ (share_length key a) (share_length other a')

-- the two writes of a share fill the array
pub share_puts : (key : List ℕ) (a : Amount) (k o o₁ o₂ : List ℕ)
    → o₂ ≡ sets o₁ 20 (amount_bytes a) → o₁ ≡ sets o 0 k → k ≡ hash_of key → length o ≡ 36 → o₂ ≡ share_bytes key a
unfolding share_bytes
share_puts key a k o o₁ o₂ e₂ e₁ e n =
    let m : 20 ≡ length k = sym (ap length e ∙ hash_length key) in
    let share : k ++ amount_bytes a ≡ share_bytes key a = ap (λ (l : List ℕ). l ++ amount_bytes a) e ∙ amount_behind (hash_of key) a in
    sets_then o k (amount_bytes a) 20 e₁ e₂ m
    ∙ ap (sets o 0) share
    ∙ sets_fill o (share_bytes key a) (omega (arith, share_length key a))
    ∙ take_all (length o) (share_bytes key a) (omega (arith, share_length key a))

-- ---- the records of a list

module _ (h : ℕ) (b : Bool) where
  -- as many as there are TLCs
  pub firsts_count : (es : List (List ℕ)) → length (first_records h b es) ≡ length es
  unfolding first_records
  firsts_count [] = refl
  firsts_count (e ∷ es) = ap suc (firsts_count es)

  -- of 65 + h bytes each
  firsts_each : valid_hash_len h ≡ true → (m : ℕ) (s : List ℕ) → m * 124 ≤ length s → Even (record_len h) (first_records h b (chunks 124 m s))
  unfolding first_records chunks
  firsts_each k zero s g = even_none
  firsts_each k (suc m) s g =
      even_more (first_length h b (take 124 s) k (omega (arith, length-take 124 s, suc-mul m 124)))
      (firsts_each k m (drop 124 s) (omega (arith, length-drop 124 s, suc-mul m 124)))

  -- so many bytes
  pub firsts_flat : valid_hash_len h ≡ true → (s : List ℕ) → length (flatten (first_records h b (entries settlement_len s))) ≡ length s / 124 * record_len h
  unfolding entries
  firsts_flat k s =
      flatten_even (firsts_each k (length s / 124) s (omega arith))
      ∙ ap (λ (j : ℕ). j * record_len h) (firsts_count (chunks 124 (length s / 124) s) ∙ records_length 124 (length s / 124) s)

-- TLCs that are well and whole
pub record Wells (ts : List (List ℕ)) : Type 0 where
  pub valid : all valid_settlement ts ≡ true
  pub even : Even 124 ts

-- those of a list
pub wells_start : (s : List ℕ) → all valid_settlement (entries settlement_len s) ≡ true → Wells (entries settlement_len s)
wells_start s e = record { valid = e; even = entries_even settlement_len s }

module _ {ts us : List (List ℕ)} {t : List ℕ} (c : Wells ts) (e : ts ≡ t ∷ us) where
  -- the first, as `first_record` wants it
  pub wells_here : (valid_settlement t ≡ true) × (length t ≡ 124)
  wells_here = (((and-eq-true_iff (valid_settlement t) (all valid_settlement us)).0 (rw e at c.valid)).0, even_here (rw e at c.even))

  -- those behind it
  pub wells_next : Wells us
  wells_next = record {
    valid = ((and-eq-true_iff (valid_settlement t) (all valid_settlement us)).0 (rw e at c.valid)).1;
    even = even_next (rw e at c.even);
  }

module _ (h : ℕ) (b : Bool) where
  -- The loop that writes the records from byte 1 on: to write those of ts, which are left, gives what the whole gives.
  pub record Firsts (whole out₀ : List ℕ) (ts : List (List ℕ)) (out : List ℕ) (at : ℕ) : Type 0 where
    pub wells : Wells ts
    pub writing : Writing whole out₀ (first_records h b ts) out at

  -- before the first
  pub firsts_start : {ts : List (List ℕ)} (s out₀ : List ℕ) → all valid_settlement (entries settlement_len s) ≡ true → ts ≡ entries settlement_len s
      → Firsts (flatten (first_records h b (entries settlement_len s))) out₀ ts out₀ 1
  firsts_start s out₀ e f = rw f (record { wells = wells_start s e; writing = writing_start (first_records h b (entries settlement_len s)) out₀ })

  module _ {whole out₀ : List ℕ} {ts : List (List ℕ)} {out : List ℕ} {at : ℕ} (c : Firsts whole out₀ ts out at) where
    -- at the end all is written
    pub firsts_end : ts ≡ [] → out ≡ sets out₀ 1 whole
    unfolding first_records
    firsts_end e = (writing_end c.writing (rw e)).1

    module _ (k : valid_hash_len h ≡ true) {us : List (List ℕ)} {t : List ℕ} (e : ts ≡ t ∷ us) where
      firsts_here : length (first_record h b t) ≡ record_len h
      firsts_here = first_length h b t k (wells_here c.wells e).1

      firsts_cons : first_records h b ts ≡ first_record h b t ∷ first_records h b us
      unfolding first_records
      firsts_cons = rw e

      -- there is room for a record
      pub firsts_room : at + record_len h ≤ 1 + length whole
      firsts_room = rw firsts_here at (writing_room c.writing firsts_cons)

      -- one record more
      pub firsts_next : at ≤ length out → (ys : List ℕ) → ys ≡ sets (take (length out - at) (drop at out)) 0 (first_record h b t)
          → Firsts whole out₀ us (take at out ++ (ys ++ drop (length out - at) (drop at out))) (at + record_len h)
      firsts_next f ys d = record { wells = wells_next c.wells e; writing = rw firsts_here at (writing_next c.writing firsts_cons f ys d) }

-- ---- the records beside tracked TLCs

module _ (h : ℕ) (b : Bool) (s w : List ℕ) where
  abbrev built_of : List (List ℕ)
  built_of = entries settlement_len s

  abbrev beside : List (List ℕ)
  beside = entries (tracked_len h) w

  -- as many as those, they are told pair by pair
  pub firsts_paired : length built_of ≡ length beside
      → list_all (λ p. same (first_record h b p.0) (tracked_record p.1)) (zip built_of beside) ≡ same_lists (first_records h b built_of) (tracked_records beside)
  unfolding first_records tracked_records
  firsts_paired e = lists_zip (first_record h b) tracked_record built_of beside e

  -- else they differ
  pub firsts_differ : (length built_of ≡ length beside → ⊥) → false ≡ same_lists (first_records h b built_of) (tracked_records beside)
  firsts_differ n = lists_differ _ _ (λ e. n (sym (firsts_count h b built_of) ∙ e ∙ tracked_length beside))

  -- in each pair both are whole, and the first is well
  pub pair_well : all valid_settlement built_of ≡ true → (k : ℕ) (x y : List ℕ) → k < length (zip built_of beside) → (x, y) ≡ get_or (zip built_of beside) k (x, y)
      → ((valid_settlement x ≡ true) × (length x ≡ 124)) × (length y ≡ tracked_len h)
  pair_well v k x y g e =
      let few : k < length built_of = omega (arith, g, length-zip built_of beside) in
      let fewer : k < length beside = omega (arith, g, length-zip built_of beside) in
      let z = e ∙ get_or-zip built_of beside k (x, y) few fewer in
      let first : x ≡ get_or built_of k [] = ap (λ (p : List ℕ × List ℕ). p.0) z ∙ get_or_default built_of k x [] few in
      let second : y ≡ get_or beside k [] = ap (λ (p : List ℕ × List ℕ). p.1) z ∙ get_or_default beside k y [] fewer in
      ((ap valid_settlement first ∙ AllPass-from_list_all valid_settlement built_of v k [] few, ap length first ∙ even_at (entries_even settlement_len s) k few), ap length second ∙ even_at (entries_even (tracked_len h) w) k fewer)

-- ---- the first state

-- the output stays as long as it is
pub wrote_length : (h : ℕ) (b : Bool) (d : SettlementData) (out : List ℕ) → length (wrote_first h b d out).bytes ≡ length out
unfolding wrote_first
wrote_length h b d out =
    by_each (λ (o : Outcome (Result ℕ Refusal)). length o.bytes ≡ length out) (valid_hash_len h && valid_data d) _ _
    (by_each (λ (o : Outcome (Result ℕ Refusal)). length o.bytes ≡ length out) (leb (length d.tlcs / 124) 255) _ _ (outcome_length true (first_state h b d) out) refl)
    refl

module _ (h : ℕ) (b : Bool) (d : SettlementData) (k : valid_hash_len h ≡ true) where
  -- two shares of 36 bytes
  remote_36 : length (first_remote b d) ≡ 36
  unfolding first_remote
  remote_36 = share_by_length b d.remote_key d.remote_amount d.local_key d.local_amount

  local_36 : length (first_local b d) ≡ 36
  unfolding first_local
  local_36 = share_by_length b d.local_key d.local_amount d.remote_key d.remote_amount

  pub data_size : length (first_state h b d) ≡ 73 + length d.tlcs / 124 * record_len h
  unfolding first_state
  data_size =
      state_size (first_records h b (entries settlement_len d.tlcs)) (first_remote b d) (first_local b d) remote_36 local_36
      ∙ ap (λ (j : ℕ). 73 + j) (firsts_flat h b k d.tlcs)

  -- count, records and both shares, one behind the other
  pub data_puts : (out : List ℕ) → valid_data d ≡ true → length d.tlcs / 124 ≤ 255 → 73 + length d.tlcs / 124 * record_len h ≤ length out → (o₁ o₂ o₃ A B : List ℕ)
      → A ≡ first_remote b d → B ≡ first_local b d
      → o₁ ≡ sets (set out 0 (length d.tlcs / 124)) 1 (flatten (first_records h b (entries settlement_len d.tlcs)))
      → o₂ ≡ sets o₁ (73 + length d.tlcs / 124 * record_len h - 72) A → o₃ ≡ sets o₂ (73 + length d.tlcs / 124 * record_len h - 36) B
      → (Ok (73 + length d.tlcs / 124 * record_len h) ≡ (wrote_first h b d out).answer) × (o₃ ≡ (wrote_first h b d out).bytes)
  unfolding first_state wrote_first
  data_puts out w n g o₁ o₂ o₃ A B e_a e_b e₁ e₂ e₃ =
      let rs = first_records h b (entries settlement_len d.tlcs) in
      let m = length d.tlcs / 124 * record_len h in
      let c : length d.tlcs / 124 ≡ length rs = sym (firsts_count h b (entries settlement_len d.tlcs) ∙ entries_length settlement_len d.tlcs) in
      let x : 73 + m - 72 ≡ 1 + length (flatten rs) = omega (arith, firsts_flat h b k d.tlcs) in
      let y : 73 + m - 36 ≡ 73 + m - 72 + 36 = omega arith in
      let s : o₃ ≡ sets out 0 (first_state h b d) =
      state_puts rs (first_remote b d) (first_local b d) remote_36 local_36 (length d.tlcs / 124) (73 + m - 72) out o₁ o₂ o₃ c x e₁
      (e₂ ∙ ap (sets o₁ (73 + m - 72)) e_a)
      (e₃ ∙ ap (sets o₂ (73 + m - 36)) e_b ∙ ap (λ (j : ℕ). sets o₂ j (first_local b d)) y) in
      rw (k, w, le-leb (length d.tlcs / 124) 255 n) (outcome_whole true (first_state h b d) out refl _ data_size g o₃ s)
