-- Laws of `specs/inner/Plan.antt`, and of `specs/HandedOut.antt`: the records of a tracked list, and runs of stores.
-- Assumes nothing.
use Prim.Native.Nat.{ℕ, zero, suc, ◌+◌, ◌-◌, ◌*◌, ◌/◌, ◌≤◌, ◌<◌}
use native.Mathlib.Nat.{add-zero, suc-mul, div-mul-le_self}
use native.Mathlib.Omega.{arith}
use mathlib.Core.Path.{◌≡◌, refl, sym, ap, ◌∙◌}
use mathlib.Core.Bool.{Bool, true, false, cond}
use mathlib.Core.List.{List, [], ◌∷◌, ◌++◌, append_assoc, flatten}
use lib.Dec.{eqb}
use lib.ListN.{length, get_or, take, drop, set, replicate, length-take, length-drop, length-append}
use lib.Seq.{sets, length-sets, sets-eq, take_all, take_at, drop_at, take-set-le, drop-set-lt, length-take-le, drop-drop, get_or-drop}
use borrow.Author.Tests.{ne_eqb, le-leb, lt-leb, lt-ltb}
use Rattle.std.specs.Prelude.{Option, Some, None, is_some, Ok}
use Rattle.fiber_refusal.specs.declared.Refusal.TheVariants.{OutputShort}
use Rattle.fiber_choice.specs.Answered.{Answer, decided, refused}
use Rattle.fiber_bytes.specs.Bytes.{part}
use Rattle.fiber_bytes.proofs.BytesLaws.{part_length, sets_append, part_behind}
use Rattle.fiber_types.specs.declared.tlc.Amount.{Amount}
use Rattle.fiber_types.specs.declared.unlock.Unlock.{Unlock}
use Rattle.fiber_since.specs.declared.epoch.Epoch.{Epoch}
use Rattle.fiber_types.specs.Records.{Outcome, amount_at, witness_len, unlock_bytes, wrote_unlock}
use Rattle.fiber_types.proofs.RecordsLaws.{unlock_written, unlock_bytes_length, unlock_bytes_byte, unlock_bytes_flag, at_least, outcome_room, amount_part}
use Rattle.fiber_blake2b.specs.Blake2b.{ckb_hash}
use Rattle.fiber_blake2b.proofs.Blake2bLaws.{ckb_length}
use Rattle.fiber_choice.specs.declared.kinds.Side.TheVariants as SideCase
use Rattle.fiber_choice.specs.declared.kinds.Way.TheVariants as WayCase
use Rattle.fiber_choice.specs.declared.kinds.Key.{Key}
use Rattle.fiber_choice.specs.declared.kinds.Choice.{Choice}
use Rattle.fiber_choice.specs.declared.kinds.Choice.TheVariants as ChoiceCase
use Rattle.fiber_choice.specs.declared.kinds.Plan.{Plan}
use Rattle.fiber_witness.specs.Witness.{record_len, chunks, state_bytes, member, unlock_len, places, unless_cut, read_witness, whole as read_whole, cut_at}
use Rattle.fiber_witness.specs.Update.{keep, share_left, none, fine, take_unlocks, updated, state_after}
use Rattle.fiber_witness.specs.inner.Marks.{Marks, marked, listed}
use Rattle.fiber_witness.specs.inner.Strided.{behind_tlcs, strided, unmarked}
use Rattle.fiber_choice.specs.Entries.{entries, tracked_len, tracked_records, pair_len, pair_preimage}
use Rattle.fiber_choice.specs.HandedOut.{choice_byte, new_args, unlock_of, takes, choice_amount, record_size, handed_out}
use Rattle.fiber_choice.specs.inner.Plan.{plan_of, PairWhole, preimage_of, plan_after, plan_unlock, joined, Below, Within}
use Rattle.fiber_choice.specs.Promises.{PairIn}
use Rattle.fiber_witness.proofs.WitnessLaws.{Even, even_none, even_more, even_at, flatten_even, state_size, places_nil, places_cons, member_none, cut_none, cut_passed}
use Rattle.fiber_witness.proofs.UpdateLaws.{marks_front, keep_marked, left_length, sets_part, unlocks_none, unlocks_more, updated_fine}
use Rattle.fiber_witness.proofs.StridedLaws.{strided_none, strided_more}
use Rattle.fiber_witness.proofs.StateLaws.{Sound, read_sound, state_left_lem}
use Rattle.fiber_choice.proofs.EntriesLaws.{tracked_count, tracked_length, tracked_at, entries_length, entry_at, entry_room}

-- ---- runs of stores

-- stores from a place on leave what is before it
take_sets : (a l : List ℕ) (i n : ℕ) → n ≤ i → take n (sets l i a) ≡ take n l
take_sets [] l i n h = refl
take_sets (x ∷ a) l i n h = take_sets a (set l i x) (suc i) n (omega arith) ∙ take-set-le n l i x h

-- and what is behind them
drop_sets : (a l : List ℕ) (i n : ℕ) → i + length a ≤ n → drop n (sets l i a) ≡ drop n l
drop_sets [] l i n h = refl
drop_sets (x ∷ a) l i n h = drop_sets a (set l i x) (suc i) n (omega arith) ∙ drop-set-lt n l i x (omega arith)

-- stores that are stored over, by no fewer, are gone
sets_over : (l a b : List ℕ) (i : ℕ) → i + length b ≤ length l → length a ≤ length b → sets (sets l i a) i b ≡ sets l i b
sets_over l a b i h g =
    let r : i + length b ≤ length (sets l i a) = omega (arith, length-sets l i a) in
    let p : i + length a ≤ i + length b = omega arith in
    let q : i ≤ i = omega arith in
    sets-eq b (sets l i a) i r
    ∙ ap (λ (f : List ℕ). f ++ b ++ drop (i + length b) (sets l i a)) (take_sets a l i i q)
    ∙ ap (λ (e : List ℕ). take i l ++ b ++ e) (drop_sets a l i (i + length b) p)
    ∙ sym (sets-eq b l i h)

-- what was stored is read back
pub sets_back : (l a : List ℕ) (i n : ℕ) → n ≡ length a → i + length a ≤ length l → take n (drop i (sets l i a)) ≡ a
sets_back l a i n e h =
    ap (λ (r : List ℕ). take n (drop i r)) (sets-eq a l i h ∙ append_assoc (take i l) a (drop (i + length a) l))
    ∙ ap (take n) (drop_at (take i l) (a ++ drop (i + length a) l) i (length-take-le i l (omega arith)))
    ∙ take_at a (drop (i + length a) l) n (sym e)

-- a run of stores from a place on, and another right behind it
sets_next : (o a b : List ℕ) (i j : ℕ) {l₁ l₂ : List ℕ} → l₁ ≡ sets o i a → l₂ ≡ sets l₁ j b → j ≡ i + length a → l₂ ≡ sets o i (a ++ b)
sets_next o a b i j e f g =
    f
    ∙ ap (λ (k : List ℕ). sets k j b) e
    ∙ ap (λ (n : ℕ). sets (sets o i a) n b) g
    ∙ sym (sets_append a b o i)

-- ---- the records of a tracked list

-- an entry of a tracked list, as the code has its size
pub tracked_size : (h : ℕ) → 98 + h ≡ tracked_len h
tracked_size h = omega arith

module _ (h : ℕ) (s : List ℕ) where
  -- the records of a tracked list
  abbrev pub tlcs : List (List ℕ)
  tlcs = tracked_records (entries (tracked_len h) s)

  -- as many as there are whole entries
  pub tlcs_length : length tlcs ≡ length s / (98 + h)
  tlcs_length = tracked_length (entries (tracked_len h) s) ∙ tracked_count h s

  -- each is a part of the list
  pub tlc_at_lem : (i : ℕ) → i < length s / (98 + h) → get_or tlcs i [] ≡ part s (i * (98 + h) + 33) (record_len h)
  tlc_at_lem i g =
      rw (tracked_size h)
      (tracked_at (entries (tracked_len h) s) i
      ∙ ap (drop 33) (entry_at (tracked_len h) s i (rw (tracked_size h) at g))
      ∙ part_behind s (i * tracked_len h) 33 (record_len h))

-- ---- lists of records that have r bytes each

-- those of the tracked TLCs
pub each_tracked : (r m : ℕ) (s : List ℕ) → m * (33 + r) ≤ length s → Even r (tracked_records (chunks (33 + r) m s))
unfolding tracked_records chunks
each_tracked r zero s h = even_none
each_tracked r (suc m) s h =
    let e : length (drop 33 (take (33 + r) s)) ≡ r = omega (arith, length-drop 33 (take (33 + r) s), length-take (33 + r) s, suc-mul m (33 + r)) in
    even_more e
    (each_tracked r m (drop (33 + r) s) (omega (arith, length-drop (33 + r) s, suc-mul m (33 + r))))

-- so many bytes
pub tlcs_flat : (h : ℕ) (s : List ℕ) → length (flatten (tlcs h s)) ≡ length (entries (tracked_len h) s) * record_len h
unfolding entries
tlcs_flat h s =
    flatten_even (each_tracked (record_len h) (length s / tracked_len h) s (div-mul-le_self (length s) (tracked_len h)))
    ∙ ap (λ (k : ℕ). k * record_len h) (tracked_length (entries (tracked_len h) s))

-- ---- written from the tracked list

-- where nothing is settled all are kept
keep_all : (i : ℕ) (rs : List (List ℕ)) → keep [] i rs ≡ rs
unfolding keep member
keep_all i [] = refl
keep_all i (r ∷ rs) = ap (λ (l : List (List ℕ)). r ∷ l) (keep_all (i + 1) rs)

-- a tracked list has its records behind 33 bytes of each entry
strided_tracked : (r m : ℕ) (s : List ℕ) (from : ℕ) → strided r (33 + r) m s (from + 33) ≡ tracked_records (chunks (33 + r) m (drop from s))
unfolding tracked_records chunks
strided_tracked r zero s from = strided_none r (33 + r) s (from + 33)
strided_tracked r (suc m) s from =
    let e : from + 33 + (33 + r) ≡ from + (33 + r) + 33 = omega arith in
    strided_more r (33 + r) m s (from + 33)
    ∙ rw (e, strided_tracked r m s (from + (33 + r)), ← part_behind s from 33 r, ← drop-drop (33 + r) from s)

module _ (h : ℕ) (s : List ℕ) where
  -- all of them are whole
  pub tracked_room : length (entries (tracked_len h) s) * (98 + h) ≤ length s
  tracked_room = rw tracked_count (div-mul-le_self (length s) (98 + h))

  -- of such records, those that are not marked
  pub unmarked_tracked : (stride n : ℕ) (marks : List Bool) → stride ≡ 98 + h → n ≡ length (entries (tracked_len h) s)
      → unmarked h s 33 stride n marks ≡ keep (marked marks) 0 (tlcs h s)
  unfolding unmarked entries
  unmarked_tracked stride n marks d e =
      let k : stride ≡ tracked_len h = omega arith in
      let m : n ≡ length s / tracked_len h = e ∙ entries_length (tracked_len h) s in
      rw (k, m) (ap (keep (marked marks) 0) (strided_tracked (record_len h) (length s / tracked_len h) s 0))

-- with the marks of one place, or of none, in front of others
module _ (h : ℕ) (s : List ℕ) (n : ℕ) (all : List Bool) (l : n ≤ length all) (e : n ≡ length (entries (tracked_len h) s)) where
  -- each tracked TLC has one
  pub marks_tracked : length (take n all) ≡ n
  marks_tracked = omega (arith, length-take n all)

  -- and the records that they leave are all but that one
  pub unmarked_listed : (stride : ℕ) (place : Option ℕ) → stride ≡ 98 + h → Marks all (listed place)
      → unmarked h s 33 stride (length (take n all)) (take n all) ≡ keep (listed place) 0 (tlcs h s)
  unmarked_listed stride place d m =
      unmarked_tracked h s stride (length (take n all)) (take n all) d (marks_tracked ∙ e)
      ∙ keep_marked (take n all) (listed place) (marks_front n all (listed place) m) (tlcs h s) (omega (arith, e, marks_tracked, tracked_length (entries (tracked_len h) s)))

-- none settled, all are kept
pub keep_listed : (rs : List (List ℕ)) → keep (listed None) 0 rs ≡ rs
unfolding listed
keep_listed rs = keep_all 0 rs

-- ---- all but one

-- no more bytes are kept than there are
pub keep_small : (s : List ℕ) (i : ℕ) (rs : List (List ℕ)) → length (flatten (keep s i rs)) ≤ length (flatten rs)
unfolding keep flatten
keep_small s i [] = omega arith
keep_small s i (r ∷ rs) = go (member i s) (keep_small s (i + 1) rs)
  where
    go : (b : Bool) → length (flatten (keep s (i + 1) rs)) ≤ length (flatten rs) → length (flatten (cond b (keep s (i + 1) rs) (r ∷ keep s (i + 1) rs))) ≤ length (r ++ flatten rs)
    go true h = omega (arith, length-append r (flatten rs))
    go false h = omega (arith, length-append r (flatten rs), length-append r (flatten (keep s (i + 1) rs)))

-- the amount of a tracked TLC is behind the type in its record
pub tracked_amount : (h : ℕ) (s : List ℕ) (place : ℕ) → place < length (entries (tracked_len h) s)
    → amount_at s (place * (98 + h) + 33 + 1) ≡ amount_at (get_or (tlcs h s) place []) 1
tracked_amount h s place g =
    rw (tlc_at_lem h s place (omega (arith, tracked_count h s)))
    (sym (amount_part s (place * (98 + h) + 33) (record_len h) 1 (omega arith)))

-- ---- the state after the unlock

module _ (rs : List (List ℕ)) (remote local : List ℕ) (p : Plan) where
  -- it is no longer than the state before it
  after_size : length remote ≡ 36 → length local ≡ 36 → (length (plan_after rs remote local p) ≤ 73 + length (flatten rs)) × (73 ≤ length (plan_after rs remote local p))
  unfolding plan_after
  after_size e f =
      let u = p.unlocked in
      let z = state_size (keep (listed p.settled) 0 rs) (share_left u.remote remote) (share_left u.local local) (left_length u.remote remote e) (left_length u.local local f) in
      (omega (arith, z, keep_small (listed p.settled) 0 rs), omega (arith, z))

-- what was written to the front is read back
pub front_back : (out S : List ℕ) → length S ≤ length out → take (length S) (sets out 0 S) ≡ S
front_back out S r = sets_back out S 0 (length S) refl (omega arith)

-- ---- the unlock

-- a whole pair has a whole preimage
preimage_length : (preimages : List ℕ) (place : ℕ) → 64 * place + 64 ≤ length preimages → length (pair_preimage (get_or (entries pair_len preimages) place [])) ≡ 32
preimage_length preimages place g =
    let k : place < length preimages / 64 = omega arith in
    let l = part_length (part preimages (place * 64) 64) 32 32 (omega (arith, part_length preimages (place * 64) 64 (omega arith))) in
    omega (arith, l, ap (λ (t : List ℕ). length (part t 32 32)) (entry_at 64 preimages place k))

module _ (preimages : List ℕ) (p : Plan) (out : List ℕ) (r : 99 ≤ length out) where
  -- without a preimage
  pub unlock_plain : p.pair ≡ None
      → sets out 0 (plan_unlock (entries pair_len preimages) p) ≡ (wrote_unlock (record { byte = p.byte; flag = is_some p.pair }) (replicate 65 0) [] out).bytes
  unfolding plan_unlock preimage_of
  unlock_plain e =
      let n : 67 ≡ witness_len (is_some p.pair) = rw e in
      rw (ap (preimage_of (entries pair_len preimages)) e)
      (unlock_written (record { byte = p.byte; flag = is_some p.pair }) (replicate 65 0) [] out 67 n refl refl (omega arith) _ refl).1

  -- with the second half of its pair
  pub unlock_paired : (place : ℕ) → p.pair ≡ Some place → 64 * place + 64 ≤ length preimages
      → sets out 0 (plan_unlock (entries pair_len preimages) p)
      ≡ (wrote_unlock (record { byte = p.byte; flag = is_some p.pair }) (replicate 65 0) (pair_preimage (get_or (entries pair_len preimages) place [])) out).bytes
  unfolding plan_unlock preimage_of
  unlock_paired place e g =
      let n : 99 ≡ witness_len (is_some p.pair) = rw e in
      rw (ap (preimage_of (entries pair_len preimages)) e)
      (unlock_written (record { byte = p.byte; flag = is_some p.pair }) (replicate 65 0) (pair_preimage (get_or (entries pair_len preimages) place [])) out 99 n refl
      (preimage_length preimages place g) r _ refl).1

-- ---- the new args

-- the four writes of the new args are one
pub args_puts : (args hash o : List ℕ) {o₁ o₂ o₃ A B C : List ℕ} (at i j k : ℕ) → 36 ≤ length args → length hash ≡ 32
    → o₁ ≡ sets o at A → o₂ ≡ sets o₁ i B → o₃ ≡ sets (set o₂ j 1) k C
    → i ≡ at + 36 → j ≡ at + 56 → k ≡ at + 57
    → A ≡ part args 0 36 → B ≡ part hash 0 20 → C ≡ part args 57 (length args)
    → o₃ ≡ sets o at (take 36 args ++ take 20 hash ++ (1 ∷ []) ++ drop 57 args)
args_puts args hash o {A = A} {B = B} {C = C} at i j k h g e₁ e₂ e₃ e_i e_j e_k e_a e_b e_c =
    let O : List ℕ = 1 ∷ [] in
    let a : length A ≡ 36 = omega (arith, ap length e_a, length-take 36 args) in
    let b : length B ≡ 20 = omega (arith, ap length e_b, length-take 20 hash) in
    let n₁ : i ≡ at + length A = omega arith in
    let n₂ : j ≡ at + length (A ++ B) = omega (arith, length-append A B) in
    let n₃ : k ≡ at + length (A ++ B ++ O) = omega (arith, length-append A B, length-append (A ++ B) O) in
    let l : length (drop 57 args) ≤ length args = omega (arith, length-drop 57 args) in
    let c : C ≡ drop 57 args = e_c ∙ take_all (length args) (drop 57 args) l in
    sets_next o (A ++ B ++ O) C at k (sets_next o (A ++ B) O at j (sets_next o A B at i e₁ e₂ n₁) refl n₂) e₃ n₃ ∙ rw (e_a, e_b, c)

-- an unlock has at most 99
pub unlock_most : (b : Bool) → witness_len b ≤ 99
unlock_most true = omega arith
unlock_most false = omega arith

-- ---- the three parts, joined

module _ (h : ℕ) (args s preimages remote local : List ℕ) (p : Plan)
    (a : 36 ≤ length args) (d : length remote ≡ 36) (f : length local ≡ 36)
    (g : PairWhole preimages p.pair) where
  abbrev unlock : List ℕ
  unlock = plan_unlock (entries pair_len preimages) p

  abbrev before : List ℕ
  before = state_bytes (tlcs h s) remote local

  abbrev after : List ℕ
  after = plan_after (tlcs h s) remote local p

  -- the unlock
  unlock_size_lem : length unlock ≡ witness_len (is_some p.pair)
  unfolding plan_unlock preimage_of
  unlock_size_lem = go p.pair g
    where
      go : (pair : Option ℕ) → PairWhole preimages pair
          → length (unlock_bytes (record { byte = p.byte; flag = is_some pair }) (replicate 65 0) (preimage_of (entries pair_len preimages) pair)) ≡ witness_len (is_some pair)
      go (Some place) q =
          unlock_bytes_length (record { byte = p.byte; flag = true }) (replicate 65 0) (pair_preimage (get_or (entries pair_len preimages) place []))
          ∙ omega (arith, preimage_length preimages place q)
      go None q = unlock_bytes_length (record { byte = p.byte; flag = false }) (replicate 65 0) []

  -- the new args
  new_size : (o : List ℕ) → length (new_args args o) ≡ 57 + (length args - 57)
  unfolding new_args
  new_size o =
      let A : List ℕ = take 36 args in
      let H : List ℕ = take 20 (ckb_hash o) in
      omega (
        arith,
        length-append (A ++ H ++ (1 ∷ [])) (drop 57 args),
        length-append (A ++ H) (1 ∷ []),
        length-append A H,
        length-take 36 args,
        length-take 20 (ckb_hash o),
        ckb_length o,
        length-drop 57 args,
      )

  -- and all
  pub joined_size : length (joined args (entries (tracked_len h) s) (entries pair_len preimages) remote local p)
      ≡ witness_len (is_some p.pair) + (73 + length (flatten (tlcs h s))) + (57 + (length args - 57))
  unfolding joined
  joined_size =
      omega (
        arith,
        length-append (unlock ++ before) (new_args args after),
        length-append unlock before,
        unlock_size_lem,
        state_size (tlcs h s) remote local d f,
        new_size after,
      )

  -- the four writes are one, each to the part behind the one before it, but the state after the unlock, which the state before it is written over
  pub joined_puts : (out o₁ y₂ y₃ o₄ hash : List ℕ) (at size : ℕ) → length (joined args (entries (tracked_len h) s) (entries pair_len preimages) remote local p) ≤ length out
      → at ≡ witness_len (is_some p.pair)
      → o₁ ≡ sets out 0 unlock
      → y₂ ≡ sets (take (length o₁ - at) (drop at o₁)) 0 after
      → hash ≡ ckb_hash after
      → let o₂ = take at o₁ ++ (y₂ ++ drop (length o₁ - at) (drop at o₁)) in
      (size ≡ length before) × (y₃ ≡ sets (take (length o₂ - at) (drop at o₂)) 0 before)
      → let o₃ = take at o₂ ++ (y₃ ++ drop (length o₂ - at) (drop at o₂)) in
      o₄ ≡ sets o₃ (at + size) (take 36 args ++ take 20 hash ++ (1 ∷ []) ++ drop 57 args)
      → o₄ ≡ sets out 0 (joined args (entries (tracked_len h) s) (entries pair_len preimages) remote local p)
  unfolding joined new_args
  joined_puts out o₁ y₂ y₃ o₄ hash at size r w e₁ e₂ y e₃ e₄ =
      let t = state_size (tlcs h s) remote local d f in
      let v = after_size (tlcs h s) remote local p d f in
      let room : at + length before ≤ length o₁ = omega (arith, r, w, t, joined_size, ap length e₁, length-sets out 0 unlock) in
      let o₂ : List ℕ = take at o₁ ++ (y₂ ++ drop (length o₁ - at) (drop at o₁)) in
      let o₂_is : o₂ ≡ sets o₁ at after = sets_part o₁ at after y₂ (omega (arith, room)) e₂ in
      let u : take at o₂ ++ (y₃ ++ drop (length o₂ - at) (drop at o₂)) ≡ sets o₁ at before =
      sets_part o₂ at before y₃ (omega (arith, room, ap length o₂_is, length-sets o₁ at after)) e₃.1
      ∙ ap (λ (l : List ℕ). sets l at before) o₂_is
      ∙ sets_over o₁ after before at room (omega (arith, t, v)) in
      let k : at ≡ 0 + length unlock = omega (arith, unlock_size_lem, w) in
      let m : at + size ≡ 0 + length (unlock ++ before) = omega (arith, e₃.0, length-append unlock before, unlock_size_lem, w) in
      sets_next out (unlock ++ before) _ 0 (at + size) (sets_next out unlock before 0 at e₁ u k) e₄ m
      ∙ ap (λ (x : List ℕ). sets out 0 (unlock ++ before ++ (take 36 args ++ take 20 x ++ (1 ∷ []) ++ drop 57 args))) y

-- ---- a choice as a plan

-- of a choice among n TLCs and m pairs, its TLC is among n
within_tlcs : (n m : ℕ) (c : Choice) → Within n m c → Below n c
unfolding Within
within_tlcs n m c w = w.0

-- its pair is among m
within_pairs : (n m : ℕ) (c : Choice) → Within n m c → PairIn m c
unfolding Within
within_pairs n m c w = w.1

-- its pair is whole, if it has one
pub plan_pair : (preimages : List ℕ) (c : Choice) → PairIn (length (entries pair_len preimages)) c → PairWhole preimages (plan_of c).pair
unfolding plan_of
plan_pair preimages (ChoiceCase.Share SideCase.Remote) b = tt
plan_pair preimages (ChoiceCase.Share SideCase.Local) b = tt
plan_pair preimages (ChoiceCase.Tlc place WayCase.Timeout) b = tt
plan_pair preimages (ChoiceCase.Tlc place (WayCase.Preimage pair_place)) b = omega (arith, entry_room 64 preimages pair_place (omega (arith, entries_length 64 preimages)))

-- its unlock is the choice's
plan_unlock_lem : (ps : List (List ℕ)) (c : Choice) → unlock_of ps c ≡ plan_unlock ps (plan_of c)
unfolding plan_of plan_unlock preimage_of unlock_of choice_byte
plan_unlock_lem ps (ChoiceCase.Share SideCase.Remote) = refl
plan_unlock_lem ps (ChoiceCase.Share SideCase.Local) = refl
plan_unlock_lem ps (ChoiceCase.Tlc place WayCase.Timeout) = refl
plan_unlock_lem ps (ChoiceCase.Tlc place (WayCase.Preimage pair_place)) = refl

-- so is the state after it
plan_after_lem : (rs : List (List ℕ)) (remote local : List ℕ) (c : Choice) → state_after rs remote local (takes c) ≡ plan_after rs remote local (plan_of c)
unfolding plan_of plan_after state_after takes listed
plan_after_lem rs remote local (ChoiceCase.Share SideCase.Remote) = refl
plan_after_lem rs remote local (ChoiceCase.Share SideCase.Local) = refl
plan_after_lem rs remote local (ChoiceCase.Tlc place WayCase.Timeout) = refl
plan_after_lem rs remote local (ChoiceCase.Tlc place (WayCase.Preimage pair_place)) = refl

-- ---- what is handed out

module _ (h : ℕ) (args s preimages remote local : List ℕ) (choice : Choice) (n : ℕ) (p : Plan)
    (m : n ≡ length (entries (tracked_len h) s)) (e : p ≡ plan_of choice)
    (a : 36 ≤ length args) (d : length remote ≡ 36) (f : length local ≡ 36)
    (b : Within (length (entries (tracked_len h) s)) (length (entries pair_len preimages)) choice) where
  abbrev es : List (List ℕ)
  es = entries (tracked_len h) s

  abbrev ps : List (List ℕ)
  ps = entries pair_len preimages

  -- its pair is whole
  planned_pair : PairWhole preimages p.pair
  planned_pair = rw e (plan_pair preimages choice (within_pairs (length es) (length ps) choice b))

  unlock_same : unlock_of ps choice ≡ plan_unlock ps p
  unlock_same = rw e (plan_unlock_lem ps choice)

  after_same : state_after (tlcs h s) remote local (takes choice) ≡ plan_after (tlcs h s) remote local p
  after_same = rw e (plan_after_lem (tlcs h s) remote local choice)

  -- the three parts are those of the plan
  whole : unlock_of ps choice ++ state_bytes (tlcs h s) remote local ++ new_args args (state_after (tlcs h s) remote local (takes choice))
      ≡ joined args es ps remote local p
  unfolding joined
  whole = rw (unlock_same, after_same)

  module _ (last : Bool) (key : Key) (delay : Option Epoch) (place u k : ℕ) (eu : u ≡ witness_len (is_some p.pair)) (ek : k ≡ 57 + (length args - 57)) (out : List ℕ) where
    abbrev size : ℕ
    size = u + (73 + n * record_len h) + k

    abbrev handed : Outcome Answer
    handed = handed_out h args es ps remote local last choice key delay place out

    -- their length, as the code has it
    handed_size : length (joined args es ps remote local p) ≡ size
    handed_size = rw m (omega (arith, joined_size h args s preimages remote local p a d f planned_pair, tlcs_flat h s))

    -- 13
    pub handed_short : length out < size → (refused (OutputShort size) ≡ handed.answer) × (out ≡ handed.bytes)
    unfolding handed_out
    handed_short g =
        let t = lt-leb size (length out) g in
        (rw (whole, handed_size, t), rw (whole, handed_size, t))

    -- all is written
    pub handed_whole : size ≤ length out
        → (x : Amount) (l : ℕ) (out' : List ℕ) → x ≡ choice_amount (tlcs h s) remote local choice → l ≡ record_size h choice
        → out' ≡ sets out 0 (joined args es ps remote local p)
        → (decided (record {
          choice = choice;
          amount = x;
          key = key;
          delay = delay;
          unlock_len = u;
          state_len = 73 + n * record_len h;
          args_len = k;
          place = place;
          len = l;
          last = last;
        })
        ≡ handed.answer)
        × (out' ≡ handed.bytes)
    unfolding handed_out
    handed_whole g x l out' ex el eo =
        let t = le-leb size (length out) g in
        let n₁ : length (unlock_of ps choice) ≡ u = ap length unlock_same ∙ unlock_size_lem h args s preimages remote local p a d f planned_pair ∙ sym eu in
        let n₂ : length (state_bytes (tlcs h s) remote local) ≡ 73 + n * record_len h =
        state_size (tlcs h s) remote local d f ∙ ap (λ (j : ℕ). 73 + j) (tlcs_flat h s ∙ ap (λ (j : ℕ). j * record_len h) (sym m)) in
        let n₃ : length (new_args args (state_after (tlcs h s) remote local (takes choice))) ≡ k =
        new_size h args s preimages remote local p a d f planned_pair (state_after (tlcs h s) remote local (takes choice)) ∙ sym ek in
        (rw (whole, handed_size, t, n₁, n₂, n₃, ex, el), rw (whole, handed_size, t) eo)

-- no unlock makes a state longer
pub after_small : (rs : List (List ℕ)) (remote local : List ℕ) (c : Choice) → length remote ≡ 36 → length local ≡ 36
    → length (state_after rs remote local (takes c)) ≤ length (state_bytes rs remote local)
after_small rs remote local c e f =
    rw (plan_after_lem rs remote local c)
    (omega (arith, state_size rs remote local e f, after_size rs remote local (plan_of c) e f))

-- no unlock is shorter than one without a preimage
pub unlock_least : (pairs : List (List ℕ)) (c : Choice) → 67 ≤ length (unlock_of pairs c)
unfolding plan_unlock
unlock_least pairs c =
    let p = plan_of c in
    rw (plan_unlock_lem pairs c)
    (omega (arith, unlock_bytes_length (record { byte = p.byte; flag = is_some p.pair }) (replicate 65 0) (preimage_of pairs p.pair)))

-- the new args are as long, whatever they hash
pub new_lengths : (args s t : List ℕ) → length (new_args args s) ≡ length (new_args args t)
unfolding new_args
new_lengths args s t = simp (length-append, length-take, ckb_length)

-- ---- the update takes the unlock

-- an unlock is whole, and begins with a byte
pub record Whole (byte : ℕ) (u : List ℕ) : Type 0 where
  pub size : length u ≡ witness_len (eqb (get_or u 1 0) 1)
  pub first : get_or u 0 0 ≡ byte

unlock_of_lem : (u : Unlock) (preimage : List ℕ) → length preimage ≡ witness_len u.flag - 67 → Whole u.byte (unlock_bytes u (replicate 65 0) preimage)
unlock_of_lem u preimage e = record {
  size =
      unlock_bytes_length u (replicate 65 0) preimage
      ∙ go u.flag e
      ∙ ap witness_len (sym (unlock_bytes_flag u (replicate 65 0) preimage));
  first = unlock_bytes_byte u (replicate 65 0) preimage;
}
  where
    go : (b : Bool) → length preimage ≡ witness_len b - 67 → 2 + (65 + length preimage) ≡ witness_len b
    go true e = omega arith
    go false e = omega arith

pub unlock_whole : (ps : List (List ℕ)) (c : Choice) → Even pair_len ps → PairIn (length ps) c → Whole (choice_byte c) (unlock_of ps c)
unfolding unlock_of choice_byte
unlock_whole ps (ChoiceCase.Share side) a b = unlock_of_lem (record { byte = choice_byte (ChoiceCase.Share side); flag = false }) [] refl
unlock_whole ps (ChoiceCase.Tlc place WayCase.Timeout) a b = unlock_of_lem (record { byte = place; flag = false }) [] refl
unlock_whole ps (ChoiceCase.Tlc place (WayCase.Preimage pair_place)) a b =
    unlock_of_lem (record { byte = place; flag = true }) (pair_preimage (get_or ps pair_place [])) (part_length (get_or ps pair_place []) 32 32 (omega (arith, even_at a pair_place b)))

-- one unlock of a choice takes what the choice takes
unlocks_choice : (n share_place : ℕ) (w : List ℕ) (at : ℕ) (c : Choice) → n ≤ 254 → Below n c → get_or w at 0 ≡ choice_byte c
    → take_unlocks n share_place w none (at ∷ []) ≡ fine n share_place (takes c)
unfolding choice_byte takes Below
unlocks_choice n share_place w at (ChoiceCase.Share SideCase.Local) g b e = rw (unlocks_more, e, unlocks_none)
unlocks_choice n share_place w at (ChoiceCase.Share SideCase.Remote) g b e = rw (unlocks_more, e, unlocks_none)
unlocks_choice n share_place w at (ChoiceCase.Tlc place way) g b e =
    simp (unlocks_more, unlocks_none, e, member_none, ne_eqb place 255 (λ z. omega arith), ne_eqb place 254 (λ z. omega arith), lt-ltb place n b)

-- The update takes an unlock that is made of a choice, over the state that it was made for, whatever the count byte in front: it answers
-- the length of the state after the unlock, and writes that state.
module _ {h : ℕ} {tlcs : List (List ℕ)} {remote local : List ℕ} (ok : Sound h tlcs remote local) (few : length tlcs ≤ 254)
    (ps : List (List ℕ)) (a : Even pair_len ps) (c : Choice) (b : Within (length tlcs) (length ps) c) (count : ℕ) where
  abbrev u : List ℕ
  u = unlock_of ps c

  abbrev w : List ℕ
  w = count ∷ (state_bytes tlcs remote local ++ u)

  abbrev start : ℕ
  start = 1 + length (state_bytes tlcs remote local)

  u_whole : Whole (choice_byte c) u
  u_whole = unlock_whole ps c a (within_pairs (length tlcs) (length ps) c b)

  w_length : length w ≡ start + length u
  w_length = omega (arith, length-append (state_bytes tlcs remote local) u)

  -- its only unlock
  w_byte : (i : ℕ) → get_or w (start + i) 0 ≡ get_or u i 0
  w_byte i =
      sym (get_or-drop start w i 0)
      ∙ ap (λ (s : List ℕ). get_or s i 0)
      (sym (drop-drop (length (state_bytes tlcs remote local)) 1 w) ∙ drop_at (state_bytes tlcs remote local) u (length (state_bytes tlcs remote local)) refl)

  w_len : unlock_len w start ≡ length u
  w_len = ap (λ (x : ℕ). witness_len (eqb x 1)) (w_byte 1) ∙ sym u_whole.size

  w_places : places w start ≡ start ∷ []
  w_places =
      places_cons w start (omega (arith, w_length, u_whole.size, at_least (eqb (get_or u 1 0) 1)))
      ∙ ap (λ (ps : List ℕ). start ∷ ps) (places_nil w (start + unlock_len w start) (omega (arith, w_length, w_len)))

  -- it is read whole
  w_read : read_witness h w ≡ read_whole (length tlcs) 1 (behind_tlcs h (length tlcs)) start
  w_read =
      read_sound ok count u
      ∙ ap (λ (ps : List ℕ). unless_cut w ps cut_at (read_whole (length tlcs) (length ps) (behind_tlcs h (length tlcs)) start)) w_places
      ∙ cut_passed w cut_at _ start [] (omega (arith, w_length, w_len))
      ∙ cut_none w cut_at _

  -- all unlocks are taken
  w_unlocks : take_unlocks (length tlcs) (behind_tlcs h (length tlcs)) w none (places w start) ≡ fine (length tlcs) (behind_tlcs h (length tlcs)) (takes c)
  w_unlocks =
      ap (take_unlocks (length tlcs) (behind_tlcs h (length tlcs)) w none) w_places
      ∙ unlocks_choice (length tlcs) (behind_tlcs h (length tlcs)) w start c few (within_tlcs (length tlcs) (length ps) c b) (ap (λ (i : ℕ). get_or w i 0) (sym (add-zero start)) ∙ w_byte 0 ∙ u_whole.first)

  pub unlock_accepted : (out : List ℕ) → length (state_after tlcs remote local (takes c)) ≤ length out
      → updated h w out
      ≡ record {
        answer = Ok (length (state_after tlcs remote local (takes c)));
        bytes = sets out 0 (state_after tlcs remote local (takes c));
      }
  unfolding state_after
  unlock_accepted out g =
      updated_fine h w out (record { n = length tlcs; unlock_count = 1; share_place = behind_tlcs h (length tlcs); first_unlock = start }) w_read (takes c) w_unlocks
      ∙ rw (state_left_lem ok count u (takes c)) (outcome_room (state_after tlcs remote local (takes c)) out g)
