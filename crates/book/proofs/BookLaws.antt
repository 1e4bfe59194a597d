-- The update follows the book: over a sound state each call answers what the book says, and keeps the state that the book has.
-- Assumes nothing.
use Prim.Native.Nat.{ℕ, ◌+◌, ◌^◌, ◌≤◌, ◌<◌}
use native.Mathlib.Nat.{add-zero, zero-add, mul-le-mul, add_assoc}
use native.Mathlib.Omega.{arith}
use mathlib.Core.Path.{◌≡◌, refl, sym, ap, ◌∙◌}
use mathlib.Core.Bool.{Bool, true, false, cond, not}
use mathlib.Core.Logic.{◌⊎◌, inl, inr}
use mathlib.Core.List.{List, [], ◌∷◌, ◌++◌, map, append_assoc, flatten}
use lib.ListN.{length, get_or, take, drop, length-append, length-map, drop_of_length-le}
use lib.Seq.{sets, sets-eq, take_at, drop_at}
use lib.Dec.{ltb, leb, eqb}
use borrow.Author.Tests.{leb-true, leb-false, ltb-true, ltb-false, eqb-true}
use Rattle.std.specs.Prelude.{Result, Err}
use Rattle.fiber_refusal.specs.declared.Refusal.{Refusal}
use Rattle.fiber_refusal.specs.declared.Refusal.TheVariants.{WitnessShort, TlcCut, SharesCut, UnlockCut, UnlockUnknown, SettledTwice, LengthZero, ScaledAbove, ArgsShort, NoDelay, TooManyTlcs, OutputShort, NotWell}
use Rattle.fiber_refusal.specs.Rows.{number_of, place_of}
use Rattle.fiber_bytes.specs.Bytes.{part, le, le_bytes}
use Rattle.fiber_bytes.proofs.BytesLaws.{le_bytes_length}
use Rattle.fiber_bytes.proofs.CaseLaws.{by_test₂}
use Rattle.fiber_types.specs.HashLen.{valid_hash_len}
use Rattle.fiber_types.specs.Records.{Outcome, outcome}
use Rattle.fiber_types.proofs.RecordsLaws.{hash_len_small, outcome_short, outcome_whole}
use Rattle.fiber_types.proofs.RoundTrips.{le_le_bytes}
use Rattle.fiber_witness.specs.declared.witness.WitnessLayout.{WitnessLayout}
use Rattle.fiber_witness.specs.Unlocks.{unlocks_in}
use Rattle.fiber_witness.specs.Witness.{record_len, member, places, read_witness, whole, cut_at}
use Rattle.fiber_witness.specs.Update.{Taken, none, Unlocked, fine, faulty, take_unlocks, keep, state_left, updated}
use Rattle.fiber_witness.specs.inner.Strided.{behind_tlcs}
use Rattle.fiber_witness.proofs.WitnessLaws.{witness_unknown}
use Rattle.fiber_witness.proofs.UnlocksLaws.{beginnings, beginnings_none, beginnings_more, Reads, reads_rest, reads_more, unlocks_read, unlocks_cut, unlocks_places}
use Rattle.fiber_witness.proofs.UpdateLaws.{unlocks_none, unlocks_more, Comes, comes_fine, comes_faulty, unlocks_come, Ends, updated_refused, updated_turned, updated_fine}
use Rattle.fiber_witness.proofs.LeftLaws.{take_sets}
use Rattle.fiber_witness.proofs.StateLaws.{sound_left, sound_length, read_sound, state_left_lem}
use Rattle.fiber_choice.specs.declared.kinds.Side.{Side}
use Rattle.fiber_choice.specs.declared.kinds.Side.TheVariants.{Remote, Local}
use Rattle.c_answer.proofs.AnswersLaws.{pair_length}
use Rattle.settlement_c.specs.Settlement.{OutCall, written_call}
use Rattle.settlement_c.proofs.SettlementLaws.{called, update_written, written_short, written_refused, written_bytes}
use Rattle.book.specs.Trace.{Transition}
use Rattle.book.specs.Book.{tlc_amount, share_amount, Book, state_of, Payee, share, tlc, payee_of, pay, unless_faulty, refused, BookAnswer, unmoved, close, run, enter}
use Rattle.book.specs.Demand3.{HostCall, host_transition, lengths, returned, Payment, payments, total, Rising}
use Rattle.book.proofs.StateLaws.{SoundParts}
use Rattle.book.proofs.StandingLaws.{records_at, Without, without_is, unsettled, unsettled_none, without_at, records_at_at, records_at_keep, unsettled_rising, unsettled_member}
use Rattle.book.proofs.SharesLaws.{takes, left_of, shares_left, left_none, left_more, amounts_of, amounts_more}

-- ---- the book in a call

-- the records that stand
abbrev pub standing_of : Book → List (List ℕ)
standing_of b = records_at b.tlcs b.standing

abbrev pub sum_of : List Payment → ℕ
sum_of ps = total (map (λ (p : Payment). p.amount) ps)

-- the book after what was taken, with the sum paid by then
abbrev pub after : Book → Taken → ℕ → Book
after b t p = record { tlcs = b.tlcs; standing = unsettled t.settled 0 b.standing; shares = shares_left t b.shares; paid = p }

after_none : (b : Book) → after b none b.paid ≡ b
after_none b = rw (unsettled_none 0 b.standing, left_none b.shares)

-- what stands then is what was not settled
after_stands : (b : Book) (t : Taken) (p : ℕ) → standing_of (after b t p) ≡ keep t.settled 0 (standing_of b)
after_stands b t p = sym (records_at_keep b.tlcs t.settled 0 b.standing)

-- a claim of two things that go by one test, the first the other way round
by_not : {A B : Type 0} (P : A → B → Type 0) (b : Bool) (x y : A) (x' y' : B) → (b ≡ true → P y x') → (b ≡ false → P x y') → P (cond (not b) x y) (cond b x' y')
by_not P true x y x' y' f g = f refl
by_not P false x y x' y' f g = g refl

-- a refusal is to the book its number and its place
abbrev refused_by : Refusal → Book → Transition Book BookAnswer
refused_by r = unmoved (refused (number_of r) (place_of r))

-- no row has the number 0, which is that of success
no_success : (r : Refusal) → eqb (number_of r) 0 ≡ false
no_success (WitnessShort length) = refl
no_success (TlcCut at) = refl
no_success (SharesCut at) = refl
no_success (UnlockCut at) = refl
no_success (UnlockUnknown at) = refl
no_success (SettledTwice at) = refl
no_success LengthZero = refl
no_success ScaledAbove = refl
no_success ArgsShort = refl
no_success NoDelay = refl
no_success TooManyTlcs = refl
no_success (OutputShort needed) = refl
no_success NotWell = refl

-- ---- the unlocks of a call: the book's run follows the update's

module _ (room : ℕ) (before : Book) where
  -- what taken unlocks is to the book
  entry_of : ℕ → Unlocked → Transition Book BookAnswer
  entry_of p (fine k from t) = close room before (after before t p)
  entry_of p (faulty r) = refused_by r before

  -- what payees are paid, after what was taken
  abbrev due : Taken → List Payee → List Payment
  due t us = payments (standing_of before) before.standing (amounts_of (shares_left t before.shares)) us

  -- the shares at a place of the witness
  module _ (from : ℕ) (w : List ℕ) where
    abbrev n : ℕ
    n = length (standing_of before)

    -- from here, the book's run is what the update takes, and pays what the unlocks pay
    abbrev Follows : ℕ → List (List ℕ) → Taken → ℕ → Type 0
    Follows at us t p =
        run room before at (after before t p) us
        ≡ entry_of (p + sum_of (due t (map payee_of us))) (take_unlocks n from w t (beginnings at us))

    -- with an unlock in front, by whom it pays
    module _ (at : ℕ) (u : List ℕ) (us : List (List ℕ)) (t : Taken) (p : ℕ) (ih : (t : Taken) (p : ℕ) → Follows (at + length u) us t p) where
      abbrev From : Payee → Unlocked → Type 0
      From who j = payee_of u ≡ who → run room before at (after before t p) (u ∷ us) ≡ entry_of (p + sum_of (due t (map payee_of (u ∷ us)))) j

      from_share : (side : Side) → From (share side) (take_unlocks n from w (takes side t) (beginnings (at + length u) us))
      unfolding run unless_faulty pay payments total
      from_share side e =
          let amount = share_amount (shares_left t before.shares side) in
          simp (e, left_more side t before.shares, amounts_more side t before.shares, ← add_assoc p amount) (ih (takes side t) (p + amount))

      from_tlc : Rising 0 before.standing → (i : ℕ) → From (tlc i)
          (cond (ltb i n)
          (cond (member i t.settled) (faulty (SettledTwice at))
          (take_unlocks n from w (record { settled = i ∷ t.settled; remote = t.remote; local = t.local }) (beginnings (at + length u) us)))
          (faulty (UnlockUnknown at)))
      unfolding run unless_faulty pay payments total entry_of
      from_tlc order i e =
          let fs = before.standing in
          let f = get_or fs i 0 in
          let amount = tlc_amount (get_or before.tlcs f []) in
          let long : length fs ≡ n = sym (length-map fs (λ (j : ℕ). get_or before.tlcs j [])) in
          let Q : Transition Book BookAnswer → Unlocked → Type 0 = λ r j. r ≡ entry_of (p + (tlc_amount (get_or (standing_of before) i []) + sum_of (due t (map payee_of us)))) j in
          rw (e, long)
          (by_test₂ Q (ltb i n) _ _ _ _
          (λ lt.
          let g : i < length fs = omega (arith, ltb-true i n lt) in
          rw (unsettled_member t.settled order i g)
          (by_not Q (member i t.settled) _ _ _ _
          (λ _. refl)
          (λ m.
          let x : Without f (unsettled t.settled 0 fs) (unsettled (i ∷ t.settled) 0 fs) = rw zero-add at (without_at t.settled 0 fs i g (rw zero-add m)) in
          rw (without_is x (unsettled_rising t.settled 0 order), records_at_at before.tlcs fs i g, ← add_assoc p amount)
          (ih (record { settled = i ∷ t.settled; remote = t.remote; local = t.local }) (p + amount)))))
          (λ _. refl))

    follows : Rising 0 before.standing → {at : ℕ} {us : List (List ℕ)} {rest : List ℕ} → Reads w at us rest → (t : Taken) (p : ℕ) → Follows at us t p
    unfolding run payee_of payments total entry_of
    follows order (reads_rest {at = at} e f) t p = rw (beginnings_none at, unlocks_none, add-zero)
    follows order {at} (reads_more {u = u} {us = us} k room byte r) t p =
        let ih : (t : Taken) (p : ℕ) → Follows (at + length u) us t p = follows order r in
        rw (beginnings_more at u us, unlocks_more n from w t at (beginnings (at + length u) us), ← byte)
        (by_test₂ (From at u us t p ih) (eqb (get_or u 0 0) 255) _ _ _ _
        (λ _. from_share at u us t p ih Local)
        (λ _. by_test₂ (From at u us t p ih) (eqb (get_or u 0 0) 254) _ _ _ _
        (λ _. from_share at u us t p ih Remote)
        (λ _. from_tlc at u us t p ih order (get_or u 0 0)))
        refl)

-- ---- what the host reads back

-- a number of eight bytes behind sixteen
front_read : (l front rest : List ℕ) (x : ℕ) → length front ≡ 16 → l ≡ (front ++ le_bytes 8 x) ++ rest → x < 256 ^ 8 → le (part l 16 8) ≡ x
front_read l front rest x f e b =
    ap (λ (k : List ℕ). le (part k 16 8)) (e ∙ append_assoc front (le_bytes 8 x) rest)
    ∙ ap (λ (k : List ℕ). le (take 8 k)) (drop_at front (le_bytes 8 x ++ rest) 16 f)
    ∙ ap le (take_at (le_bytes 8 x) rest 8 (le_bytes_length 8 x))
    ∙ le_le_bytes 8 x b

-- the answer's third number
third_number : (l : List ℕ) (x : ℕ) → 24 ≤ length l → x < 256 ^ 8 → le (part (sets l 0 ((le_bytes 8 0 ++ le_bytes 8 0) ++ le_bytes 8 x)) 16 8) ≡ x
third_number l x f b =
    let front = le_bytes 8 0 ++ le_bytes 8 0 in
    let r : 0 + length (front ++ le_bytes 8 x) ≤ length l = omega (arith, length-append front (le_bytes 8 x), pair_length 0 0, le_bytes_length 8 x) in
    front_read (sets l 0 (front ++ le_bytes 8 x)) front _ x (pair_length 0 0) (sets-eq (front ++ le_bytes 8 x) l 0 r) b

-- ---- a call

-- a call's witness and its unlocks, what the update takes of them, and what they pay
abbrev pub witness : Book → HostCall → List ℕ
witness b c = c.count ∷ (state_of b ++ c.behind)

abbrev pub unlocks : HostCall → List (List ℕ)
unlocks c = (unlocks_in c.behind).whole

abbrev pub shares_at : ℕ → Book → ℕ
shares_at h b = behind_tlcs h (length (standing_of b))

abbrev pub took : ℕ → Book → HostCall → Unlocked
took h b c = take_unlocks (length (standing_of b)) (shares_at h b) (witness b c) none (beginnings (1 + length (state_of b)) (unlocks c))

abbrev pub payments_of : Book → HostCall → List Payment
payments_of b c = payments (standing_of b) b.standing (amounts_of b.shares) (map payee_of (unlocks c))

-- they stand in the witness behind the state
pub behind_state : (b : Book) (c : HostCall) → drop (1 + length (state_of b)) (witness b c) ≡ c.behind
behind_state b c = drop_at (c.count ∷ state_of b) c.behind (1 + length (state_of b)) (omega arith)

-- a book whose state is sound, with the places of those that stand in order
pub record SoundBook (h : ℕ) (b : Book) : Type 0 where
  pub parts : SoundParts h (standing_of b) b.shares
  pub order : Rising 0 b.standing

-- the book after a call is one too
pub after_sound : (h : ℕ) (b : Book) → SoundBook h b → (t : Taken) (p : ℕ) → SoundBook h (after b t p)
unfolding left_of
after_sound h b ok t p = record { parts = rw (after_stands b t p) (sound_left ok.parts t); order = unsettled_rising t.settled 0 ok.order }

-- An accepted call: all unlocks are taken, the book is moved by what it took, and the host reads the book's state back.
pub record Moves (b : Book) (j : Unlocked) (p : ℕ) (o : OutCall) (e : Transition Book BookAnswer) : Type 0 where
  pub status : eqb o.status 0 ≡ true
  pub taken : Taken
  pub ends : Ends j taken
  pub book : e.next ≡ after b taken p
  pub reads : take (le (part o.answer 16 8)) o.out ≡ state_of e.next

-- A call that is turned down leaves the book.
pub record Stays (b : Book) (o : OutCall) (e : Transition Book BookAnswer) : Type 0 where
  pub status : eqb o.status 0 ≡ false
  pub book : e.next ≡ b

-- one call of the update and one of the book: the host gets the same
pub record Turn (b : Book) (c : HostCall) (j : Unlocked) (p : ℕ) (o : OutCall) (e : Transition Book BookAnswer) : Type 0 where
  pub same : o ≡ returned c e.answer (state_of e.next)
  pub how : Stays b o e ⊎ Moves b j p o e

-- an outcome as the host gets it
abbrev host : HostCall → Outcome (Result ℕ Refusal) → OutCall
host c o = written_call o c.out c.answer

module _ (b : Book) (c : HostCall) (room : 24 ≤ length c.answer) (j : Unlocked) (p : ℕ) where
  -- a refusal
  turned_down : (o : Outcome (Result ℕ Refusal)) (r : Refusal) → (Err r ≡ o.answer) × (c.out ≡ o.bytes) → Turn b c j p (host c o) (refused_by r b)
  unfolding returned
  turned_down o r e =
      rw (called (written_refused o c.out c.answer room c.out e.1 r e.0 _ refl))
      (record { same = refl; how = inl (record { status = no_success r; book = refl }) })

  -- the state left is written, or has no room
  wrote_case : (x : Taken) → Ends j x → length (state_of (after b x p)) < 256 ^ 8 → (t : Bool) → leb (length (state_of (after b x p))) (length c.out) ≡ t
      → Turn b c j p (host c (outcome true (state_of (after b x p)) c.out)) (close (length c.out) b (after b x p))
  unfolding close returned
  wrote_case x v short true t =
      let s = state_of (after b x p) in
      let w = outcome_whole true s c.out refl (length s) refl (leb-true _ _ t) (sets c.out 0 s) refl in
      let reads : take (le (part (sets c.answer 0 ((le_bytes 8 0 ++ le_bytes 8 0) ++ le_bytes 8 (length s))) 16 8)) (sets c.out 0 s) ≡ s =
      ap (λ (k : ℕ). take k (sets c.out 0 s)) (third_number c.answer (length s) room short)
      ∙ take_sets c.out s (leb-true _ _ t) in
      rw (called (written_bytes (outcome true s c.out) c.out c.answer room (sets c.out 0 s) w.1 (length s) w.0 _ refl))
      (simp t (record { same = refl; how = inr (record { status = refl; taken = x; ends = v; book = refl; reads = reads }) }))
  wrote_case x v short false t =
      let s = state_of (after b x p) in
      simp t (turned_down (outcome true s c.out) (OutputShort (length s)) (outcome_short true s c.out refl (length s) refl (leb-false _ _ t)))

-- ---- a call, from its arguments

module _ (h : ℕ) (b : Book) (ok : SoundBook h b) (c : HostCall) where
  -- what is paid after the call, where it is accepted
  abbrev sum : ℕ
  sum = b.paid + sum_of (payments_of b c)

  -- the book's run of the call
  run_is : run (length c.out) b (1 + length (state_of b)) b (unlocks c) ≡ entry_of (length c.out) b sum (took h b c)
  run_is =
      ap (λ (x : Book). run (length c.out) b (1 + length (state_of b)) x (unlocks c)) (sym (after_none b))
      ∙ follows (length c.out) b (shares_at h b) (witness b c) ok.order (unlocks_read (witness b c) (1 + length (state_of b)) c.behind (behind_state b c)) none b.paid
      ∙ ap (λ (f : Side → List ℕ). entry_of (length c.out) b (b.paid + sum_of (payments (standing_of b) b.standing (amounts_of f) (map payee_of (unlocks c)))) (took h b c)) (left_none b.shares)

  -- what the update leaves of the state is the book's
  state_after_lem : (t : Taken) (p : ℕ) → state_left h (witness b c) (length (standing_of b)) (shares_at h b) t ≡ state_of (after b t p)
  unfolding state_of left_of
  state_after_lem t p = rw (after_stands b t p) (state_left_lem ok.parts c.count c.behind t)

  -- its length fits eight bytes
  short_state : (t : Taken) (p : ℕ) → length (state_of (after b t p)) < 256 ^ 8
  unfolding state_of
  short_state t p =
      let s = (after_sound h b ok t p).parts in
      let k = hash_len_small h ok.parts.hash in
      let g : record_len h ≤ 97 = omega arith in
      omega (arith, sound_length s, mul-le-mul s.few g)

  -- what its witness is read as: whole, or with an unlock that is cut short
  abbrev read : Result WitnessLayout Refusal
  read = whole (length (standing_of b)) (length (places (witness b c) (1 + length (state_of b)))) (shares_at h b) (1 + length (state_of b))

  abbrev cut : ℕ
  cut = 1 + length (state_of b) + length (flatten (unlocks c))

  read_is : read_witness h (witness b c) ≡ cond (eqb (length (unlocks_in c.behind).rest) 0) read (cut_at cut)
  unfolding state_of
  read_is = read_sound ok.parts c.count c.behind ∙ unlocks_cut (witness b c) (1 + length (state_of b)) c.behind (behind_state b c) cut_at read

  module _ (room : 24 ≤ length c.answer) where
    -- taken unlocks and what the book makes of it
    answer_case : read_witness h (witness b c) ≡ read → places (witness b c) (1 + length (state_of b)) ≡ beginnings (1 + length (state_of b)) (unlocks c)
        → {j : Unlocked} → Comes (length (standing_of b)) (shares_at h b) j → took h b c ≡ j
        → Turn b c j sum (host c (updated h (witness b c) c.out)) (entry_of (length c.out) b sum j)
    unfolding entry_of
    answer_case e g (comes_fine t) v =
        let s = state_of (after b t sum) in
        rw (updated_fine h (witness b c) c.out _ e t (rw g v), state_after_lem t sum)
        (wrote_case b c room (fine (length (standing_of b)) (shares_at h b) t) sum t refl (short_state t sum) (leb (length s) (length c.out)) refl)
    answer_case e g (comes_faulty r) v =
        turned_down b c room (faulty r) sum (updated h (witness b c) c.out) r (updated_turned h (witness b c) c.out _ e r (rw g v))

    -- the channel's h
    channel_case : (g : ℕ) → g ≡ h
        → Turn b c (took h b c) sum (host c (updated g (witness b c) c.out))
        (cond (eqb (length (unlocks_in c.behind).rest) 0) (run (length c.out) b (1 + length (state_of b)) b (unlocks c)) (refused_by (UnlockCut cut) b))
    channel_case g e =
        let P : Result WitnessLayout Refusal → Transition Book BookAnswer → Type 0 = λ r x. read_witness h (witness b c) ≡ r → Turn b c (took h b c) sum (host c (updated h (witness b c) c.out)) x in
        rw e
        (by_test₂ P (eqb (length (unlocks_in c.behind).rest) 0) _ _ _ _
        (λ t f.
        let none_left : length (unlocks_in c.behind).rest ≤ 0 = omega (arith, eqb-true (length (unlocks_in c.behind).rest) 0 t) in
        let g = unlocks_places (witness b c) (1 + length (state_of b)) c.behind (behind_state b c) (drop_of_length-le (unlocks_in c.behind).rest {i = 0} none_left) in
        rw run_is (answer_case f g (unlocks_come (length (standing_of b)) (shares_at h b) (witness b c) none (beginnings (1 + length (state_of b)) (unlocks c))) refl))
        (λ _ f. turned_down b c room (took h b c) sum (updated h (witness b c) c.out) (UnlockCut cut) (updated_refused h (witness b c) c.out (UnlockCut cut) f))
        read_is)

    -- an h that row 14 turns down
    other_case : (g : ℕ) → valid_hash_len g ≡ false → Turn b c (took h b c) sum (host c (updated g (witness b c) c.out)) (refused_by NotWell b)
    other_case g e =
        turned_down b c room (took h b c) sum (updated g (witness b c) c.out) NotWell
        (updated_refused g (witness b c) c.out NotWell (sym (witness_unknown g (witness b c) e)))

  -- each call of the channel follows the book
  pub turn : (c.h ≡ h) ⊎ (valid_hash_len c.h ≡ false) → Turn b c (took h b c) sum (host_transition (state_of b) c).answer (enter b (lengths c))
  unfolding host_transition enter returned
  turn of = rw (update_written c.h (witness b c) c.out c.answer) (go (ltb (length c.answer) 24) refl of)
    where
      go : (t : Bool) → ltb (length c.answer) 24 ≡ t → (c.h ≡ h) ⊎ (valid_hash_len c.h ≡ false)
          → Turn b c (took h b c) sum (host c (updated c.h (witness b c) c.out)) (enter b (lengths c))
      go true t f =
          rw (called (written_short (updated c.h (witness b c) c.out) c.out c.answer (ltb-true _ _ t)))
          (simp t (record { same = refl; how = inl (record { status = refl; book = refl }) }))
      go false t (inl e) =
          let k : valid_hash_len c.h ≡ true = rw e ok.parts.hash in
          simp (t, k) (channel_case (ltb-false _ _ t) c.h e)
      go false t (inr e) = simp (t, e) (other_case (ltb-false _ _ t) c.h e)

-- the host keeps the book's state, which stays sound
module _ (b : Book) (c : HostCall) (j : Unlocked) (p : ℕ) (e : Transition Book BookAnswer) where
  pub turn_kept : Stays b (host_transition (state_of b) c).answer e ⊎ Moves b j p (host_transition (state_of b) c).answer e → (host_transition (state_of b) c).next ≡ state_of e.next
  unfolding host_transition
  turn_kept (inl s) = simp (s.status, s.book)
  turn_kept (inr m) = simp m.status m.reads

  pub turn_sound : (h : ℕ) (o : OutCall) → SoundBook h b → Stays b o e ⊎ Moves b j p o e → SoundBook h e.next
  turn_sound h o ok (inl s) = rw s.book ok
  turn_sound h o ok (inr m) = rw m.book (after_sound h b ok m.taken p)
