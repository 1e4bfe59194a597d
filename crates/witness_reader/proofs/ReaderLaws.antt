-- Laws of `specs/Reader.antt`, what two takes mean for an unlock, and the loop over the unlocks.
-- Assumes nothing.
use Prim.Native.Nat.{ℕ, suc, ◌+◌, ◌-◌, ◌*◌, ◌/◌, ◌≤◌, ◌<◌}
use native.Mathlib.Omega.{arith}
use mathlib.Core.Path.{◌≡◌, refl, ap, sym, ◌∙◌}
use mathlib.Core.Bool.{Bool, true, false, cond, false≢true}
use mathlib.Core.List.{List}
use mathlib.Core.Logic.{⊎_elim}
use lib.Dec.{eqb, lit<}
use lib.ListN.{length, get_or, take, drop, length-take, length-drop}
use lib.Seq.{get_or-take, get_or-drop, drop-drop}
use borrow.Author.Tests.{le-leb, lt-leb}
use Rattle.std.specs.Prelude.{Option, Some, None, Result, Err}
use Rattle.std.specs.Option.{ok_or, MatchOption}
use Rattle.std.proofs.lemmas.Bool.{cases_lt}
use Rattle.std.proofs.lemmas.Option.{MatchOption-at_none, MatchOption-at_some}
use denote.Bor.{Bor}
use Rattle.fiber_refusal.specs.declared.Refusal.{Refusal}
use Rattle.fiber_refusal.specs.declared.Refusal.TheVariants.{TlcCut, SharesCut, UnlockCut}
use Rattle.fiber_types.specs.HashLen.{valid_hash_len}
use Rattle.fiber_types.specs.Records.{witness_len}
use Rattle.fiber_witness.specs.Witness.{record_len, unlock_len, places, read_unlocks, read_tlcs, read_witness, whole, cut_at}
use Rattle.fiber_witness.specs.inner.Strided.{behind_tlcs}
use Rattle.fiber_witness.proofs.WitnessLaws.{unlock_long, places_cons, cut_passed, cut_short, Reading, reading_start, reading_end, whole_cut, shares_cut, shares_whole, witness_tlcs}
use Rattle.witness_reader.specs.declared.WitnessReader.{WitnessReader}
use Rattle.witness_reader.specs.Reader.{taken, left}

-- ---- what is taken and left

-- nothing, or n bytes and those behind them
module _ (s : List ℕ) (n : ℕ) where
  pub takes_none : length s < n → taken s n ≡ None
  unfolding taken
  takes_none h = rw (lt-leb n (length s) h)

  pub takes : n ≤ length s → (taken s n ≡ Some (take n s)) × (left s n ≡ drop n s)
  unfolding taken left
  takes h = (rw (le-leb n (length s) h), rw (le-leb n (length s) h))

  -- and so the other way around
  pub none_taken : taken s n ≡ None → length s < n
  none_taken e = ⊎_elim
      (λ h. h)
      (λ h. let z : ◌≡◌ {A = Option (List ℕ)} (Some (take n s)) None = sym (takes h).0 ∙ e in absurd (false≢true cc))
      (cases_lt (length s) n)

  pub some_taken : (part rest : List ℕ) → (taken s n ≡ Some part) × (left s n ≡ rest) → (n ≤ length s) × (part ≡ take n s) × (rest ≡ drop n s)
  some_taken part rest e = ⊎_elim
      (λ h. let z : ◌≡◌ {A = Option (List ℕ)} None (Some part) = sym (takes_none h) ∙ e.0 in absurd (false≢true cc))
      (λ h. (h, (let z : ◌≡◌ {A = Option (List ℕ)} (Some (take n s)) (Some part) = sym (takes h).0 ∙ e.0 in cc), sym e.1 ∙ (takes h).1))
      (cases_lt (length s) n)

-- ---- an unlock, taken in two parts

module _ (s part rest : List ℕ) (k : ℕ) (first : (taken s 67 ≡ Some part) × (left s 67 ≡ rest)) (e : k ≡ cond (eqb (get_or part 1 0) 1) 32 0) where
  -- the flag is one of the first part's bytes
  unlock_is : unlock_len s 0 ≡ 67 + k
  unlock_is =
      let p = some_taken s 67 part rest first in
      let f : get_or part 1 0 ≡ get_or s 1 0 = ap (λ (l : List ℕ). get_or l 1 0) p.1 ∙ get_or-take 67 s 1 0 (lit< tt) in
      sized (eqb (get_or s 1 0) 1) (e ∙ ap (λ (b : ℕ). cond (eqb b 1) 32 0) f)
    where
      sized : (flag : Bool) → k ≡ cond flag 32 0 → witness_len flag ≡ 67 + k
      sized true e = omega (arith, e)
      sized false e = omega (arith, e)

  pub unlock_short : taken rest k ≡ None → length s < unlock_len s 0
  unlock_short g =
      let p = some_taken s 67 part rest first in
      omega (arith, none_taken rest k g, ap length p.2, length-drop 67 s, p.0, unlock_is)

  pub unlock_whole : (preimage t : List ℕ) → (taken rest k ≡ Some preimage) × (left rest k ≡ t) → (unlock_len s 0 ≤ length s) × (t ≡ drop (unlock_len s 0) s)
  unlock_whole preimage t g =
      let p = some_taken s 67 part rest first in
      let q = some_taken rest k preimage t g in (
        omega (arith, q.0, ap length p.2, length-drop 67 s, p.0, unlock_is),
        q.2 ∙ (ap (drop k) p.2 ∙ (drop-drop k 67 s ∙ ap (λ (i : ℕ). drop i s) (sym unlock_is))),
      )

-- ---- the loop over the unlocks: k of them are before place at, where what is left begins

pub record Rest (w s : List ℕ) (n share_place k : ℕ) : Type 0 where
  pub at : ℕ
  pub is : s ≡ drop at w
  pub reading : Reading w n share_place at k

pub rest_start : (w s : List ℕ) (n share_place : ℕ) → share_place + 72 ≤ length w → s ≡ drop (share_place + 72) w → Rest w s n share_place 0
rest_start w s n share_place h e = record { at = share_place + 72; is = e; reading = reading_start w n share_place h }

module _ (w s : List ℕ) (n share_place k : ℕ) (c : Rest w s n share_place k) where
  -- where what is left begins
  pub rest_at : c.at + length s ≡ length w
  rest_at = omega (arith, ap length c.is ∙ length-drop c.at w, c.reading.room)

  pub rest_few : k + length s ≤ length w
  rest_few = omega (arith, rest_at, c.reading.few)

  -- nothing is left
  pub rest_end : length s ≡ 0 → whole n k share_place (share_place + 72) ≡ read_unlocks w n share_place
  rest_end e = reading_end w n share_place c.at k c.reading (omega (arith, rest_at))

  -- the unlock is the one at that place
  rest_unlock : unlock_len s 0 ≡ unlock_len w c.at
  rest_unlock = ap (λ (l : List ℕ). unlock_len l 0) c.is ∙ ap (λ (b : ℕ). witness_len (eqb b 1)) (get_or-drop c.at w 1 0)

  module _ (g : length s ≡ 0 → ⊥) where
    -- it is cut short
    pub rest_cut : length s < unlock_len s 0 → Err (UnlockCut (length w - length s)) ≡ read_unlocks w n share_place
    rest_cut f =
        let p : length w - length s ≡ c.at = omega (arith, rest_at) in
        let b : c.at < length w = omega (arith, rest_at) in
        let l : length w < c.at + unlock_len w c.at = omega (arith, rest_at, f, rest_unlock) in
        rw p (rw (places_cons w c.at b, cut_short w cut_at _ c.at (places w (c.at + unlock_len w c.at)) l) at c.reading.rest)

    -- it is passed
    pub rest_more : (t : List ℕ) → (unlock_len s 0 ≤ length s) × (t ≡ drop (unlock_len s 0) s) → Rest w t n share_place (k + 1)
    rest_more t e =
        let u = unlock_len w c.at in
        let b : c.at < length w = omega (arith, rest_at) in
        let l : c.at + u ≤ length w = omega (arith, rest_at, e.0, rest_unlock) in
        let m : k + suc (length (places w (c.at + u))) ≡ k + 1 + length (places w (c.at + u)) = omega arith in
        record {
          at = c.at + u;
          is = e.1 ∙ (ap (drop (unlock_len s 0)) c.is ∙ (drop-drop (unlock_len s 0) c.at w ∙ ap (λ (i : ℕ). drop (c.at + i) w) rest_unlock));
          reading = record {
            few = omega (arith, c.reading.few, unlock_long w c.at);
            room = l;
            rest = rw (places_cons w c.at b, cut_passed w cut_at _ c.at (places w (c.at + u)) l, m) at c.reading.rest;
          };
        }

-- what is left falls
pub rest_less : (s t : List ℕ) → (unlock_len s 0 ≤ length s) × (t ≡ drop (unlock_len s 0) s) → length t < length s
rest_less s t e = omega (arith, ap length e.1 ∙ length-drop (unlock_len s 0) s, e.0, unlock_long s 0)

-- ---- a witness, taken in three parts: two counts, the TLCs, two shares

-- what `take` says of its answer, n bytes of s or nothing
abbrev pub Take : List ℕ → ℕ → Option (Bor (List ℕ) × WitnessReader) → Type 0
Take s n o = MatchOption o (taken s n ≡ None) (λ p. (taken s n ≡ Some p.0.now) × (left s n ≡ p.1.remaining.now))

pub take_none : (s : List ℕ) (n : ℕ) {o : Option (Bor (List ℕ) × WitnessReader)} → Take s n o → o ≡ None → length s < n
take_none s n t e = none_taken s n (MatchOption-at_none _ _ e t)

take_some : (s : List ℕ) (n : ℕ) {o : Option (Bor (List ℕ) × WitnessReader)} {part : Bor (List ℕ)} {rest : WitnessReader} → Take s n o → o ≡ Some (part, rest)
    → (n ≤ length s) × (part.now ≡ take n s) × (rest.remaining.now ≡ drop n s)
take_some s n {o} {part} {rest} t e = some_taken s n part.now rest.remaining.now (MatchOption-at_some _ _ _ e t)

-- the two counts of a witness of a channel whose hashes have h bytes, whose records have so many bytes, and what is left behind them
pub record Counts (h size : ℕ) (w : List ℕ) (counts : Bor (List ℕ)) (tlcs : WitnessReader) : Type 0 where
  pub hash : valid_hash_len h ≡ true
  pub record_size : size ≡ record_len h
  pub long : 2 ≤ length w
  pub front : counts.now ≡ take 2 w
  pub behind : tlcs.remaining.now ≡ drop 2 w

pub counts_taken : (h size : ℕ) (w : List ℕ) {o : Option (Bor (List ℕ) × WitnessReader)} {counts : Bor (List ℕ)} {tlcs : WitnessReader}
    → valid_hash_len h ≡ true → size ≡ record_len h → Take w 2 o → o ≡ Some (counts, tlcs) → Counts h size w counts tlcs
counts_taken h size w k e t some =
    let z = take_some w 2 t some in
    record { hash = k; record_size = e; long = z.0; front = z.1; behind = z.2 }

module _ {h size : ℕ} {w : List ℕ} {counts : Bor (List ℕ)} {tlcs : WitnessReader} (first : Counts h size w counts tlcs) where
  abbrev n : ℕ
  n = get_or counts.now 1 0

  -- the TLCs' bytes, and the place behind them
  bytes_lem : n * size ≡ n * record_len h
  bytes_lem = ap (λ (m : ℕ). n * m) first.record_size

  tlcs_length : length w - 2 ≡ length tlcs.remaining.now
  tlcs_length = sym (length-drop 2 w) ∙ ap length (sym first.behind)

  -- the count is one of the first two bytes
  pub counts_there : 1 < length counts.now
  counts_there = omega (arith, ap length first.front, length-take 2 w, first.long)

  to_witness : read_tlcs n h w n 2 ≡ read_witness h w
  to_witness =
      let f : n ≡ get_or w 1 0 = ap (λ (l : List ℕ). get_or l 1 0) first.front ∙ get_or-take 2 w 1 0 (lit< tt) in
      ap (λ (m : ℕ). read_tlcs m h w m 2) f ∙ witness_tlcs h w first.hash first.long

  pub read_cut : taken tlcs.remaining.now (n * size) ≡ None → Err (TlcCut (2 + (length tlcs.remaining.now / size) * size)) ≡ read_witness h w
  read_cut g =
      let f : length w < behind_tlcs h n = omega (arith, none_taken tlcs.remaining.now (n * size) g, tlcs_length, bytes_lem) in
      rw (← tlcs_length, first.record_size) (whole_cut h w n ((length w - 2) / record_len h) refl first.long f) ∙ to_witness

  module _ {part shares : List ℕ} (second : (taken tlcs.remaining.now (n * size) ≡ Some part) × (left tlcs.remaining.now (n * size) ≡ shares)) where
    behind : (n * size ≤ length tlcs.remaining.now) × (part ≡ take (n * size) tlcs.remaining.now) × (shares ≡ drop (n * size) tlcs.remaining.now)
    behind = some_taken tlcs.remaining.now (n * size) part shares second

    room : behind_tlcs h n ≤ length w
    room = omega (arith, first.long, behind.0, tlcs_length, bytes_lem)

    shares_are : shares ≡ drop (2 + n * size) w
    shares_are = behind.2 ∙ (ap (drop (n * size)) first.behind ∙ drop-drop (n * size) 2 w)

    shares_length : length shares ≡ length w - behind_tlcs h n
    shares_length = ap length shares_are ∙ (length-drop (2 + n * size) w ∙ ap (λ (m : ℕ). length w - (2 + m)) bytes_lem)

    module _ {o' : Option (Bor (List ℕ) × WitnessReader)} (t' : Take shares 72 o') where
      pub read_unshared : (place : ℕ) → place ≡ 2 + n * size → o' ≡ None → Err (SharesCut place) ≡ read_witness h w
      read_unshared place f g = rw (f, first.record_size) (shares_cut h w n room (omega (arith, take_none shares 72 t' g, shares_length, room))) ∙ to_witness

      module _ {both : Bor (List ℕ)} {unlocks : WitnessReader} (some' : o' ≡ Some (both, unlocks)) where
        third : (72 ≤ length shares) × (both.now ≡ take 72 shares) × (unlocks.remaining.now ≡ drop 72 shares)
        third = take_some shares 72 t' some'

        shares_room : behind_tlcs h n + 72 ≤ length w
        shares_room = omega (arith, third.0, shares_length, room)

        pub unlocks_are : (2 + n * size + 72 ≤ length w) × (unlocks.remaining.now ≡ drop (2 + n * size + 72) w)
        unlocks_are = (omega (arith, shares_room, bytes_lem), third.2 ∙ (ap (drop 72) shares_are ∙ drop-drop 72 (2 + n * size) w))

        pub read_whole : read_unlocks w n (2 + n * size) ≡ read_witness h w
        read_whole = rw first.record_size (shares_whole h w n room shares_room) ∙ to_witness

-- why nothing was taken is the refusal that stands for it
pub refused : {A : Type 0} (o : Option A) (r q : Refusal) → ◌≡◌ {A = Result A Refusal} (Err q) (ok_or o r) → o ≡ None → q ≡ r
refused {A} o r q e f = let z : ◌≡◌ {A = Result A Refusal} (Err q) (Err r) = e ∙ ap (λ (x : Option A). ok_or x r) f in cc
