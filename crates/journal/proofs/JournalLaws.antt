-- Laws of `specs/Journal.antt`: what a journal of entries of 62 bytes comes to, its entries from the end back, and an append and a walk by their tests.
-- Assumes nothing.
use Prim.Native.Nat.{ℕ, zero, suc, ◌+◌, ◌-◌, ◌*◌, ◌/◌, ◌%◌, ◌≤◌, ◌<◌}
use native.Mathlib.Omega.{arith}
use mathlib.Core.Path.{◌≡◌, refl, sym, ap, ◌∙◌}
use mathlib.Core.Bool.{Bool, true}
use mathlib.Core.List.{List, [], ◌++◌, flatten}
use mathlib.Core.Logic.{⊎_elim}
use lib.ListN.{length, take, drop, length-append, length-take, length-drop}
use lib.Seq.{sets, length-sets, length-take-le}
use Rattle.std.specs.Prelude.{Result, Ok, Err, is_ok}
use Rattle.fiber_bytes.proofs.BytesLaws.{sets_append}
use Rattle.std.proofs.Math.Seq.{drop-append_seam, take-append_seam}
use Rattle.std.proofs.lemmas.Bool.{false≢true, eqb-true, le-leb, lt-leb, cases_lt}
use Rattle.journal.specs.Chain.{journal_bytes, newest_start, linked, trailer, Behind, none, one}
use Rattle.fiber_types.specs.Records.{Gives}
use Rattle.journal.specs.declared.refusal.JournalRefusal.{JournalRefusal}
use Rattle.journal.specs.declared.refusal.JournalRefusal.TheVariants.{NotWell, Broken, Full, OutputShort}
use Rattle.journal.specs.Journal.{is_entry_len, entries_of, or_broken, journal_in, appended_behind, appended, walked_back, walked}
use Rattle.journal.proofs.ChainLaws.{Proper, next_proper}
use Rattle.journal.proofs.TestLaws.{all_right, right_bytes}
use Rattle.journal.specs.inner.Counted.{counted, counted_in, before, newest_first}

-- ---- a journal of entries of 62 bytes

pub at_least_trailer : (n : ℕ) → is_entry_len n ≡ true → 12 ≤ n
at_least_trailer n e = omega (arith, eqb-true n 62 e)

pub at_least_entry : (n : ℕ) → is_entry_len n ≡ true → 62 ≤ n
at_least_entry n e = omega (arith, eqb-true n 62 e)

abbrev pub Entries : List ℕ → List (List ℕ) → (ℕ → Bool) → Type 0
Entries journal entries left = Behind is_entry_len is_entry_len journal entries left []

pub entries_right : (journal : List ℕ) (entries : List (List ℕ)) → entries_of journal ≡ Ok entries → (left : ℕ → Bool) × Entries journal entries left
unfolding entries_of
entries_right journal entries e = all_right is_entry_len at_least_trailer 62 (omega arith) at_least_entry journal entries e

first_start : (n : ℕ) → n ≡ 0 → newest_start [] ≡ before n
unfolding newest_start before
first_start n z = rw (lt-leb 62 n (omega arith)) refl

-- each has 62 bytes, so the bytes come to their number, and to what stands from the end back
record Sized (journal : List ℕ) (entries : List (List ℕ)) : Type 0 where
  count : length journal ≡ length entries * 62
  flat : flatten entries ≡ newest_first (length entries) journal
  start : newest_start entries ≡ before (length journal)

sized : {fits : ℕ → Bool} {journal : List ℕ} {entries : List (List ℕ)} {left : ℕ → Bool} {front : List ℕ} → Behind is_entry_len fits journal entries left front
    → length front ≡ 0 → Proper is_entry_len fits journal → Sized journal entries
unfolding newest_first flatten newest_start before
sized none z f = record { count = omega arith; flat = refl; start = first_start _ z }
sized (one {older = older} {entry = entry} {entries = entries} {front = front} r b) z f =
    let t = length-append older entry in
    let n : length entry ≡ 62 = eqb-true (length entry) 62 (f (length entry) r.fit (omega (arith, t, r.room))) in
    let i = sized b z (next_proper is_entry_len older entry r) in
    let w : length (journal_bytes entries) ≡ length older = sym (omega (arith, ap length (right_bytes is_entry_len at_least_trailer b), length-append front (journal_bytes entries))) in
    let s : length (older ++ entry) - 62 ≡ length older = omega (arith, t) in
    record {
      count = omega (arith, t, i.count);
      flat = rw (s, drop-append_seam older entry, take-append_seam older entry) (ap (λ (l : List ℕ). entry ++ l) i.flat);
      start = rw (le-leb 62 (length (older ++ entry)) (omega (arith, t)), s) w;
    }

-- what a count says of the journal of a length in a slice
pub record CountedIn (slice : List ℕ) (journal_length m : ℕ) : Type 0 where
  pub within : journal_length ≤ length slice
  pub entries : List (List ℕ)
  pub taken : entries_of (take journal_length slice) ≡ Ok entries
  pub many : length entries ≡ m
  pub size : journal_length ≡ m * 62
  pub flat : flatten entries ≡ newest_first m (take journal_length slice)
  pub start : newest_start entries ≡ before journal_length

-- ---- the entries are copied from the end back

-- some entries are copied, and a rest is left
pub record Copying (journal out₀ rest out : List ℕ) (at : ℕ) : Type 0 where
  pub size : length rest + at ≡ length journal
  pub fill : length rest % 62 ≡ 0
  pub room : length journal ≤ length out
  pub same : sets out at (newest_first (length rest / 62) rest) ≡ sets out₀ 0 (newest_first (length journal / 62) journal)

pub copying_start : (journal out : List ℕ) → (length journal % 62 ≡ 0) × (length journal ≤ length out) → Copying journal out journal out 0
copying_start journal out h = record { size = omega arith; fill = h.0; room = h.1; same = refl }

module _ (journal out₀ rest out : List ℕ) (at : ℕ) (c : Copying journal out₀ rest out at) where
  pub copying_end : length rest < 62 → out ≡ sets out₀ 0 (newest_first (length journal / 62) journal)
  unfolding newest_first
  copying_end h =
      let z : length rest / 62 ≡ 0 = omega arith in
      rw z at c.same

  pub copying_one : (older entry out' : List ℕ) → 62 ≤ length rest → older ≡ take (length rest - 62) rest → entry ≡ drop (length rest - 62) rest
      → out' ≡ sets out at entry → Copying journal out₀ older out' (at + 62)
  unfolding newest_first
  copying_one older entry out' h o e s =
      let n : length older ≡ length rest - 62 = ap length o ∙ omega (arith, length-take (length rest - 62) rest) in
      let k : length entry ≡ 62 = ap length e ∙ omega (arith, length-drop (length rest - 62) rest) in
      let m : length rest / 62 ≡ suc (length older / 62) = omega (arith, n) in
      let w : length out' ≡ length out = ap length s ∙ length-sets out at entry in
      let t : newest_first (length rest / 62) rest ≡ entry ++ newest_first (length older / 62) older = rw (m, o, e) refl in
      let p : at + 62 ≡ at + length entry = omega (arith, k) in
      record {
        size = omega (arith, n, c.size);
        fill = omega (arith, n, c.fill);
        room = omega (arith, w, c.room);
        same =
            ap (λ (l : List ℕ). sets l (at + 62) (newest_first (length older / 62) older)) s
            ∙ ap (λ (i : ℕ). sets (sets out at entry) i (newest_first (length older / 62) older)) p
            ∙ sym (sets_append entry (newest_first (length older / 62) older) out at)
            ∙ ap (sets out at) (sym t)
            ∙ c.same;
      }

newest_length : (n : ℕ) (journal : List ℕ) → n * 62 ≤ length journal → length (newest_first n journal) ≡ n * 62
unfolding newest_first
newest_length zero journal h = refl
newest_length (suc n) journal h =
    let k : length journal - 62 ≤ length journal = omega arith in
    length-append (drop (length journal - 62) journal) (newest_first n (take (length journal - 62) journal))
    ∙ omega (
      arith,
      length-drop (length journal - 62) journal,
      newest_length n (take (length journal - 62) journal) (omega (arith, length-take-le (length journal - 62) journal k)),
    )

-- ---- an append and a walk, by their tests

counted_entries : (journal : List ℕ) (entries : List (List ℕ)) → entries_of journal ≡ Ok entries → Sized journal entries
counted_entries journal entries e = let r = entries_right journal entries e in sized r.1 refl (λ n e h. e)

counted_when : (slice : List ℕ) (journal_length m : ℕ) → journal_length ≤ length slice → (r : Result (List (List ℕ)) ℕ) → entries_of (take journal_length slice) ≡ r
    → counted r ≡ Ok m → CountedIn slice journal_length m
unfolding counted
counted_when slice journal_length m h (Ok entries) e c =
    let s = counted_entries (take journal_length slice) entries e in
    let k : length entries ≡ m = cc in
    let n : length (take journal_length slice) ≡ journal_length = length-take-le journal_length slice h in
    record {
      within = h;
      entries = entries;
      taken = e;
      many = k;
      size = omega (arith, s.count);
      flat = s.flat ∙ ap (λ (i : ℕ). newest_first i (take journal_length slice)) k;
      start = s.start ∙ ap before n;
    }
counted_when slice journal_length m h (Err place) e c = absurd (false≢true (ap is_ok c))

-- the same refusal, of another success
err_same : {A B E : Type 0} (x y : E) → ◌≡◌ {A = Result A E} (Err x) (Err y) → ◌≡◌ {A = Result B E} (Err x) (Err y)
err_same x y e = let q : x ≡ y = cc in ap Err q

module _ (slice : List ℕ) (journal_length : ℕ) where
  pub counted_ok : (m : ℕ) → counted_in slice journal_length ≡ Ok m → CountedIn slice journal_length m
  unfolding counted_in
  counted_ok m c = ⊎_elim
      (λ h. absurd (false≢true (ap is_ok (rw (lt-leb journal_length (length slice) h) at c))))
      (λ h. counted_when slice journal_length m h _ refl (rw (le-leb journal_length (length slice) h) at c))
      (cases_lt (length slice) journal_length)

  -- and a refusal of the count is one of the journal
  pub refused_in : (r : JournalRefusal) → counted_in slice journal_length ≡ Err r → journal_in slice journal_length ≡ Err r
  unfolding counted_in journal_in counted or_broken
  refused_in r e = ⊎_elim
      (λ h. rw (lt-leb journal_length (length slice) h) (err_same NotWell r (rw (lt-leb journal_length (length slice) h) at e)))
      (λ h. rw (le-leb journal_length (length slice) h) (go _ (rw (le-leb journal_length (length slice) h) at e)))
      (cases_lt (length slice) journal_length)
    where
      go : (x : Result (List (List ℕ)) ℕ) → counted x ≡ Err r → or_broken x ≡ Err r
      go (Ok entries) d = absurd (false≢true (sym (ap is_ok d)))
      go (Err place) d = err_same (Broken place) r d

  module _ (r : JournalRefusal) (e : counted_in slice journal_length ≡ Err r) where
    pub append_refused : (bytes : List ℕ) → Gives (appended slice journal_length bytes) (Err r) slice
    unfolding appended appended_behind
    append_refused bytes = rw (refused_in r e) (refl, refl)

    pub walk_refused : (out : List ℕ) → Gives (walked slice journal_length out) (Err r) out
    unfolding walked walked_back
    walk_refused out = rw (refused_in r e) (refl, refl)

  module _ (m : ℕ) (e : counted_in slice journal_length ≡ Ok m) where
    -- how many entries it has, and what they are
    abbrev counts : CountedIn slice journal_length m
    counts = counted_ok m e

    in_ok : journal_in slice journal_length ≡ Ok counts.entries
    unfolding journal_in or_broken
    in_ok = rw (le-leb journal_length (length slice) counts.within, counts.taken) refl

    -- ---- an append

    module _ (bytes : List ℕ) where
      pub append_full : 65535 ≤ m → Gives (appended slice journal_length bytes) (Err (Full journal_length)) slice
      unfolding appended appended_behind
      append_full h = rw (in_ok, counts.many, le-leb 65535 m h) (refl, refl)

      module _ (h : m < 65535) where
        pub append_short : length slice < journal_length + 62 → Gives (appended slice journal_length bytes) (Err (OutputShort (journal_length + 62))) slice
        unfolding appended appended_behind
        append_short g = rw (in_ok, counts.many, lt-leb 65535 m h, lt-leb (journal_length + 62) (length slice) g) (refl, refl)

        pub append_taken : journal_length + 62 ≤ length slice → (out : List ℕ) → out ≡ sets slice journal_length (bytes ++ trailer (before journal_length) 62) → length bytes ≡ 50
            → Gives (appended slice journal_length bytes) (Ok (journal_length + 62)) out
        unfolding appended appended_behind linked
        append_taken g out s l =
            let n : length bytes + 12 ≡ 62 = omega (arith, l) in
            rw (in_ok, counts.many, lt-leb 65535 m h, le-leb (journal_length + 62) (length slice) g, counts.start, n) (refl, s)

    -- ---- a walk

    flat_length : length (flatten counts.entries) ≡ journal_length
    flat_length = ap length counts.flat ∙ newest_length m (take journal_length slice) (omega (arith, length-take-le journal_length slice counts.within, counts.size)) ∙ sym counts.size

    pub walk_short : (out : List ℕ) → length out < journal_length → Gives (walked slice journal_length out) (Err (OutputShort journal_length)) out
    unfolding walked walked_back
    walk_short out g = rw (in_ok, flat_length, lt-leb journal_length (length out) g) (refl, refl)

    pub walk_written : (out out' : List ℕ) → journal_length ≤ length out → out' ≡ sets out 0 (newest_first (length (take journal_length slice) / 62) (take journal_length slice))
        → Gives (walked slice journal_length out) (Ok journal_length) out'
    unfolding walked walked_back
    walk_written out out' g s =
        let n : length (take journal_length slice) / 62 ≡ m = omega (arith, length-take-le journal_length slice counts.within, counts.size) in
        rw (in_ok, flat_length, le-leb journal_length (length out) g) (refl, (rw n at s) ∙ ap (sets out 0) (sym counts.flat))
