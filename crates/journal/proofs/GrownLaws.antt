-- The statements of `specs/Grown.antt`. Of a grown journal: its bytes are a chain of what was appended, so that the test takes it, and one more append
-- puts one more entry behind it.
-- Assumes nothing.
use Prim.Native.Nat.{ℕ, suc, ◌+◌, ◌*◌, ◌^◌, ◌≤◌, ◌<◌}
use native.Mathlib.Omega.{arith}
use mathlib.Core.Path.{◌≡◌, refl, sym, ap, ◌∙◌}
use mathlib.Core.Bool.{Bool, true}
use mathlib.Core.List.{List, [], ◌∷◌, ◌++◌, append_assoc, flatten}
use mathlib.Core.Logic.{⊎_elim, inl, inr}
use lib.ListN.{length, take, drop, length-append}
use lib.Seq.{sets, length-sets, sets-eq, length-take-le}
use Rattle.std.specs.Prelude.{◌⊎◌, map, Result, Ok, Err, is_ok}
use Rattle.std.proofs.Math.Seq.{drop-append_seam, take-append_seam}
use Rattle.std.proofs.lemmas.Bool.{false≢true, eq-eqb, eqb-true, le-leb, lt-leb, cases_lt}
use Rattle.fiber_types.specs.Records.{Outcome, unwritten}
use Rattle.fiber_types.proofs.RoundTrips.{all_bytes}
use Rattle.journal.specs.declared.entry.Entry.{Entry}
use Rattle.journal.specs.declared.refusal.JournalRefusal.{JournalRefusal}
use Rattle.journal.specs.declared.refusal.JournalRefusal.TheVariants.{Full, OutputShort}
use Rattle.journal.specs.Chain.{journal_bytes, linked, chained, whole, Behind, Bodies, nothing, another}
use Rattle.journal.specs.Journal.{body_of, is_entry_len, entries_of, journal_in, or_broken, appended_behind, appended, walked_back, walked}
use Rattle.journal.specs.Grown.{TestsChains, TakesChains, TakesNoOther, Grown, new, taken, turned_down, filed, GrownHolds, GrownWalks, GrownTakes, GrownAll, AppendKeeps}
use Rattle.journal.proofs.EntryLaws.{body_length}
use Rattle.journal.proofs.TestLaws.{tested, exactly, right_bytes}
use Rattle.journal.proofs.FormedLaws.{linked_length, all_linked, all_formed}
use Rattle.journal.proofs.JournalLaws.{at_least_trailer, at_least_entry, entries_right}

-- ---- the test of a chain

below_32 : (n : ℕ) → is_entry_len n ≡ true → n < 2 ^ 32
below_32 n e = omega (arith, eqb-true n 62 e)

pub tests_chains : TestsChains
unfolding entries_of
tests_chains journal r = (
  (λ e. rw (sym e) (tested is_entry_len at_least_trailer 62 (omega arith) at_least_entry journal)),
  (λ t. exactly is_entry_len at_least_trailer 62 (omega arith) at_least_entry journal r t),
)

newest_fits : (bodies : List (List ℕ)) → Bodies is_entry_len bodies → (left : ℕ → Bool) × Behind is_entry_len is_entry_len (journal_bytes (chained bodies)) (chained bodies) left []
    → entries_of (journal_bytes (chained bodies)) ≡ Ok (chained bodies)
unfolding entries_of
newest_fits bodies b p =
    exactly is_entry_len at_least_trailer 62 (omega arith) at_least_entry (journal_bytes (chained bodies)) (Ok (chained bodies)) (whole p.1)

pub takes_chains : TakesChains
unfolding chained
takes_chains [] b h = newest_fits [] b (all_linked is_entry_len at_least_trailer below_32 [] b (omega (arith, h)) is_entry_len tt)
takes_chains (body ∷ older) (another f b) h =
    newest_fits (body ∷ older) (another f b) (all_linked is_entry_len at_least_trailer below_32 (body ∷ older) (another f b) (omega (arith, h)) is_entry_len f)

pub takes_no_other : TakesNoOther
takes_no_other journal entries b e =
    let r = entries_right journal entries e in
    let l = all_formed is_entry_len at_least_trailer below_32 r.1 (all_bytes journal b) (λ n f h. f) in
    (l.bodies, l.proper, l.same, sym (right_bytes is_entry_len at_least_trailer r.1))

-- ---- what an append comes to

-- what stands in front of a trailer has 50 bytes
module _ (slice : List ℕ) (journal_length : ℕ) (bytes : List ℕ) (n : length bytes ≡ 50) where
  put_length : (older : List (List ℕ)) → length (linked bytes older) ≡ 62
  put_length older = omega (arith, linked_length bytes older, n)

  -- an entry is put behind the journal, and nothing else changes
  module _ (older : List (List ℕ)) (h : journal_length + 62 ≤ length slice) where
    abbrev after : List ℕ
    after = sets slice journal_length (linked bytes older)

    front_length : length (take journal_length slice) ≡ journal_length
    front_length = length-take-le journal_length slice (omega arith)

    regrouped : after ≡ (take journal_length slice ++ linked bytes older) ++ drop (journal_length + 62) slice
    regrouped =
        let k = put_length older in
        let e : journal_length + length (linked bytes older) ≡ journal_length + 62 = omega (arith, k) in
        sets-eq (linked bytes older) slice journal_length (omega (arith, k)) ∙ ap (λ (i : ℕ). (take journal_length slice ++ linked bytes older) ++ drop i slice) e

    pub front_kept : take journal_length after ≡ take journal_length slice
    front_kept =
        rw (regrouped, append_assoc (take journal_length slice) (linked bytes older) (drop (journal_length + 62) slice))
        (ap (λ (i : ℕ). take i (take journal_length slice ++ (linked bytes older ++ drop (journal_length + 62) slice))) (sym front_length)
        ∙ take-append_seam (take journal_length slice) (linked bytes older ++ drop (journal_length + 62) slice))

    whole_length : length (take journal_length slice ++ linked bytes older) ≡ journal_length + 62
    whole_length = length-append (take journal_length slice) (linked bytes older) ∙ omega (arith, front_length, put_length older)

    pub one_behind : take (journal_length + 62) after ≡ take journal_length slice ++ linked bytes older
    one_behind =
        rw regrouped (ap (λ (i : ℕ). take i ((take journal_length slice ++ linked bytes older) ++ drop (journal_length + 62) slice)) (sym whole_length)
        ∙ take-append_seam (take journal_length slice ++ linked bytes older) (drop (journal_length + 62) slice))

    pub rest_kept : drop (journal_length + 62) after ≡ drop (journal_length + 62) slice
    rest_kept =
        rw regrouped (ap (λ (i : ℕ). drop i ((take journal_length slice ++ linked bytes older) ++ drop (journal_length + 62) slice)) (sym whole_length)
        ∙ drop-append_seam (take journal_length slice ++ linked bytes older) (drop (journal_length + 62) slice))

  -- ---- whatever the journal comes to

  abbrev Keeps : List ℕ → Type 0
  Keeps kept = (take journal_length kept ≡ take journal_length slice) × (drop (journal_length + 62) kept ≡ drop (journal_length + 62) slice) × (length kept ≡ length slice)

  pub keeps : (r : Result (List (List ℕ)) JournalRefusal) → Keeps (appended_behind r slice journal_length bytes).bytes
  unfolding appended_behind
  keeps (Err r) = (refl, refl, refl)
  keeps (Ok older) = ⊎_elim few (λ h. rw (le-leb 65535 (length older) h) (refl, refl, refl)) (cases_lt (length older) 65535)
    where
      few : length older < 65535 → Keeps (appended_behind (Ok older) slice journal_length bytes).bytes
      few g = ⊎_elim
          (λ short. rw (lt-leb 65535 (length older) g, lt-leb (journal_length + 62) (length slice) short) (refl, refl, refl))
          (λ h. rw (lt-leb 65535 (length older) g, le-leb (journal_length + 62) (length slice) h)
          (front_kept older h, rest_kept older h, length-sets slice journal_length (linked bytes older)))
          (cases_lt (length slice) (journal_length + 62))

pub append_keeps : AppendKeeps
unfolding appended
append_keeps slice journal_length e =
    let k = keeps slice journal_length (body_of e) (body_length e) (journal_in slice journal_length) in
    (k.0, k.1, omega (arith, k.2))

-- ---- a grown journal

entries_count : (es : List Entry) → length (filed es) ≡ length es
unfolding chained
entries_count [] = refl
entries_count (e ∷ es) = ap suc (entries_count es)

entries_proper : (es : List Entry) → Bodies is_entry_len (map body_of es)
entries_proper [] = nothing
entries_proper (e ∷ es) = another (eq-eqb _ _ (omega (arith, body_length e))) (entries_proper es)

-- so many bytes
filed_length : (es : List Entry) → length (journal_bytes (filed es)) ≡ length es * 62
unfolding chained journal_bytes
filed_length [] = refl
filed_length (e ∷ es) =
    length-append (journal_bytes (filed es)) (linked (body_of e) (filed es)) ∙ omega (arith, filed_length es, linked_length (body_of e) (filed es), body_length e)

pub record Holds (slice : List ℕ) (journal_length : ℕ) (es : List Entry) : Type 0 where
  pub bytes : take journal_length slice ≡ journal_bytes (filed es)
  pub size : journal_length ≡ length es * 62
  pub few : length es ≤ 65535
  pub room : journal_length ≤ length slice

module _ (slice : List ℕ) (journal_length : ℕ) (es : List Entry) (i : Holds slice journal_length es) where
  -- the test takes it
  pub held : journal_in slice journal_length ≡ Ok (filed es)
  unfolding journal_in or_broken
  held =
      let t : entries_of (take journal_length slice) ≡ Ok (filed es) =
      ap entries_of i.bytes ∙ takes_chains (map body_of es) (entries_proper es) (omega (arith, filed_length es, i.few)) in
      rw (le-leb journal_length (length slice) i.room, t) refl

  -- an append that is taken puts one more entry behind it
  module _ (e : Entry) where
    one_more : length es < 65535 → journal_length + 62 ≤ length slice → Holds (sets slice journal_length (linked (body_of e) (filed es))) (journal_length + 62) (e ∷ es)
    unfolding chained journal_bytes
    one_more few h =
        record {
          bytes = one_behind slice journal_length (body_of e) (body_length e) (filed es) h ∙ ap (λ (l : List ℕ). l ++ linked (body_of e) (filed es)) i.bytes;
          size = omega (arith, i.size);
          few = omega arith;
          room = omega (arith, length-sets slice journal_length (linked (body_of e) (filed es)));
        }

    -- the three ways
    abbrev Taken : Outcome (Result ℕ JournalRefusal) → Type 0
    Taken o = (length es < 65535) × (journal_length + 62 ≤ length slice) × (o ≡ record { answer = Ok (journal_length + 62); bytes = sets slice journal_length (linked (body_of e) (filed es)) })

    abbrev Full_up : Outcome (Result ℕ JournalRefusal) → Type 0
    Full_up o = (length es ≡ 65535) × (o ≡ unwritten (Err (Full journal_length)) slice)

    abbrev No_room : Outcome (Result ℕ JournalRefusal) → Type 0
    No_room o = (length slice < journal_length + 62) × (o ≡ unwritten (Err (OutputShort (journal_length + 62))) slice)

    ways : Taken (appended slice journal_length (body_of e)) ⊎ (Full_up (appended slice journal_length (body_of e)) ⊎ No_room (appended slice journal_length (body_of e)))
    unfolding appended appended_behind
    ways =
        let n = entries_count es in
        ⊎_elim
        (λ few. ⊎_elim
        (λ short. inr (inr (short, rw (held, n, lt-leb 65535 (length es) few, lt-leb (journal_length + 62) (length slice) short) refl)))
        (λ h. inl (few, h, rw (held, n, lt-leb 65535 (length es) few, le-leb (journal_length + 62) (length slice) h) refl))
        (cases_lt (length slice) (journal_length + 62)))
        (λ full. inr (inl (omega (arith, i.few), rw (held, n, le-leb 65535 (length es) full) refl)))
        (cases_lt (length es) 65535)

-- an answer says which way it was
taken_way : (slice : List ℕ) (journal_length : ℕ) (es : List Entry) (i : Holds slice journal_length es) (e : Entry) (new_length : ℕ)
    → (appended slice journal_length (body_of e)).answer ≡ Ok new_length → Holds (appended slice journal_length (body_of e)).bytes new_length (e ∷ es)
taken_way slice journal_length es i e new_length a = ⊎_elim
    (λ t.
    let same : ◌≡◌ {A = Result ℕ JournalRefusal} (Ok (journal_length + 62)) (Ok new_length) = sym (ap (λ o. o.answer) t.2) ∙ a in
    let q : journal_length + 62 ≡ new_length = cc in
    rw (t.2, sym q) (one_more slice journal_length es i e t.0 t.1))
    (λ w. ⊎_elim (λ f. absurd (false≢true (ap is_ok (sym (ap (λ o. o.answer) f.1) ∙ a)))) (λ f. absurd (false≢true (ap is_ok (sym (ap (λ o. o.answer) f.1) ∙ a)))) w)
    (ways slice journal_length es i e)

-- an append that is turned down leaves the slice as it was, whatever length it was told
turned_way : (slice : List ℕ) (told : ℕ) (bytes : List ℕ) (r : JournalRefusal) → (appended slice told bytes).answer ≡ Err r → (appended slice told bytes).bytes ≡ slice
unfolding appended appended_behind
turned_way slice told bytes r a = go (journal_in slice told) a
  where
    room : (older : List (List ℕ)) → length older < 65535 → (appended_behind (Ok older) slice told bytes).answer ≡ Err r → (appended_behind (Ok older) slice told bytes).bytes ≡ slice
    room older g a = ⊎_elim
        (λ h. rw (lt-leb 65535 (length older) g, lt-leb (told + 62) (length slice) h) refl)
        (λ h. absurd (false≢true (sym (ap is_ok (rw (lt-leb 65535 (length older) g, le-leb (told + 62) (length slice) h) at a)))))
        (cases_lt (length slice) (told + 62))

    go : (x : Result (List (List ℕ)) JournalRefusal) → (appended_behind x slice told bytes).answer ≡ Err r → (appended_behind x slice told bytes).bytes ≡ slice
    go (Err refusal) a = refl
    go (Ok older) a = ⊎_elim (λ g. room older g a) (λ h. rw (le-leb 65535 (length older) h) refl) (cases_lt (length older) 65535)

pub holds : {slice : List ℕ} {journal_length : ℕ} {es : List Entry} → Grown slice journal_length es → Holds slice journal_length es
unfolding chained journal_bytes
holds new = record { bytes = refl; size = refl; few = omega arith; room = omega arith }
holds (taken {slice = slice} {journal_length = n} {entries = es} e {new_length = m} g a) = taken_way slice n es (holds g) e m a
holds (turned_down {slice = slice} {journal_length = n} {entries = es} told e {r = r} g a) = rw (turned_way slice told (body_of e) r a) (holds g)

pub grown_holds : GrownHolds
grown_holds slice journal_length es g = let i = holds g in (i.bytes, omega (arith, i.size), omega (arith, i.few))

flat_length : (entries : List (List ℕ)) → length (flatten entries) ≡ length (journal_bytes entries)
unfolding flatten journal_bytes
flat_length [] = refl
flat_length (e ∷ older) = length-append e (flatten older) ∙ omega (arith, flat_length older, length-append (journal_bytes older) e)

pub grown_walks : GrownWalks
unfolding walked walked_back
grown_walks slice journal_length es g out h =
    let i = holds g in
    let n : length (flatten (filed es)) ≡ journal_length = flat_length (filed es) ∙ filed_length es ∙ sym i.size in
    rw (held slice journal_length es i, n, le-leb journal_length (length out) h) refl

pub grown_takes : GrownTakes
grown_takes slice journal_length es g e r a = ⊎_elim
    (λ t. absurd (false≢true (sym (ap is_ok (sym (ap (λ o. o.answer) t.2) ∙ a)))))
    (λ w. ⊎_elim
    (λ f. inl (same (Full journal_length) (sym (ap (λ o. o.answer) f.1) ∙ a), omega (arith, f.0)))
    (λ f. inr (same (OutputShort (journal_length + 62)) (sym (ap (λ o. o.answer) f.1) ∙ a), omega (arith, f.0)))
    w)
    (ways slice journal_length es (holds g) e)
  where
    same : (x : JournalRefusal) → ◌≡◌ {A = Result ℕ JournalRefusal} (Err x) (Err r) → r ≡ x
    same x q = cc

pub grown_all : GrownAll
grown_all [] slice h room = (slice, refl, new)
grown_all (e ∷ es) slice h room = one (grown_all es slice (omega arith) (omega arith))
  where
    one : (after : List ℕ) × (length after ≡ length slice) × Grown after (length es * 62) es
        → (after : List ℕ) × (length after ≡ length slice) × Grown after (length (e ∷ es) * 62) (e ∷ es)
    one (before, same, g) = ⊎_elim
        (λ t.
        let n : length es * 62 + 62 ≡ length (e ∷ es) * 62 = omega arith in
        let a : (appended before (length es * 62) (body_of e)).answer ≡ Ok (length (e ∷ es) * 62) = ap (λ o. o.answer) t.2 ∙ ap Ok n in
        ((appended before (length es * 62) (body_of e)).bytes, (append_keeps before (length es * 62) e).2 ∙ same, taken e g a))
        (λ w. ⊎_elim (λ f. absurd (omega (arith, f.0))) (λ f. absurd (omega (arith, f.0, same))) w)
        (ways before (length es * 62) es (holds g) e)
