-- What holds of the test of a chain, and of a journal that appends alone have grown from length 0; docs/SCOPE.md, "The journal". Proved in
-- proofs/TestLaws.antt and proofs/GrownLaws.antt.
use Rattle.std.specs.Prelude.{ℕ, ◌+◌, ◌*◌, ◌^◌, ◌≡◌, ◌≤◌, ◌<◌, ◌↔◌, ◌⊎◌, List, [], ◌∷◌, map, length, take, drop, get_or, Result, Ok, Err}
use mathlib.Core.List.{flatten}
use Rattle.std.proofs.lemmas.List.Edits.{sets}
use Rattle.journal.specs.declared.entry.Entry.{Entry}
use Rattle.journal.specs.declared.refusal.JournalRefusal.{JournalRefusal}
use Rattle.journal.specs.declared.refusal.JournalRefusal.TheVariants.{Full, OutputShort}
use Rattle.journal.specs.Chain.{journal_bytes, chained, Tested, Bodies}
use Rattle.journal.specs.Journal.{body_of, entry_len, is_entry_len, most_entries, entries_of, appended, walked}

-- ---- the test of a chain

-- It finds the newest trailer that is wrong, and none exactly where there is none.
abbrev pub TestsChains : Type 0
TestsChains = (journal : List ℕ) (r : Result (List (List ℕ)) ℕ) → (entries_of journal ≡ r) ↔ Tested is_entry_len entry_len journal r

-- The chains that it takes are those that are well formed, whatever stands in front of their trailers; a pointer counts as far as eight bytes do.
abbrev pub TakesChains : Type 0
TakesChains =
    (bodies : List (List ℕ)) → Bodies is_entry_len bodies → length (journal_bytes (chained bodies)) < 2 ^ 64
    → entries_of (journal_bytes (chained bodies)) ≡ Ok (chained bodies)

-- And no others, of bytes.
abbrev pub TakesNoOther : Type 0
TakesNoOther =
    (journal : List ℕ) (entries : List (List ℕ)) → ((i : ℕ) → get_or journal i 0 < 256) → entries_of journal ≡ Ok entries
    → (bodies : List (List ℕ)) × Bodies is_entry_len bodies × (entries ≡ chained bodies) × (journal ≡ journal_bytes entries)

-- ---- a journal that appends alone have grown

-- The slice, the journal's length in it, and what was appended, the newest first. Appends that are turned down come between, also ones that were told
-- a length that is not the journal's.
pub data Grown : List ℕ → ℕ → List Entry → Type 0 where
  new : {slice : List ℕ} → Grown slice 0 []
  taken : {slice : List ℕ} {journal_length : ℕ} {entries : List Entry} (e : Entry) {new_length : ℕ} → Grown slice journal_length entries
      → (appended slice journal_length (body_of e)).answer ≡ Ok new_length → Grown (appended slice journal_length (body_of e)).bytes new_length (e ∷ entries)
  turned_down : {slice : List ℕ} {journal_length : ℕ} {entries : List Entry} (told : ℕ) (e : Entry) {r : JournalRefusal} → Grown slice journal_length entries
      → (appended slice told (body_of e)).answer ≡ Err r → Grown (appended slice told (body_of e)).bytes journal_length entries

-- the entries as they stand in the journal, the newest first
abbrev pub filed : List Entry → List (List ℕ)
filed entries = chained (map body_of entries)

-- Its bytes are the entries' in order, 62 each.
abbrev pub GrownHolds : Type 0
GrownHolds =
    (slice : List ℕ) (journal_length : ℕ) (entries : List Entry) → Grown slice journal_length entries
    → (take journal_length slice ≡ journal_bytes (filed entries)) × (journal_length ≡ length entries * entry_len) × (length entries ≤ most_entries)

-- The walk writes exactly the entries that were appended, each whole and once, the newest first, and nothing else.
abbrev pub GrownWalks : Type 0
GrownWalks =
    (slice : List ℕ) (journal_length : ℕ) (entries : List Entry) → Grown slice journal_length entries → (out : List ℕ) → journal_length ≤ length out
    → walked slice journal_length out ≡ record { answer = Ok journal_length; bytes = sets out 0 (flatten (filed entries)) }

-- An append to it is turned down only for its number of entries or for want of room.
abbrev pub GrownTakes : Type 0
GrownTakes =
    (slice : List ℕ) (journal_length : ℕ) (entries : List Entry) → Grown slice journal_length entries → (e : Entry) (r : JournalRefusal)
    → (appended slice journal_length (body_of e)).answer ≡ Err r
    → ((r ≡ Full journal_length) × (length entries ≡ most_entries)) ⊎ ((r ≡ OutputShort (journal_length + entry_len)) × (length slice < journal_length + entry_len))

-- And every list of entries is so grown, up to 65,535 of them, in a slice that has room: none is turned down.
abbrev pub GrownAll : Type 0
GrownAll =
    (entries : List Entry) (slice : List ℕ) → length entries ≤ most_entries → length entries * entry_len ≤ length slice
    → (after : List ℕ) × (length after ≡ length slice) × Grown after (length entries * entry_len) entries

-- ---- an append, whatever the slice holds

-- No byte that is already there changes, nor any behind the entry that is written.
abbrev pub AppendKeeps : Type 0
AppendKeeps =
    (slice : List ℕ) (journal_length : ℕ) (e : Entry)
    → (take journal_length (appended slice journal_length (body_of e)).bytes ≡ take journal_length slice)
    × (drop (journal_length + entry_len) (appended slice journal_length (body_of e)).bytes ≡ drop (journal_length + entry_len) slice)
    × (length (appended slice journal_length (body_of e)).bytes ≡ length slice)
