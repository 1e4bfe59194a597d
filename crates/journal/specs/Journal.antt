-- A journal of settlements (docs/SCOPE.md, "The journal"): the first `length` bytes of a lent slice. What an append and a walk answer.
use Rattle.std.specs.Prelude.{ℕ, ◌+◌, Bool, cond, List, ◌∷◌, ◌++◌, length, take, eqb, leb, Result, Ok, Err}
use Rattle.std.proofs.lemmas.List.Edits.{sets}
use mathlib.Core.List.{flatten}
use Rattle.fiber_types.specs.declared.tlc.Amount.{Amount}
use Rattle.fiber_types.specs.Records.{Outcome, unwritten, amount_bytes}
use Rattle.journal.specs.declared.entry.Entry.{Entry}
use Rattle.journal.specs.declared.refusal.JournalRefusal.{JournalRefusal}
use Rattle.journal.specs.declared.refusal.JournalRefusal.TheVariants.{NotWell, Broken, Full, OutputShort}
use Rattle.journal.specs.Chain.{linked, chain}

-- ---- numbers and places

abbrev pub number_of : JournalRefusal → ℕ
number_of NotWell = 14
number_of (Broken at) = 41
number_of (Full journal_length) = 40
number_of (OutputShort needed) = 13

abbrev pub place_of : JournalRefusal → ℕ
place_of NotWell = 0
place_of (Broken at) = at
place_of (Full journal_length) = journal_length
place_of (OutputShort needed) = needed

-- ---- entries

-- channel id 32, unlock byte 1, flag 1, amount 16; its trailer stands behind
unfoldable pub body : List ℕ → ℕ → ℕ → Amount → List ℕ
body channel unlock flag amount = channel ++ (unlock ∷ (flag ∷ amount_bytes amount))

abbrev pub body_of : Entry → List ℕ
body_of e = body e.channel e.unlock e.flag e.amount

-- with its trailer each has 62 bytes
abbrev pub entry_len : ℕ
entry_len = 62

abbrev pub is_entry_len : ℕ → Bool
is_entry_len n = eqb n entry_len

-- the entries of a journal, the newest first, or the place of what is wrong
unfoldable pub entries_of : List ℕ → Result (List (List ℕ)) ℕ
entries_of journal = chain is_entry_len entry_len journal

-- ---- the journal of a length at the front of a slice: 14, then 41

unfoldable pub or_broken : Result (List (List ℕ)) ℕ → Result (List (List ℕ)) JournalRefusal
or_broken (Ok entries) = Ok entries
or_broken (Err place) = Err (Broken place)

unfoldable pub journal_in : List ℕ → ℕ → Result (List (List ℕ)) JournalRefusal
journal_in slice journal_length = cond (leb journal_length (length slice)) (or_broken (entries_of (take journal_length slice))) (Err NotWell)

-- ---- an append of what stands in front of a trailer: then 40 at the journal's length, 13 at the new one

-- no entry goes behind so many
abbrev pub most_entries : ℕ
most_entries = 65535

unfoldable pub appended_behind : Result (List (List ℕ)) JournalRefusal → List ℕ → ℕ → List ℕ → Outcome (Result ℕ JournalRefusal)
appended_behind (Ok older) slice journal_length bytes =
    cond (leb most_entries (length older)) (unwritten (Err (Full journal_length)) slice)
    (cond (leb (journal_length + entry_len) (length slice))
    (record { answer = Ok (journal_length + entry_len); bytes = sets slice journal_length (linked bytes older) })
    (unwritten (Err (OutputShort (journal_length + entry_len))) slice))
appended_behind (Err r) slice journal_length bytes = unwritten (Err r) slice

-- its answer, and the slice as it leaves it
unfoldable pub appended : List ℕ → ℕ → List ℕ → Outcome (Result ℕ JournalRefusal)
appended slice journal_length bytes = appended_behind (journal_in slice journal_length) slice journal_length bytes

-- ---- a walk: then 13 at the bytes needed

unfoldable pub walked_back : Result (List (List ℕ)) JournalRefusal → List ℕ → Outcome (Result ℕ JournalRefusal)
walked_back (Ok entries) out =
    cond (leb (length (flatten entries)) (length out))
    (record { answer = Ok (length (flatten entries)); bytes = sets out 0 (flatten entries) })
    (unwritten (Err (OutputShort (length (flatten entries)))) out)
walked_back (Err r) out = unwritten (Err r) out

-- its answer, and the output as it leaves it
unfoldable pub walked : List ℕ → ℕ → List ℕ → Outcome (Result ℕ JournalRefusal)
walked slice journal_length out = walked_back (journal_in slice journal_length) out
