-- A chain by the number of its entries, and the entries of a journal whose chain is whole, from its end back.
use Rattle.std.specs.Prelude.{ℕ, zero, suc, ◌-◌, cond, leb, List, [], ◌++◌, length, take, drop, Result, Ok, Err}
use Rattle.journal.specs.declared.refusal.JournalRefusal.{JournalRefusal}
use Rattle.journal.specs.declared.refusal.JournalRefusal.TheVariants.{Broken, NotWell}
use Rattle.journal.specs.Chain.{no_entry}
use Rattle.journal.specs.Journal.{entries_of}

unfoldable pub counted : Result (List (List ℕ)) ℕ → Result ℕ JournalRefusal
counted (Ok entries) = Ok (length entries)
counted (Err place) = Err (Broken place)

-- of the journal of a length in a slice: 14, then 41
unfoldable pub counted_in : List ℕ → ℕ → Result ℕ JournalRefusal
counted_in slice journal_length = cond (leb journal_length (length slice)) (counted (entries_of (take journal_length slice))) (Err NotWell)

-- where the entry before starts, behind a journal of a length
unfoldable pub before : ℕ → ℕ
before journal_length = cond (leb 62 journal_length) (journal_length - 62) no_entry

-- the last n entries, the last one first
unfoldable pub newest_first : ℕ → List ℕ → List ℕ
newest_first zero journal = []
newest_first (suc n) journal = drop (length journal - 62) journal ++ newest_first n (take (length journal - 62) journal)
