-- The journal over the C interface: its answer, and the calls on the C parameters in their order; include/fiber_settlement.h, "The journal".
use Rattle.std.specs.Prelude.{ℕ, cond, List, [], ◌∷◌, length, eqb, Result, Ok, Err}
use Rattle.fiber_bytes.specs.Bytes.{numbers}
use Rattle.fiber_types.specs.Records.{Outcome, unwritten}
use Rattle.journal.specs.declared.refusal.JournalRefusal.{JournalRefusal}
use Rattle.journal.specs.declared.refusal.JournalRefusal.TheVariants.{NotWell}
use Rattle.journal.specs.Journal.{number_of, place_of, body, appended, walked}
use Rattle.c_answer.specs.Answers.{Answer, row, fields, call}
pub use Rattle.c_answer.specs.Answers.{OutCall}

-- 24 bytes: behind the front a length, the journal's new one or that of what a walk wrote
unfoldable pub length_answer : Result ℕ JournalRefusal → Answer
length_answer (Ok len) = fields (numbers (len ∷ []))
length_answer (Err r) = row (number_of r) (place_of r)

unfoldable pub journal_call : Outcome (Result ℕ JournalRefusal) → List ℕ → List ℕ → OutCall
journal_call o out buffer = call 24 (length_answer o.answer) o.bytes out buffer

-- 14 also where the channel id has not 32 bytes
unfoldable pub appended_by : List ℕ → ℕ → List ℕ → List ℕ → Outcome (Result ℕ JournalRefusal)
appended_by slice journal_length channel bytes = cond (eqb (length channel) 32) (appended slice journal_length bytes) (unwritten (Err NotWell) slice)

unfoldable pub append_call : List ℕ → ℕ → List ℕ → ℕ → ℕ → ℕ → ℕ → List ℕ → OutCall
append_call slice journal_length channel unlock flag amount_low amount_high buffer =
    journal_call (appended_by slice journal_length channel (body channel unlock flag (record { low = amount_low; high = amount_high }))) slice buffer

unfoldable pub walk_call : List ℕ → ℕ → List ℕ → List ℕ → OutCall
walk_call slice journal_length out buffer = journal_call (walked slice journal_length out) out buffer
