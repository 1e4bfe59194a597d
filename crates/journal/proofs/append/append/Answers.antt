-- A count that is answered says how long the journal is, so that one more entry's length fits.
use native.Mathlib.Omega.{arith}
use mathlib.Core.Path.{sym, ◌∙◌}
use Rattle.journal.proofs.JournalLaws.{append_full, counted_ok}
use Rattle.journal.proofs.append.append.Goals as goal

pub returns-then-branch-ge-JOURNAL_MOST_ENTRIES : goal.returns-then-branch-ge-JOURNAL_MOST_ENTRIES
returns-then-branch-ge-JOURNAL_MOST_ENTRIES c =
    append_full _ _ _ (sym c.count_entries.ensures ∙ c.in_ok-count_entries.was) _ c.if-branch-ge-JOURNAL_MOST_ENTRIES.true

pub overflow_add-new_length : goal.overflow_add-new_length
overflow_add-new_length c =
    let k = counted_ok _ _ _ (sym c.count_entries.ensures ∙ c.in_ok-count_entries.was) in
    omega (arith, k.size, c.if-branch-ge-JOURNAL_MOST_ENTRIES.false)
