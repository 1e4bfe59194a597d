-- A count that is answered says that the journal is within the slice, and its length that of whole entries.
use native.Mathlib.Omega.{arith}
use mathlib.Core.Path.{sym, ◌∙◌}
use lib.Seq.{length-take-le}
use Rattle.journal.proofs.JournalLaws.{counted_ok}
use Rattle.journal.proofs.walk.walk.Goals as goal

pub slice_bounds-put_newest_first-end : goal.slice_bounds-put_newest_first-end
slice_bounds-put_newest_first-end c =
    let k = counted_ok _ _ _ (sym c.count_entries.ensures ∙ c.in_ok-count_entries.was) in
    sym (length-take-le _ _ k.within)

pub put_newest_first-requires : goal.put_newest_first-requires
put_newest_first-requires c =
    let k = counted_ok _ _ _ (sym c.count_entries.ensures ∙ c.in_ok-count_entries.was) in
    let n = length-take-le c.args.journal_length c.args.slice.now k.within in
    (omega (arith, n, k.size), omega (arith, n))
