-- Of one length, the two lists are told pair by pair.
use Rattle.std.proofs.Common.{rules, tests}
use mathlib.Core.Path.{ap, sym, ◌∙◌}
use mathlib.Core.List.{List}
use Prim.Native.Nat.{ℕ}
use borrow.Author.Tests.{ne_eqb}
use Rattle.std.proofs.lemmas.Iterator.{YieldsList-from_zip}
use Rattle.std.proofs.lemmas.Iterator.Consumers.{YieldsList-from_first}
use Rattle.std.proofs.lemmas.Iterator.Search.{all_from_yields_List}
use Rattle.fiber_witness.specs.inner.Records.{standing_of}
use Rattle.fiber_witness.proofs.LeavingLaws.{standing_count}
use Rattle.fiber_choice.specs.Entries.{same, tracked_record}
use Rattle.fiber_choice.proofs.EntriesLaws.{tracked_length, lists_differ, records_paired}
use Rattle.fiber_first.specs.inner.Left.{left}
use Rattle.fiber_first.proofs.LeftLaws.{entries_yield}
use Rattle.fiber_walk.proofs.later.same_standing.Goals as goal

pub returns-then-standing-tracked_count : goal.returns-then-standing-tracked_count
returns-then-standing-tracked_count c =
    let test = λ (p : List ℕ × List ℕ). same p.0 (tracked_record p.1) in
    all_from_yields_List test c.all.new.self _ c.all.result c.all.ensures.ran
    (YieldsList-from_zip (YieldsList-from_first (λ x. x.now) standing_of _ (ap standing_of c.zip.ensures.first)) (entries_yield (ap left c.zip.ensures.second ∙ c.tracked_tlcs.ensures)))
    (λ x b q k. search (rules, tests))
    ∙ records_paired _ _ (sym (standing_count c.args.records.now) ∙ c.if-standing-tracked_count.true ∙ c.tracked_count.ensures)

pub returns-else-standing-tracked_count : goal.returns-else-standing-tracked_count
returns-else-standing-tracked_count c =
    let n = c.if-standing-tracked_count.false in
    ne_eqb c.args.records.now.standing c.tracked_count.result n
    ∙ lists_differ _ _ (λ e. n (standing_count c.args.records.now ∙ e ∙ tracked_length _ ∙ sym c.tracked_count.ensures))
