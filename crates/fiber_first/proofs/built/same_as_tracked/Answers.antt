-- Of one length, the two lists are told pair by pair.
use Rattle.std.proofs.Common.{rules, tests}
use mathlib.Core.Path.{ap, sym, ◌∙◌}
use mathlib.Core.List.{List}
use Prim.Native.Nat.{ℕ, ◌/◌}
use lib.ListN.{length}
use borrow.Author.Tests.{ne_eqb}
use Rattle.std.proofs.lemmas.Iterator.{YieldsList-from_zip}
use Rattle.std.proofs.lemmas.Iterator.Adapters.{serves_from_places}
use Rattle.std.proofs.lemmas.Iterator.Search.{all_from_yields_List}
use Rattle.fiber_choice.specs.Entries.{same, tracked_record}
use Rattle.fiber_choice.specs.FirstRecords.{first_record}
use Rattle.fiber_choice.proofs.EntriesLaws.{entries_length}
use Rattle.fiber_choice.proofs.FirstRecordsLaws.{firsts_paired, firsts_differ, pair_well}
use Rattle.fiber_first.specs.inner.Left.{left}
use Rattle.fiber_first.proofs.LeftLaws.{entries_yield}
use Rattle.fiber_first.proofs.built.same_as_tracked.Goals as goal

pub all-requires-clause-callable : goal.all-requires-clause-callable
all-requires-clause-callable c =
    let a = c.args.q.now in
    serves_from_places
    (YieldsList-from_zip (entries_yield (ap left c.zip.ensures.first ∙ c.settlement_tlcs.ensures)) (entries_yield (ap left c.zip.ensures.second ∙ c.tracked_tlcs.ensures)))
    (λ x q r. search (rules, tests))
    (λ x k g e.
    let p = pair_well a.h.bytes a.for_remote a.settlement.tlcs.now a.tracked.now c.requires k x.0.now x.1.now g e in
    search rules)

pub returns-then-tlcs-tracked_count : goal.returns-then-tlcs-tracked_count
returns-then-tlcs-tracked_count c =
    let a = c.args.q.now in
    let test = λ (p : List ℕ × List ℕ). same (first_record a.h.bytes a.for_remote p.0) (tracked_record p.1) in
    all_from_yields_List test c.all.new.self _ c.all.result c.all.ensures.ran
    (YieldsList-from_zip (entries_yield (ap left c.zip.ensures.first ∙ c.settlement_tlcs.ensures)) (entries_yield (ap left c.zip.ensures.second ∙ c.tracked_tlcs.ensures)))
    (λ x b q k. search (rules, tests))
    ∙ firsts_paired a.h.bytes a.for_remote a.settlement.tlcs.now a.tracked.now (entries_length 124 a.settlement.tlcs.now ∙ c.if-tlcs-tracked_count.true ∙ c.tracked_count.ensures)

pub returns-else-tlcs-tracked_count : goal.returns-else-tlcs-tracked_count
returns-else-tlcs-tracked_count c =
    let a = c.args.q.now in
    let n = c.if-tlcs-tracked_count.false in
    ne_eqb (length a.settlement.tlcs.now / 124) c.tracked_count.result n
    ∙ firsts_differ a.h.bytes a.for_remote a.settlement.tlcs.now a.tracked.now (λ e. n (sym (entries_length 124 a.settlement.tlcs.now) ∙ e ∙ sym c.tracked_count.ensures))
