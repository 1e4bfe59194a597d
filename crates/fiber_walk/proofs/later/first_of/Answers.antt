-- The places whose mark is false are those of the TLCs that stand.
use mathlib.Core.Path.{sym, ap, ◌∙◌}
use Rattle.std.proofs.Common.{rules, tests}
use Rattle.std.specs.Prelude.{slice_get}
use Rattle.std.proofs.lemmas.Iterator.Adapters.{option_map_id}
use Rattle.std.proofs.lemmas.Iterator.{YieldsList-from_slice}
use Rattle.std.proofs.lemmas.Iterator.Consumers.{YieldsList-from_filter_map, YieldsList-from_enumerate, nth_from_yields_List}
use Rattle.fiber_choice.proofs.SettlementsLaws.{unmarked, unmarked_stand}
use Rattle.fiber_walk.proofs.later.first_of.Goals as goal

pub returns : goal.returns
returns c =
    let found = nth_from_yields_List _ _ c.args.place c.nth.ensures.ran (YieldsList-from_filter_map _ unmarked (YieldsList-from_enumerate (YieldsList-from_slice c.args.marks.now cc) (cc)) c.filter_map.ensures.closure (λ x r q k. search (rules, tests))) in
    sym (option_map_id _) ∙ found ∙ ap (λ l. slice_get l c.args.place) (unmarked_stand c.args.marks.now)
