-- One call more.
use Rattle.std.proofs.Common.{of_calls, [], ◌∷◌, ◌++◌}
use Rattle.std.proofs.lemmas.Fn.{FoldsTo-push}
use Rattle.settle.proofs.calls.made_again.Goals as goal

pub loop-preserved : goal.loop-preserved
loop-preserved g c =
    let i = c.loop.invariant in
    (search of_calls, (i.1.0 ++ c.call.result ∷ [], FoldsTo-push (goal.F-step g) _ _ c.loop.call c.call.result c.call.new.self i.1.1 (search of_calls)))
