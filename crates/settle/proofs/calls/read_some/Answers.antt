-- The part keeps its length from call to call.
use Rattle.std.proofs.Common.{◌≡◌, length, refl, of_calls}
use Rattle.std.proofs.lemmas.Fn.{chained_keeps}
use Rattle.settle.proofs.calls.read_some.Goals as goal

pub returns : goal.returns
returns c =
    let e = c.made_again.ensures in
    let k = chained_keeps _ (λ xs q. length q.1.now ≡ length c.args.into.now) (λ xs q x v k s. search of_calls) e.0 _ _ refl e.3 in
    search of_calls
