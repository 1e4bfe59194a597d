-- The bytes stay the same from call to call.
use Rattle.std.proofs.Common.{◌≡◌, refl, of_calls}
use Rattle.std.proofs.lemmas.Fn.{chained_keeps}
use Rattle.settle.proofs.calls.write_some.Goals as goal

pub returns : goal.returns
returns c =
    let e = c.made_again.ensures in
    let k = chained_keeps _ (λ xs q. q.1.now ≡ c.args.bytes.now) (λ xs q x v k s. search of_calls) e.0 _ _ refl e.3 in
    search of_calls
