-- Word by word.
use Rattle.std.proofs.Common.{◌+◌, ◌%◌, ◌^◌, get_or, rules}
use Rattle.fiber_bytes.proofs.ArraysLaws.{from_fn_at}
use Rattle.fiber_sha256.proofs.Sha256Laws.{folded_by}
use Rattle.fiber_sha256.proofs.sha256.fold.Goals as goal

pub returns : goal.returns
returns c =
    let h = c.args.h in
    let v = c.args.v in
    let m = c.from_fn.ensures.items in
    folded_by c.from_fn.result h v m.long (search rules) (from_fn_at _ m (λ k. (get_or h k 0 + get_or v k 0) % 2 ^ 32) (λ k y q t. search rules))
