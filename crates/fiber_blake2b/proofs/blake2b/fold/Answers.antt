-- `fold` meets its contract: word by word.
use Rattle.std.proofs.Common.{◌+◌, get_or, bit_xor, rules}
use Rattle.fiber_bytes.proofs.ArraysLaws.{from_fn_at}
use Rattle.fiber_blake2b.proofs.Blake2bLaws.{folded_by}
use Rattle.fiber_blake2b.proofs.blake2b.fold.Goals as goal

pub returns : goal.returns
returns c =
    let h = c.args.h.now in
    let v = c.args.v.now in
    let m = c.from_fn.ensures.items in
    folded_by c.from_fn.result h v m.long (search rules) (from_fn_at _ m (λ k. bit_xor (bit_xor (get_or h k 0) (get_or v k 0)) (get_or v (k + 8) 0)) (λ k y q t. search rules))
