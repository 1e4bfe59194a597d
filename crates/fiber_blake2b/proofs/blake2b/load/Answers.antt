-- `load` meets its contract: word by word.
use Rattle.std.proofs.Common.{◌+◌, ◌*◌, rules}
use Rattle.fiber_bytes.specs.Bytes.{part, le}
use Rattle.fiber_bytes.proofs.ArraysLaws.{from_fn_at}
use Rattle.fiber_blake2b.proofs.Blake2bLaws.{words_by}
use Rattle.fiber_blake2b.proofs.blake2b.load.Goals as goal

pub returns : goal.returns
returns c =
    let a = c.args in
    words_by c.from_fn.result a.s.now a.at c.from_fn.ensures.items.long (from_fn_at _ c.from_fn.ensures.items (λ k. le (part a.s.now (a.at + 8 * k) 8)) (λ k y q t. search rules))
