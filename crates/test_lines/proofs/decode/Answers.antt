-- The bytes, one for each number of the range.
use Rattle.std.proofs.Common.{◌*◌, ◌/◌, length, rules, arith}
use Rattle.std.proofs.lemmas.Iterator.{items_from_collect, YieldsList-from_map, YieldsList-from_range}
use Rattle.test_lines.specs.Lines.{hex_at}
use Rattle.test_lines.proofs.LinesLaws.{hex_bytes_is}
use Rattle.test_lines.proofs.decode.Goals as goal

pub returns : goal.returns
returns c =
    let s = c.args.s.now in
    rw (hex_bytes_is s (length s / 2) 0) at
    (items_from_collect c.collect.result c.collect.ensures.ran
    (YieldsList-from_map _ (λ i. hex_at s (2 * i)) (YieldsList-from_range 0 (length s / 2) (length s / 2) c.map.ensures.source (omega arith)) c.map.ensures.closure (λ x r q k. search rules)))
