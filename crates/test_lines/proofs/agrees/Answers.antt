-- Both say whether each byte is the one at its place.
use Rattle.std.proofs.Common.{◌≡◌, ℕ, ◌*◌, ◌<◌, length, get_or, ne_eqb, ◌∙◌, rules}
use Rattle.std.proofs.iter.runs.Made.{chains}
use Rattle.std.specs.Bool.{Decides}
use Rattle.test_lines.specs.Lines.{hex_at}
use Rattle.test_lines.proofs.LinesLaws.{agree_is, agree_not}
use Rattle.test_lines.proofs.agrees.Goals as goal

pub returns-then-s-bytes : goal.returns-then-s-bytes
returns-then-s-bytes c =
    let s = c.args.s.now in
    let bytes = c.args.bytes.now in
    let each : Decides c.all.result ((k : ℕ) → k < length bytes → get_or bytes k 0 ≡ hex_at s (2 * k)) = search (rules, chains) in
    agree_is s bytes c.all.result c.if-s-bytes.true each

pub returns-else-s-bytes : goal.returns-else-s-bytes
returns-else-s-bytes c = ne_eqb _ _ c.if-s-bytes.false ∙ agree_not _ _ c.if-s-bytes.false
