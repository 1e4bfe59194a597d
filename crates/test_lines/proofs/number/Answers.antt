-- The fold as the definition has it.
use Rattle.std.proofs.Common.{◌≡◌, ◌+◌, ◌*◌, ◌%◌, ◌^◌, ◌∙◌, rules}
use Rattle.std.proofs.iter.runs.Made.{chains}
use Rattle.std.specs.List.{fold}
use Rattle.test_lines.specs.Lines.{digit}
use Rattle.test_lines.proofs.LinesLaws.{number_is}
use Rattle.test_lines.proofs.number.Goals as goal

pub returns : goal.returns
returns c =
    let folded : c.fold.result ≡ fold (λ x b. (x * 10 % 2 ^ 64 + digit b) % 2 ^ 64) 0 c.args.s.now = search (rules, chains) in
    folded ∙ number_is 0 c.args.s.now
