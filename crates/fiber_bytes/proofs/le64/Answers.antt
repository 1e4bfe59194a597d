-- Nothing at the end, eight whole bytes, or the last few.
use Rattle.std.proofs.Common.{rules, arith, ◌≡◌, ◌∙◌, ◌-◌, ◌≤◌, ap, length}
use Rattle.std.specs.Int.{w64, from_le_bytes}
use Rattle.fiber_bytes.specs.Bytes.{part, le}
use Rattle.fiber_bytes.proofs.BytesLaws.{le_none, le_wide, part_length, part_rest}
use Rattle.fiber_bytes.proofs.le64.Goals as goal

pub returns-then-s-at : goal.returns-then-s-at
returns-then-s-at c = le_none c.args.s.now c.args.at 8 c.if-s-at.true

pub returns-in-Some : goal.returns-in-Some
returns-in-Some c =
    let s = c.args.s.now in
    let e : c.from_le_bytes.result ≡ from_le_bytes w64 (part s c.args.at 8) = search rules in
    let n : 8 ≤ length s - c.args.at = search rules in
    e ∙ le_wide w64 (part s c.args.at 8) (omega arith) (part_length s c.args.at 8 (search rules))

pub returns-in-None : goal.returns-in-None
returns-in-None c = c.le_of.ensures ∙ ap le (part_rest c.args.s.now c.args.at 8 (search rules))
