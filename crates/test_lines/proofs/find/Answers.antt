-- The first place behind `at`, as the definition has it.
use Rattle.std.proofs.Common.{◌≡◌, true, false, sym, ◌∙◌, ◌-◌, length, drop, ◌≤◌, inl, inr, rules, arith}
use Rattle.std.proofs.lemmas.Iterator.{IsFirst-from_position, YieldsList-from_slice}
use borrow.Author.Tests.{tests}
use Rattle.test_lines.specs.Lines.{find}
use Rattle.test_lines.proofs.LinesLaws.{Ends, before, before_is, find_is, find_past, rest_is}
use Rattle.test_lines.proofs.find.Goals as goal

pub returns-in-Some-clause-value : goal.returns-in-Some-clause-value
unfolding find
returns-in-Some-clause-value c =
    let s = c.args.s.now in
    let b = c.args.b in
    let rest = c.in-Some.rest.now in
    let first = IsFirst-from_position _ _ c.position.result (Ends b true) (Ends b false) c.position.ensures.ran (YieldsList-from_slice rest c.iter.ensures.rest) (λ x q k. search (rules, tests)) (λ x q k. search (rules, tests)) in
    let found : c.unwrap_or.result ≡ before b rest = c.unwrap_or.ensures ∙ sym (before_is b c.position.result rest first) in
    let whole : rest ≡ drop c.args.at s = rest_is s rest _ c.args.at (omega arith) c.in-Some.ensures.lookup.0.2 in
    let within : c.args.at ≤ length s = omega (arith, c.in-Some.ensures.lookup.0.0) in
    rw (found, whole) (find_is b s (length s - c.args.at) c.args.at (omega arith))

pub returns-in-None-clause-value : goal.returns-in-None-clause-value
unfolding find
returns-in-None-clause-value c = elim c.in-None.ensures.lookup.0 [ inl h ↦ find_past _ _ _ (omega arith) | inr h ↦ absurd (omega arith) ]
