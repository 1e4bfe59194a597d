-- The first entry that passes the test is the key.
use Rattle.std.proofs.Common.{rules, tests}
use Prim.Native.Nat.{◌≤◌}
use native.Mathlib.Omega.{arith}
use mathlib.Core.Path.{◌≡◌, ap, ◌∙◌}
use mathlib.Core.List.{[]}
use lib.ListN.{length}
use Rattle.std.proofs.lemmas.List.{get_or_default}
use Rattle.std.proofs.lemmas.Iterator.Adapters.{serves_from_places}
use Rattle.fiber_types.proofs.RecordsLaws.{payment_hash_length}
use Rattle.fiber_witness.proofs.WitnessLaws.{even_at}
use Rattle.fiber_choice.specs.Entries.{settlement_len}
use Rattle.fiber_choice.specs.Verdicts.{is_key, key_of}
use Rattle.fiber_choice.proofs.EntriesLaws.{entries_even}
use Rattle.fiber_first.proofs.LeftLaws.{entries_yield, first_place}
use Rattle.fiber_step.proofs.key.key_of.Goals as goal

pub returns : goal.returns
unfolding key_of
returns c =
    rw (← c.record-record.ensures, ← c.payment_hash-start.ensures, ← c.key_hash_in-ours.ensures)
    (first_place (is_key c.payment_hash-start.result.now c.key_hash_in-ours.result.now) c.position.new.self _ c.position.result c.settlement_tlcs.ensures c.position.ensures.ran (λ x b q k. search (rules, tests)))

pub position-requires-clause-callable : goal.position-requires-clause-callable
position-requires-clause-callable c =
    let s = c.args.q.now.settlement.tlcs.now in
    let short : length c.payment_hash-start.result.now ≤ 32 =
    omega (arith, ap length c.payment_hash-start.ensures, payment_hash_length c.args.tracked.now.h.bytes c.record-record.result.now, c.args.tracked.now.h.small) in
    serves_from_places (entries_yield c.settlement_tlcs.ensures)
    (λ x q r. search (rules, tests))
    (λ x k h e.
    let whole : length x.now ≡ settlement_len = ap length (e ∙ get_or_default _ k x.now [] h) ∙ even_at (entries_even settlement_len s) k h in
    search rules)
