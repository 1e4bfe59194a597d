-- The entry at the place, which is whole.
use Prim.Native.Nat.{ℕ, ◌/◌, ◌<◌}
use mathlib.Core.Path.{ap, sym, ◌∙◌}
use native.Mathlib.Omega.{arith}
use mathlib.Core.List.{List}
use lib.ListN.{length}
use Rattle.fiber_bytes.proofs.BytesLaws.{part_length}
use Rattle.fiber_choice.specs.Entries.{entries}
use Rattle.fiber_choice.proofs.EntriesLaws.{entries_length, entry_at, entry_room}
use Rattle.fiber_step.proofs.settlement.settlement_tlc.Goals as goal

below : (s : List ℕ) (i : ℕ) → i < length (entries 124 s) → i < length s / 124
below s i h = omega (arith, h, entries_length 124 s)

pub invariant_of-result : goal.invariant_of-result
invariant_of-result c =
    let s = c.args.q.now.settlement.tlcs.now in
    record { whole = ap length c.part_of.ensures ∙ part_length s _ 124 (entry_room 124 s _ (below s _ c.requires.1)) }

pub returns : goal.returns
returns c =
    let s = c.args.q.now.settlement.tlcs.now in
    c.part_of.ensures ∙ sym (entry_at 124 s _ (below s _ c.requires.1))
