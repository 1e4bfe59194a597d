-- To write what is left, from here, gives what the whole gives.
use mathlib.Core.List.{flatten}
use Rattle.fiber_choice.specs.Entries.{entries, settlement_len}
use Rattle.fiber_choice.specs.FirstRecords.{first_records}
use Rattle.fiber_choice.proofs.FirstRecordsLaws.{Firsts}
use Rattle.fiber_first.specs.inner.Left.{left}
use Rattle.fiber_first.proofs.built.put_first_tlcs.Given as goal

abbrev pub invariant-loop-tlc : goal.invariant-loop-tlc
invariant-loop-tlc l =
    Firsts l.h.bytes l.for_remote (flatten (first_records l.h.bytes l.for_remote (entries settlement_len l.tlcs))) l.initial.out (left l.tlc-iterator) l.out l.at
