-- The takes in order: the hash length, two counts, the TLCs and the shares.
use mathlib.Core.Path.{◌∙◌}
use native.Mathlib.Omega.{arith}
use Rattle.fiber_refusal.proofs.PassedLaws.{passed_on}
use Rattle.fiber_witness.proofs.WitnessLaws.{witness_unknown, witness_short}
use Rattle.witness_reader.proofs.ReaderLaws.{Counts, take_none, refused, counts_taken, counts_there, read_cut, read_unshared, unlocks_are, read_whole}
use Rattle.witness_reader.proofs.read.Goals as goal
use Rattle.witness_reader.proofs.read.Goals.{In_ok-counts}

pub returns-in_err-try_from : goal.returns-in_err-try_from
returns-in_err-try_from c =
    rw (passed_on _ c.from_residual.ensures.1, c.in_err-try_from.ensures.1) (witness_unknown _ _ c.in_err-try_from.ensures.0)

pub returns-in_err-counts : goal.returns-in_err-counts
returns-in_err-counts c =
    let none = c.in_err-counts.ensures.ok_part in
    rw (passed_on _ c.from_residual-in_err-counts.ensures.1, refused _ _ _ c.in_err-counts.ensures.value none, ← c.in_ok-try_from.ensures)
    (witness_short _ _ c.in_ok-try_from.field-0.valid (take_none _ _ c.take.ensures none))

-- what is there behind the first take
counts : (c : In_ok-counts) → Counts c.in_ok-try_from.field-0.bytes c.record_len-size.result c.args.w.now c.in_ok-counts.counts c.in_ok-counts.tlcs
counts c = counts_taken _ _ _ c.in_ok-try_from.field-0.valid c.record_len-size.ensures c.take.ensures c.in_ok-counts.ensures.ok_part

pub bounds-counts-1 : goal.bounds-counts-1
bounds-counts-1 c = counts_there (counts (goal.at.bounds-counts-1 c).In_ok-counts)

pub returns-in_default : goal.returns-in_default
returns-in_default c = rw (← c.in_ok-try_from.ensures) (read_cut (counts (goal.at.returns-in_default c).In_ok-counts) c.in_default.ensures)

pub returns-in_err-unlocks : goal.returns-in_err-unlocks
returns-in_err-unlocks c =
    let none = c.in_err-unlocks.ensures.ok_part in
    rw (passed_on _ c.from_residual-in_err-unlocks.ensures.1, refused _ _ _ c.in_err-unlocks.ensures.value none, ← c.in_ok-try_from.ensures)
    (read_unshared (counts (goal.at.returns-in_err-unlocks c).In_ok-counts) c.in-Some.ensures c.take-3.ensures _ (omega arith) none)

pub read_unlocks-requires : goal.read_unlocks-requires
read_unlocks-requires c = unlocks_are (counts (goal.at.read_unlocks-requires c).In_ok-counts) c.in-Some.ensures c.take-3.ensures c.in_ok-unlocks.ensures.ok_part

pub returns : goal.returns
returns c =
    c.read_unlocks.ensures
    ∙ rw (← c.in_ok-try_from.ensures) (read_whole (counts (goal.at.returns c).In_ok-counts) c.in-Some.ensures c.take-3.ensures c.in_ok-unlocks.ensures.ok_part)
