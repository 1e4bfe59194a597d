-- Two takes, one behind the other, take an unlock whole, or it is cut short.
use native.Mathlib.Omega.{arith}
use mathlib.Core.Path.{ap}
use lib.ListN.{length, length-take}
use Rattle.fiber_witness.proofs.WitnessLaws.{unlock_long}
use Rattle.witness_reader.proofs.ReaderLaws.{none_taken, some_taken, unlock_short, unlock_whole}
use Rattle.witness_reader.proofs.pass_unlock.Goals as goal

pub returns-in_err-unlock : goal.returns-in_err-unlock
returns-in_err-unlock c =
    let s = c.args.reader.remaining.now in
    rw c.from_residual.ensures (omega (arith, none_taken s 67 c.in_err-unlock.ensures, unlock_long s 0))

pub preimage_len-requires : goal.preimage_len-requires
preimage_len-requires c =
    let s = c.args.reader.remaining.now in
    let p = some_taken s 67 _ _ c.in_ok-unlock.ensures in
    omega (arith, p.0, ap length p.1, length-take 67 s)

pub returns-in_err-rest : goal.returns-in_err-rest
returns-in_err-rest c =
    rw c.from_residual-in_err-rest.ensures (unlock_short _ _ _ _ c.in_ok-unlock.ensures c.preimage_len.ensures c.in_err-rest.ensures)

pub returns : goal.returns
returns c = unlock_whole _ _ _ _ c.in_ok-unlock.ensures c.preimage_len.ensures _ _ c.in_ok-rest.ensures
