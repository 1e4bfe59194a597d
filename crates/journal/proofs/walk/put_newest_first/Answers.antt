-- One more entry is copied.
use Prim.Native.Nat.{◌≤◌}
use mathlib.Core.Path.{◌≡◌}
use native.Mathlib.Omega.{arith}
use lib.ListN.{length}
use Rattle.fiber_bytes.proofs.BytesLaws.{stored_all}
use Rattle.journal.proofs.CountLaws.{entry_length}
use Rattle.journal.proofs.JournalLaws.{copying_one}
use Rattle.journal.proofs.walk.put_newest_first.Goals as goal

pub loop-older-preserved : goal.loop-older-preserved
loop-older-preserved c =
    let l = c.loop-older in
    let p = c.in-Some.ensures.cases in
    let h : 62 ≤ length l.rest.now = omega (arith, p.2) in
    let n : length c.in-Some.entry.now ≡ 62 = entry_length l.rest.now c.in-Some.older.now c.in-Some.entry.now h p.0 p.1 in
    copying_one _ _ _ _ _ l.invariant _ _ _ h p.0 p.1
    (stored_all l.out c.in-Some.entry.now l.at c.copy_from_slice.ensures.after (omega (arith, n)) (omega (arith, l.invariant.size, l.invariant.room)))
