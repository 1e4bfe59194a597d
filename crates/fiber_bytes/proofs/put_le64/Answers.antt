-- All eight bytes, or those that have room.
use Rattle.std.proofs.Common.{◌∙◌, ap, arith, w64}
use Rattle.std.proofs.lemmas.List.Edits.{sets}
use Rattle.fiber_bytes.specs.Bytes.{le_bytes}
use Rattle.fiber_bytes.proofs.BytesLaws.{stored_all, le_bytes_wide, le_bytes_length}
use Rattle.fiber_bytes.proofs.put_le64.Goals as goal

pub returns-then-out-at-ge8 : goal.returns-then-out-at-ge8
returns-then-out-at-ge8 c =
    let a = c.args in
    stored_all a.out.now (le_bytes 8 a.x) a.at (c.copy_from_slice.ensures.after ∙ le_bytes_wide w64 a.x _ c.to_le_bytes-bytes.ensures (omega arith)) (omega (arith, le_bytes_length 8 a.x)) (omega arith)

pub returns-else-at-out : goal.returns-else-at-out
returns-else-at-out c =
    let a = c.args in
    c.put.ensures ∙ ap (sets a.out.now a.at) (le_bytes_wide w64 a.x _ c.to_le_bytes-bytes.ensures (omega arith))
