-- One write of a TLC's record, whose parts have the lengths that the layout wants.
use mathlib.Core.Path.{ap, ◌∙◌}
use lib.ListN.{take}
use Rattle.fiber_choice.specs.FirstRecords.{hash_of}
use Rattle.fiber_choice.proofs.FirstRecordsLaws.{first_remote_lem, first_local_lem}
use Rattle.fiber_first.proofs.built.put_first.Goals as goal

pub returns-then-for_remote : goal.returns-then-for_remote
returns-then-for_remote c =
    let a = c.args in
    first_remote_lem a.h.bytes a.for_remote a.tlc.now.bytes.now a.h.valid a.tlc.now.whole a.buffer.now _ c.requires.1 _ _
    c.amount_at.ensures c.expiry_ms.ensures _ _ _
    (ap (take a.h.bytes) c.hash.ensures.value) (c.hash_of-local.ensures ∙ ap hash_of c.local_key.ensures) (c.hash_of-remote.ensures ∙ ap hash_of c.remote_key.ensures)
    c.if-for_remote.true c.write.ensures.1

pub returns-else-for_remote : goal.returns-else-for_remote
returns-else-for_remote c =
    let a = c.args in
    first_local_lem a.h.bytes a.for_remote a.tlc.now.bytes.now a.h.valid a.tlc.now.whole a.buffer.now _ c.requires.1 _ _
    c.amount_at.ensures c.expiry_ms.ensures _ _ _
    (ap (take a.h.bytes) c.hash.ensures.value) (c.hash_of-local.ensures ∙ ap hash_of c.local_key.ensures) (c.hash_of-remote.ensures ∙ ap hash_of c.remote_key.ensures)
    c.if-for_remote.false c.write-else-for_remote.ensures.1
