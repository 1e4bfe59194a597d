-- The marked rows hold of the definitions, for each hash length that a channel has: each by the law that stands beside its definition.
use Prim.Native.Nat.{ℕ}
use mathlib.Core.Path.{◌≡◌, refl}
use mathlib.Core.Bool.{true}
use Rattle.fiber_since.proofs.EdgesLaws.{one_third, two_thirds_lem, due_then, not_due_before, five_seconds, last_second, second_more}
use Rattle.fiber_types.specs.HashLen.{valid_hash_len}
use Rattle.fiber_types.proofs.RecordsLaws.{hash_len_20, hash_len_32}
use Rattle.fiber_witness.proofs.EdgesLaws.{reads_74, refuses_73}
use Rattle.watchtower.specs.Edges.{edges, Hold, Edges}

hold : (h : ℕ) → valid_hash_len h ≡ true → Hold (edges h)
unfolding Hold edges
hold h k =
    (one_third, (two_thirds_lem, (due_then, (not_due_before, (five_seconds, (last_second, (second_more, (reads_74 h k, ((refuses_73 h k, (refl, refl)), tt)))))))))

pub edges_hold : Edges
edges_hold = (hold 20 hash_len_20, hold 32 hash_len_32)
