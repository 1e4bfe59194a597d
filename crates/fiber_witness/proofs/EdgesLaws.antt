-- The marked rows of document 01's table "Edges" that are about reading, by computing, for every hash length that a channel has. The list of all
-- marked rows (watchtower/specs/Edges.antt) cites them.
use Prim.Native.Nat.{ℕ}
use mathlib.Core.Path.{◌≡◌}
use mathlib.Core.Bool.{true}
use lib.ListN.{replicate}
use Rattle.fiber_types.specs.HashLen.{valid_hash_len}
use Rattle.std.specs.Prelude.{Err}
use Rattle.fiber_refusal.specs.declared.Refusal.TheVariants.{SharesCut}
use Rattle.fiber_witness.specs.Witness.{places_within, places, unless_cut, read_unlocks, read_shares, read_tlcs, read_witness, whole}

pub reads_74 : (h : ℕ) → valid_hash_len h ≡ true → read_witness h (replicate 74 0) ≡ whole 0 0 2 74
unfolding places_within places unless_cut read_unlocks read_shares read_tlcs read_witness
reads_74 h k = rw k

pub refuses_73 : (h : ℕ) → valid_hash_len h ≡ true → read_witness h (replicate 73 0) ≡ Err (SharesCut 2)
unfolding read_shares read_tlcs read_witness
refuses_73 h k = rw k
