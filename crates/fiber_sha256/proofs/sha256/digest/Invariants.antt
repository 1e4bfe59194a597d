-- The loop writes the bytes of word after word: what is left to write, from here, gives the whole.
use Rattle.std.proofs.Common.{◌≡◌, ◌*◌, drop}
use Rattle.std.proofs.lemmas.List.Edits.{sets}
use mathlib.Core.List.{flat_map}
use Rattle.fiber_bytes.specs.Bytes.{be_bytes}
use Rattle.fiber_sha256.proofs.sha256.digest.Given as goal

abbrev pub invariant-loop-i : goal.invariant-loop-i
invariant-loop-i l = sets l.r (4 * l.i) (flat_map (be_bytes 4) (drop l.i l.word-items)) ≡ flat_map (be_bytes 4) l.word-items
