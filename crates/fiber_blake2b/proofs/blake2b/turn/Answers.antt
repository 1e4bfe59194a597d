-- `turn` meets its contract: the library's rotation, of words.
use Rattle.std.proofs.Common.{◌∙◌}
use Rattle.std.proofs.lemmas.Nat.{xor_lt}
use Rattle.fiber_bytes.proofs.WordsLaws.{rotated_right}
use Rattle.fiber_blake2b.proofs.Blake2bLaws.{turned_by}
use Rattle.fiber_blake2b.proofs.blake2b.turn.Goals as goal

pub returns : goal.returns
returns c = turned_by _ _ _ _ _ (c.rotate_right.ensures ∙ rotated_right 64 _ c.args.k (xor_lt 64 _ _ (c.fits-v c.args.d) (c.fits-v c.args.a)) c.requires.2 c.requires.3)
