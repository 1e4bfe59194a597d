-- As many zeros as were asked for. The count is a variable of the law, so that nothing writes the list out.
use Rattle.std.proofs.Common.{◌≡◌, ℕ, length, replicate, sym}
use lib.ListN.{length-replicate}
use Rattle.replay.proofs.list_buffer.Goals as goal

zeros : (n : ℕ) → n ≡ length {0} {A = ℕ} (replicate {0} {A = ℕ} n 0)
zeros n = sym (length-replicate n 0)

pub returns : goal.returns
returns c = zeros 1000000
