-- What is left to write, from here, gives what the whole gives; bytes without room change nothing.
use Rattle.std.proofs.Common.{◌≡◌, ◌-◌, length}
use lib.Seq.{sets}
use Rattle.test_lines.specs.Lines.{hex_bytes}
use Rattle.test_lines.proofs.unhex.Given as goal

abbrev pub invariant-loop-i : goal.invariant-loop-i
invariant-loop-i l = (length l.out ≡ length l.initial.out) × (sets l.out l.i (hex_bytes (l.n - l.i) l.s l.i) ≡ sets l.initial.out 0 (hex_bytes l.n l.s 0))
