-- Numbers are written one behind the other: what is left to write, from here, gives what the whole gives.
use Rattle.std.proofs.Common.{◌≡◌, ◌+◌, ◌*◌, drop}
use Rattle.std.proofs.lemmas.List.Edits.{sets}
use Rattle.fiber_bytes.specs.Bytes.{numbers}
use Rattle.fiber_bytes.proofs.put_numbers.Given as goal

abbrev pub invariant-loop-i : goal.invariant-loop-i
invariant-loop-i l = sets l.out (l.at + 8 * l.i) (numbers (drop l.i l.numbers)) ≡ sets l.initial.out l.at (numbers l.numbers)
