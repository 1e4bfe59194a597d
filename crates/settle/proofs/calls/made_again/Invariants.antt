-- The calls so far, one behind the other.
use Rattle.std.proofs.Common.{List}
use Rattle.std.specs.List.{FoldsTo}
use Rattle.settle.proofs.calls.made_again.Given as goal

abbrev pub invariant-loop : goal.invariant-loop
invariant-loop g l = goal.F-IsAlwaysCallable g l.call × ((tries : List _) × FoldsTo (goal.F-step g) l.initial.call tries l.call)
