-- What an iterator over a list of entries has left. Only contracts of inner functions speak of it.
use Rattle.std.specs.Prelude.{ℕ, List}
use Rattle.fiber_choice.specs.Entries.{entries}
use Rattle.fiber_first.specs.declared.entries.Entries.{Entries}

abbrev pub left : Entries → List (List ℕ)
left e = entries e.size e.rest.now
