-- What writing does to the text so far.
use Rattle.std.specs.Prelude.{ℕ, List, length, min, ◌+◌, ◌-◌, ◌^◌}
use Rattle.std.proofs.lemmas.List.Edits.{sets}
use Rattle.report.specs.declared.Text.{Text}

-- `s` right behind the text so far; bytes of it for which the output has no room are dropped, and counted as far as the count goes
unfoldable pub written : Text → List ℕ → Text
written t s = record t { out = record t.out { now = sets t.out.now t.len s }; len = t.len + min (length s) (2 ^ 64 - 1 - t.len) }
