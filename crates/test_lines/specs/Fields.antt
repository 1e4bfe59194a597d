-- What a field of a line holds.
use Rattle.std.specs.Prelude.{◌≡◌, ℕ, ◌/◌, List, length, drop, Some, slice_get}
use Rattle.std.specs.Str.Parse.{digits_value, without_leading_plus}
use Rattle.test_lines.specs.Lines.{hex_bytes}
use Rattle.test_lines.specs.declared.fields.Field.{Field}
use Rattle.test_lines.specs.declared.fields.Field.TheVariants.{Number, Bytes}

-- a number in decimal, or behind an x bytes in hexadecimal
abbrev pub Holds : List ℕ → Field → Type 0
Holds s (Number n) = n ≡ digits_value 10 (without_leading_plus s)
Holds s (Bytes v) = (slice_get s 0 ≡ Some 120) × (v.items ≡ hex_bytes (length (drop 1 s) / 2) (drop 1 s) 0)
