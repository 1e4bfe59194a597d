-- How many bytes a hash can have; docs/SCOPE.md, "Records".
use Rattle.std.specs.Prelude.{ℕ, Bool, ◌||◌, eqb}

-- h is 20, or 32 on a channel with full hashes
unfoldable pub valid_hash_len : ℕ → Bool
valid_hash_len h = eqb h 20 || eqb h 32
