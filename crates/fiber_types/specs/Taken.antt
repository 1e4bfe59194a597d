-- When a number is taken for the length of hashes; docs/SCOPE.md, row 14 of "Turned down, and waiting".
use Rattle.std.specs.Prelude.{ℕ, ◌≡◌, false, Result, MatchResult}
use Rattle.fiber_refusal.specs.declared.Refusal.{Refusal}
use Rattle.fiber_refusal.specs.declared.Refusal.TheVariants.{NotWell}
use Rattle.fiber_types.specs.declared.hash_len.HashLen.{HashLen}
use Rattle.fiber_types.specs.HashLen.{valid_hash_len}

abbrev pub TakesLen : ℕ → Result HashLen Refusal → Type 0
TakesLen h r = MatchResult r (λ l. l.bytes ≡ h) (λ e. (valid_hash_len h ≡ false) × (e ≡ NotWell))
