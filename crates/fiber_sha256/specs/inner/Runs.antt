-- What the code's runs of n turns from turn i on say of themselves, whatever came before: v to r; and w to w', since words of the schedule
-- are made beside the turns, 48 in all.
use Rattle.std.specs.Prelude.{◌≡◌, ℕ, ◌+◌, List, min}
use Rattle.fiber_sha256.specs.Sha256.{extended, turns}

abbrev pub Stepped : ℕ → ℕ → List ℕ → List ℕ → List ℕ → List ℕ → Type 0
Stepped n i w v w' r =
    (v₀ w₀ : List ℕ) → (w ≡ extended (min i 48) w₀) × (v ≡ turns i v₀ (extended 48 w₀))
    → (w' ≡ extended (min (i + n) 48) w₀) × (r ≡ turns (i + n) v₀ (extended 48 w₀))
