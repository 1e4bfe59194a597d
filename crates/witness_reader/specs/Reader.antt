-- What a reader takes and leaves, as the reference's `WitnessReader` does: where fewer bytes are left than asked for, nothing is taken.
use Rattle.std.specs.Prelude.{ℕ, cond, List, length, take, drop, leb, Option, Some, None}

unfoldable pub taken : List ℕ → ℕ → Option (List ℕ)
taken s n = cond (leb n (length s)) (Some (take n s)) None

unfoldable pub left : List ℕ → ℕ → List ℕ
left s n = cond (leb n (length s)) (drop n s) s
