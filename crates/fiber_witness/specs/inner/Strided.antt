-- Where the code takes the shares and the records of a state from: the records out of a list in which they stand a fixed number of bytes apart,
-- and of them those that are not marked. Only contracts of inner functions speak of it.
use Rattle.std.specs.Prelude.{ℕ, zero, suc, ◌+◌, ◌*◌, ◌≡◌, Bool, List, [], ◌∷◌, length}
use Rattle.std.proofs.lemmas.List.Edits.{sets}
use Rattle.fiber_bytes.specs.Bytes.{part}
use Rattle.fiber_witness.specs.Witness.{record_len}
use Rattle.fiber_witness.specs.Update.{keep}
use Rattle.fiber_witness.specs.inner.Marks.{marked}

-- the place of the share part of a witness, behind n TLCs
abbrev pub behind_tlcs : ℕ → ℕ → ℕ
behind_tlcs h n = 2 + n * record_len h

-- m records of size bytes each, stride bytes apart, the first at a place of s
unfoldable pub strided : ℕ → ℕ → ℕ → List ℕ → ℕ → List (List ℕ)
strided size stride zero s from = []
strided size stride (suc m) s from = part s from size ∷ strided size stride m s (from + stride)

-- those of n that are not marked
unfoldable pub unmarked : ℕ → List ℕ → ℕ → ℕ → ℕ → List Bool → List (List ℕ)
unmarked h s from stride n marks = keep (marked marks) 0 (strided (record_len h) stride n s from)

-- a writer's answer and its output: the length of the bytes, which stand at the front
abbrev pub Fronts : List ℕ → List ℕ → ℕ → List ℕ → Type 0
Fronts bytes out r after = (r ≡ length bytes) × (after ≡ sets out 0 bytes)
