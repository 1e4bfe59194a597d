-- Stored preimages as a list of structs; docs/SCOPE.md, "What the host lends".
use Rattle.std.specs.Prelude.{ℕ}
use mathlib.Core.List.{List, ◌++◌, flat_map}
use Rattle.preimage_list.specs.declared.pair.Preimage.{Preimage}

-- the same pairs as a flat slice: hash and preimage of each, one behind the other
unfoldable pub flat_pairs : List Preimage → List ℕ
flat_pairs ps = flat_map (λ (p : Preimage). p.hash ++ p.preimage) ps
