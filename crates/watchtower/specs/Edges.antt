-- The marked rows of docs/SCOPE.md, "Edges", in its order: one list of what the definitions say of an input, for both hash lengths.
use Rattle.std.specs.Prelude.{ℕ, ◌+◌, ◌^◌, ◌≡◌, true, false, List, [], ◌∷◌, replicate, Some, None, Result, Ok, Err}
use Rattle.fiber_refusal.specs.declared.Refusal.{Refusal}
use Rattle.fiber_refusal.specs.declared.Refusal.TheVariants.{SharesCut}
use Rattle.fiber_refusal.specs.Rows.{number_of, place_of}
use Rattle.fiber_since.specs.Epoch.{epoch, scaled, due_test}
use Rattle.fiber_since.specs.Since.{absolute_expiry}
use Rattle.fiber_witness.specs.Witness.{read_witness, whole}

-- an absolute timestamp
abbrev pub seconds : ℕ → ℕ
seconds s = 2 ^ 62 + s

-- turned down, by the row with this number and at this place
abbrev pub Refuses : {A : Type 0} → Result A Refusal → Refusal → ℕ → ℕ → Type 0
Refuses answer refusal number place = (answer ≡ Err refusal) × ((number_of refusal ≡ number) × (place_of refusal ≡ place))

-- in a channel whose hashes have h bytes
unfoldable pub edges : ℕ → List (Type 0)
edges h =
    (scaled (epoch 1 0 601) 1 3 ≡ Ok (epoch 0 300 901))
    ∷ ((scaled (epoch 1 300 601) 2 3 ≡ Ok (epoch 0 901 901))
    ∷ ((due_test (epoch 100 0 1) (epoch 0 1 3) (epoch 100 1 3) ≡ Ok true)
    ∷ ((due_test (epoch 100 0 1) (epoch 0 1 3) (epoch 100 332 1000) ≡ Ok false)
    ∷ ((absolute_expiry 0x4000000000000005 ≡ Some 5000)
    ∷ ((absolute_expiry (seconds 18446744073709551) ≡ Some 18446744073709551000)
    ∷ ((absolute_expiry (seconds 18446744073709552) ≡ None)
    ∷ ((read_witness h (replicate 74 0) ≡ whole 0 0 2 74)
    ∷ (Refuses (read_witness h (replicate 73 0)) (SharesCut 2) 3 2
    ∷ []))))))))

-- every row holds
unfoldable pub Hold : List (Type 0) → Type 0
Hold [] = Unit
Hold (row ∷ rows) = row × Hold rows

abbrev pub Edges : Type 0
Edges = Hold (edges 20) × Hold (edges 32)
