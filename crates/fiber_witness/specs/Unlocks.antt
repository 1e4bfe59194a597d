-- The unlocks behind a state as a list, read by the layout of docs/SCOPE.md, "Records", alone. The update reads them by their places in a
-- witness (Witness.antt), and shares nothing with this reading; proofs/UnlocksLaws.antt ties the two.
use Rattle.std.specs.Prelude.{ℕ, zero, suc, cond, List, [], ◌∷◌, length, get_or, take, drop, leb, eqb}

-- byte 1, flag 1, signature 65, and preimage 32 exactly if the flag is 1
unfoldable pub unlock_size : List ℕ → ℕ
unlock_size s = cond (eqb (get_or s 1 0) 1) 99 67

-- the whole ones, front to back, and the bytes behind them that are no whole one
pub record Unlocks : Type 0 where
  pub whole : List (List ℕ)
  pub rest : List ℕ

unfoldable pub unlocks_within : ℕ → List ℕ → Unlocks
unlocks_within zero s = record { whole = []; rest = s }
unlocks_within (suc fuel) s =
    let next = unlocks_within fuel (drop (unlock_size s) s) in
    cond (leb (unlock_size s) (length s))
    (record { whole = take (unlock_size s) s ∷ next.whole; rest = next.rest })
    (record { whole = []; rest = s })

-- An unlock has more than one byte, so the length is fuel enough.
unfoldable pub unlocks_in : List ℕ → Unlocks
unlocks_in s = unlocks_within (length s) s
