-- What reading a settlement witness finds; docs/SCOPE.md, "Witness", with rows 14 and 1 to 4 of its table.
-- Unlock count 1 (never looked at), TLC count n 1, n TLCs, remote share, local share, unlocks to the end.
use Rattle.std.specs.Prelude.{ℕ, zero, suc, ◌+◌, Bool, false, cond, ◌||◌, length, get_or, take, drop, ltb, leb, eqb, Result, Ok, Err}
use mathlib.Core.List.{List, [], ◌∷◌, ◌++◌, flatten}
use Rattle.fiber_refusal.specs.declared.Refusal.{Refusal}
use Rattle.fiber_refusal.specs.declared.Refusal.TheVariants.{WitnessShort, TlcCut, SharesCut, UnlockCut, NotWell}
use Rattle.fiber_types.specs.HashLen.{valid_hash_len}
use Rattle.fiber_types.specs.Records.{witness_len}
use Rattle.fiber_witness.specs.declared.witness.WitnessLayout.{WitnessLayout}

-- ---- layout

-- a TLC's record has 65 + h bytes, a share 36: key hash 20, amount 16
abbrev pub record_len : ℕ → ℕ
record_len h = 65 + h

-- the bytes of the unlock at a place, which has a preimage exactly if its flag is 1
abbrev pub unlock_len : List ℕ → ℕ → ℕ
unlock_len w at = witness_len (eqb (get_or w (at + 1) 0) 1)

-- m chunks of size bytes each, one behind the other
unfoldable pub chunks : ℕ → ℕ → List ℕ → List (List ℕ)
chunks size zero l = []
chunks size (suc m) l = take size l ∷ chunks size m (drop size l)

-- a state, as `to_witness` writes it: n, TLCs, remote share, local share
unfoldable pub state_bytes : List (List ℕ) → List ℕ → List ℕ → List ℕ
state_bytes tlcs remote local = length tlcs ∷ (flatten tlcs ++ (remote ++ local))

-- whether a place is among places
unfoldable pub member : ℕ → List ℕ → Bool
member i [] = false
member i (p ∷ ps) = eqb i p || member i ps

-- ---- unlocks

-- Where the unlocks from a place to the end begin. Every unlock has more than one byte, so the witness's length is fuel enough.
unfoldable pub places_within : ℕ → List ℕ → ℕ → List ℕ
places_within zero w at = []
places_within (suc fuel) w at =
    let next = places_within fuel w (at + unlock_len w at) in
    cond (ltb at (length w)) (at ∷ next) []

unfoldable pub places : List ℕ → ℕ → List ℕ
places w at = places_within (length w) w at

-- all unlocks at these places are whole, or the first that is not is turned down
unfoldable pub unless_cut : {A : Type 0} → List ℕ → List ℕ → (ℕ → A) → A → A
unless_cut w [] cut whole = whole
unless_cut w (p ∷ ps) cut whole =
    let next = unless_cut w ps cut whole in
    cond (leb (p + unlock_len w p) (length w)) next (cut p)

-- ---- reading, front to back

-- what a witness that is whole has: so many TLCs and unlocks, and the places of the share part and of the first unlock
abbrev pub whole : ℕ → ℕ → ℕ → ℕ → Result WitnessLayout Refusal
whole n unlock_count share_place first_unlock = Ok (record { n = n; unlock_count = unlock_count; share_place = share_place; first_unlock = first_unlock })

-- an unlock that is cut short: 4 at its first byte
abbrev pub cut_at : ℕ → Result WitnessLayout Refusal
cut_at at = Err (UnlockCut at)

-- the unlocks behind the shares
unfoldable pub read_unlocks : List ℕ → ℕ → ℕ → Result WitnessLayout Refusal
read_unlocks w n share_place =
    let ps = places w (share_place + 72) in
    unless_cut w ps cut_at (whole n (length ps) share_place (share_place + 72))

-- the share part: 3 at its first byte where it is cut short
unfoldable pub read_shares : List ℕ → ℕ → ℕ → Result WitnessLayout Refusal
read_shares w n share_place = cond (leb (share_place + 72) (length w)) (read_unlocks w n share_place) (Err (SharesCut share_place))

-- the last m of n TLCs, from a place on: 2 at the first byte of one that is cut short
unfoldable pub read_tlcs : ℕ → ℕ → List ℕ → ℕ → ℕ → Result WitnessLayout Refusal
read_tlcs zero h w n at = read_shares w n at
read_tlcs (suc m) h w n at =
    let next = read_tlcs m h w n (at + record_len h) in
    cond (leb (at + record_len h) (length w)) next (Err (TlcCut at))

-- 14, then a witness below 2 bytes: 1 at its length
unfoldable pub read_witness : ℕ → List ℕ → Result WitnessLayout Refusal
read_witness h w =
    cond (valid_hash_len h)
    (cond (leb 2 (length w)) (read_tlcs (get_or w 1 0) h w (get_or w 1 0) 2) (Err (WitnessShort (length w))))
    (Err NotWell)
