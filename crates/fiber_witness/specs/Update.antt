-- What an update answers and writes; docs/SCOPE.md, "Update", with rows 5, 6 and 13 of its table.
use Rattle.std.specs.Prelude.{ℕ, ◌+◌, Bool, true, false, cond, List, [], ◌∷◌, get_or, drop, replicate, ltb, eqb, Result, Ok, Err}
use Rattle.fiber_bytes.specs.Bytes.{part}
use Rattle.fiber_refusal.specs.declared.Refusal.{Refusal}
use Rattle.fiber_refusal.specs.declared.Refusal.TheVariants.{UnlockUnknown, SettledTwice}
use Rattle.fiber_types.specs.Records.{Outcome, unwritten, outcome}
use Rattle.fiber_witness.specs.declared.witness.WitnessLayout.{WitnessLayout}
use Rattle.fiber_witness.specs.Witness.{record_len, chunks, state_bytes, member, places, read_witness}

-- ---- the unlocks, in order

-- What the unlocks taken so far have done: the places of the TLCs they settled, and which shares they unlocked.
pub record Taken : Type 0 where
  pub settled : List ℕ
  pub remote : Bool
  pub local : Bool

abbrev pub none : Taken
none = record { settled = []; remote = false; local = false }

-- what the unlocks of a witness take, of n TLCs and shares at a place, or the row that turns it down
pub data Unlocked : Type 0 where
  fine : ℕ → ℕ → Taken → Unlocked
  faulty : Refusal → Unlocked

-- Unlocks at the places of w, of n TLCs. 0xFF is the local share and 0xFE the remote one, repeats allowed. Another byte is the place of a
-- TLC in the list before any removal: 5 where there is none, 6 where it is settled already.
unfoldable pub take_unlocks : ℕ → ℕ → List ℕ → Taken → List ℕ → Unlocked
take_unlocks n share_place w t [] = fine n share_place t
take_unlocks n share_place w t (p ∷ ps) =
    let byte = get_or w p 0 in
    let on_local = take_unlocks n share_place w (record { settled = t.settled; remote = t.remote; local = true }) ps in
    let on_remote = take_unlocks n share_place w (record { settled = t.settled; remote = true; local = t.local }) ps in
    let on_tlc = take_unlocks n share_place w (record { settled = byte ∷ t.settled; remote = t.remote; local = t.local }) ps in
    cond (eqb byte 255) on_local
    (cond (eqb byte 254) on_remote
    (cond (ltb byte n) (cond (member byte t.settled) (faulty (SettledTwice p)) on_tlc) (faulty (UnlockUnknown p))))

-- ---- the state left

-- of the records at places i, i + 1, .., those that were not settled
unfoldable pub keep : List ℕ → ℕ → List (List ℕ) → List (List ℕ)
keep settled i [] = []
keep settled i (r ∷ rs) =
    let next = keep settled (i + 1) rs in
    cond (member i settled) next (r ∷ next)

-- a share, 36 bytes: once unlocked its key hash and its amount are zeros
unfoldable pub share_left : Bool → List ℕ → List ℕ
share_left is_unlocked s = cond is_unlocked (replicate 36 0) s

-- the n TLCs of a witness that are not settled, in their order
unfoldable pub standing : ℕ → List ℕ → ℕ → List ℕ → List (List ℕ)
standing h w n settled = keep settled 0 (chunks (record_len h) n (drop 2 w))

-- what unlocks leave of a state with these TLCs and shares
unfoldable pub state_after : List (List ℕ) → List ℕ → List ℕ → Taken → List ℕ
state_after tlcs remote local t = state_bytes (keep t.settled 0 tlcs) (share_left t.remote remote) (share_left t.local local)

unfoldable pub state_left : ℕ → List ℕ → ℕ → ℕ → Taken → List ℕ
state_left h w n share_place t = state_after (chunks (record_len h) n (drop 2 w)) (part w share_place 36) (part w (share_place + 36) 36) t

-- ---- the update

unfoldable pub by_read : List ℕ → Result WitnessLayout Refusal → Unlocked
by_read w (Ok l) = take_unlocks l.n l.share_place w none (places w l.first_unlock)
by_read w (Err r) = faulty r

-- read, then take the unlocks in order
unfoldable pub unlocked : ℕ → List ℕ → Unlocked
unlocked h w = by_read w (read_witness h w)

-- the state left goes to the front of the output: 13 at its length where it has no room
unfoldable pub written : ℕ → List ℕ → List ℕ → Unlocked → Outcome (Result ℕ Refusal)
written h w out (fine n share_place t) = outcome true (state_left h w n share_place t) out
written h w out (faulty r) = unwritten (Err r) out

unfoldable pub updated : ℕ → List ℕ → List ℕ → Outcome (Result ℕ Refusal)
updated h w out = written h w out (unlocked h w)
