-- Both shares, by their side, after what the update's unlocks have taken of them.
-- Assumes nothing.
use Prim.Native.Nat.{ℕ}
use mathlib.Core.Path.{◌≡◌, refl, sym, ap, fun_ext, ◌∙◌}
use mathlib.Core.Bool.{Bool, true, false, cond}
use mathlib.Core.List.{List}
use lib.ListN.{replicate}
use Rattle.fiber_bytes.proofs.BytesLaws.{le_zeros}
use Rattle.fiber_witness.specs.Update.{Taken, none, share_left}
use Rattle.fiber_witness.proofs.UpdateLaws.{share_kept, share_taken}
use Rattle.fiber_choice.specs.declared.kinds.Side.{Side}
use Rattle.fiber_choice.specs.declared.kinds.Side.TheVariants.{Remote, Local}
use Rattle.book.specs.Book.{share_amount, same_side, change}

-- zeros hold no amount
pub zero_share : share_amount (replicate 36 0) ≡ 0
unfolding share_amount
zero_share = le_zeros 16

-- a share's mark after an unlock of a side, and what is taken then
abbrev or_taken : Side → Side → Bool → Bool
or_taken Remote Remote b = true
or_taken Remote Local b = b
or_taken Local Remote b = b
or_taken Local Local b = true

abbrev pub takes : Side → Taken → Taken
takes side t = record { settled = t.settled; remote = or_taken side Remote t.remote; local = or_taken side Local t.local }

-- both shares by their marks
unfoldable pub left_of : Bool → Bool → (Side → List ℕ) → Side → List ℕ
left_of remote local shares Remote = share_left remote (shares Remote)
left_of remote local shares Local = share_left local (shares Local)

abbrev pub shares_left : Taken → (Side → List ℕ) → Side → List ℕ
shares_left t shares = left_of t.remote t.local shares

pub left_none : (shares : Side → List ℕ) → shares_left none shares ≡ shares
unfolding left_of
left_none shares = fun_ext go
  where
    go : (side : Side) → left_of false false shares side ≡ shares side
    go Remote = share_kept (shares Remote)
    go Local = share_kept (shares Local)

pub left_more : (side : Side) (t : Taken) (shares : Side → List ℕ) → change side (replicate 36 0) (shares_left t shares) ≡ shares_left (takes side t) shares
unfolding change same_side left_of
left_more side t shares = fun_ext (go side)
  where
    go : (a b : Side) → change a (replicate 36 0) (shares_left t shares) b ≡ shares_left (takes a t) shares b
    go Remote Remote = sym (share_taken (shares Remote))
    go Remote Local = refl
    go Local Remote = refl
    go Local Local = sym (share_taken (shares Local))

-- and their amounts
abbrev pub amounts_of : (Side → List ℕ) → Side → ℕ
amounts_of shares = λ side. share_amount (shares side)

pub amounts_more : (side : Side) (t : Taken) (shares : Side → List ℕ) → change side 0 (amounts_of (shares_left t shares)) ≡ amounts_of (shares_left (takes side t) shares)
unfolding change
amounts_more side t shares =
    fun_ext (λ other. go other (same_side side other))
    ∙ ap amounts_of (left_more side t shares)
  where
    go : (other : Side) (b : Bool) → cond b 0 (share_amount (shares_left t shares other)) ≡ share_amount (cond b (replicate 36 0) (shares_left t shares other))
    go other true = sym zero_share
    go other false = refl
