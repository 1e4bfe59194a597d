-- A payment's amount is the one that the record's contract and the choice name (Records.antt).
-- Assumes nothing.
use Prim.Native.Nat.{ℕ, ◌≤◌}
use mathlib.Core.Path.{◌≡◌, sym}
use mathlib.Core.List.{List}
use lib.ListN.{length}
use Rattle.fiber_types.specs.Records.{amount_of, amount_at}
use Rattle.fiber_types.proofs.RoundTrips.{amount_is}
use Rattle.book.specs.Book.{tlc_amount, share_amount}

pub tlc_amount_lem : (r : List ℕ) → 17 ≤ length r → tlc_amount r ≡ amount_of (amount_at r 1)
unfolding tlc_amount
tlc_amount_lem r f = sym (amount_is r 1 f)

pub share_amount_lem : (s : List ℕ) → 36 ≤ length s → share_amount s ≡ amount_of (amount_at s 20)
unfolding share_amount
share_amount_lem s f = sym (amount_is s 20 f)
