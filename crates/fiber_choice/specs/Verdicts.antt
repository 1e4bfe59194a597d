-- The verdict of each TLC; docs/SCOPE.md, "The choice", first the later settlement's bullets, then the first one's.
use Rattle.std.specs.Prelude.{ℕ, ◌+◌, Bool, true, cond, ◌&&◌, List, [], ◌∷◌, length, get_or, take, eqb, Option, Some, None}
use Rattle.fiber_since.specs.declared.epoch.Epoch.{Epoch}
use Rattle.fiber_since.specs.Since.{absolute_expiry}
use Rattle.fiber_since.specs.Epoch.{due}
use Rattle.fiber_types.specs.Records.{is_offered, tlc_at, payment_hash, key_hash_in}
use Rattle.fiber_choice.specs.declared.kinds.Dues.{Dues}
use Rattle.fiber_choice.specs.declared.kinds.Cause.TheVariants as CauseCase
use Rattle.fiber_choice.specs.declared.kinds.Stage.{Stage}
use Rattle.fiber_choice.specs.declared.kinds.Stage.TheVariants as StageCase
use Rattle.fiber_choice.specs.Entries.{same, find_first, received, hash, expiry_ms, local_key, tracked_record}
use Rattle.fiber_choice.specs.FirstRecords.{hash_of}
use Rattle.fiber_choice.specs.Preimages.{counting_pair}
use Rattle.fiber_choice.specs.Walk.{Step, timeout_kind, Verdict, passed, timeout, ready, falls, walk, or_share}

-- ---- later settlement

-- Its key is the first settlement TLC whose hash begins with its h bytes and whose local key hashes to our slot's hash in the TLC.
unfoldable pub is_key : List ℕ → List ℕ → List ℕ → Bool
is_key start ours t = same (take (length start) (hash t)) start && same (hash_of (local_key t)) ours

-- of a record; our slot is local with for_remote
unfoldable pub key_of : ℕ → Bool → List (List ℕ) → List ℕ → Option ℕ
key_of h for_remote tlcs r = find_first (is_key (payment_hash h r) (key_hash_in h for_remote r)) 0 tlcs

-- preimage kind, with its key: chosen with a counting preimage; without one, pending falls if the full delay is due and time > expiry
unfoldable pub by_pair : Bool → ℕ → ℕ → Option ℕ → Verdict
by_pair full ms key (Some pair_place) = ready pair_place key
by_pair full ms key None = cond full (falls ms) (passed CauseCase.NoPreimage)

-- without a key passed over; no delay is left to wait for
unfoldable pub by_key : Bool → ℕ → Option ℕ → Option ℕ → Verdict
by_key is_timeout ms found_pair (Some key) = cond is_timeout (timeout ms key) (by_pair true ms key found_pair)
by_key is_timeout ms found_pair None = passed CauseCase.NoKey

-- without an absolute timestamp expiry passed over
unfoldable pub by_expiry : Bool → Option ℕ → Option ℕ → Option ℕ → Verdict
by_expiry is_timeout found_pair found_key (Some ms) = by_key is_timeout ms found_pair found_key
by_expiry is_timeout found_pair found_key None = passed CauseCase.NoExpiry

-- a tracked TLC, among the settlement TLCs and the stored preimages
unfoldable pub later_verdict : ℕ → Bool → List (List ℕ) → List (List ℕ) → List ℕ → Verdict
later_verdict h for_remote tlcs ps t =
    let r = tracked_record t in
    by_expiry (timeout_kind for_remote (is_offered (tlc_at h r 0))) (counting_pair ps t) (key_of h for_remote tlcs r) (absolute_expiry (tlc_at h r 0).expiry)

-- ---- first settlement

-- which of 1/3, 2/3 and all of the delay are due
unfoldable pub dues_by : Epoch → Epoch → Epoch → Epoch → Epoch → Dues
dues_by header third two_thirds full current =
    record { third = due header third current; two_thirds = due header two_thirds current; full = due header full current }

-- A settlement TLC and its tracked one: 2/3 must be due for the timeout kind, 1/3 for the preimage kind. The expiry is the millisecond
-- value; the key is the TLC's own.
unfoldable pub first_verdict : Bool → List (List ℕ) → Dues → ℕ → List ℕ → List ℕ → Verdict
first_verdict for_remote ps d place s t =
    cond (timeout_kind for_remote (eqb (received s) 0))
    (cond d.two_thirds (timeout (expiry_ms s) place) (passed CauseCase.NotDue))
    (cond d.third (by_pair d.full (expiry_ms s) place (counting_pair ps t)) (passed CauseCase.NotDue))

-- ---- both

unfoldable pub verdict : ℕ → Bool → List (List ℕ) → List (List ℕ) → Stage → ℕ → List ℕ → Verdict
verdict h for_remote tlcs ps StageCase.Later place t = later_verdict h for_remote tlcs ps t
verdict h for_remote tlcs ps (StageCase.First d) place t = first_verdict for_remote ps d place (get_or tlcs place []) t

-- of the TLCs from a place on
unfoldable pub verdicts : ℕ → Bool → List (List ℕ) → List (List ℕ) → Stage → ℕ → List (List ℕ) → List Verdict
verdicts h for_remote tlcs ps stage place [] = []
verdicts h for_remote tlcs ps stage place (t ∷ ts) = verdict h for_remote tlcs ps stage place t ∷ verdicts h for_remote tlcs ps stage (place + 1) ts

-- our share: in a first settlement if the full delay is due
unfoldable pub may_share : Stage → Bool
may_share StageCase.Later = true
may_share (StageCase.First d) = d.full

-- the walk, with all TLCs pending
unfoldable pub walked : ℕ → Bool → ℕ → List (List ℕ) → List (List ℕ) → Stage → List (List ℕ) → Step
walked h for_remote time tlcs ps stage ts =
    or_share for_remote (may_share stage) (walk time 0 (length ts) (verdicts h for_remote tlcs ps stage 0 ts))
