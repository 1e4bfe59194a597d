-- The two settlements; docs/SCOPE.md, "Later settlement" and "First settlement", with rows 7, 12 and 20 to 25 of its table.
use Rattle.std.specs.Prelude.{ℕ, zero, suc, ◌+◌, ◌*◌, Bool, false, cond, ◌||◌, List, [], ◌∷◌, length, get_or, take, replicate, eqb, leb, Option, Some, None, Result, Ok, Err}
use Rattle.std.specs.declared.ops.ControlFlow.TheVariants.{Break}
use Rattle.fiber_bytes.specs.Bytes.{part}
use Rattle.fiber_since.specs.declared.epoch.Epoch.{Epoch}
use Rattle.fiber_refusal.specs.declared.Refusal.{Refusal}
use Rattle.fiber_refusal.specs.declared.Refusal.TheVariants.{LengthZero, TooManyTlcs}
use Rattle.fiber_since.specs.Epoch.{scaled}
use Rattle.fiber_choice.specs.declared.kinds.Way.TheVariants as WayCase
use Rattle.fiber_choice.specs.declared.kinds.Choice.{Choice}
use Rattle.fiber_choice.specs.declared.kinds.Choice.TheVariants as ChoiceCase
use Rattle.fiber_choice.specs.declared.kinds.Stage.{Stage}
use Rattle.fiber_choice.specs.declared.kinds.Stage.TheVariants as StageCase
use Rattle.fiber_choice.specs.declared.kinds.Wait.{Wait}
use Rattle.fiber_choice.specs.declared.kinds.Wait.TheVariants as WaitCase
use Rattle.fiber_choice.specs.Answered.{Answer, waiting, refused, Ready, begins, stops_waiting, stops}
use Rattle.fiber_witness.specs.Witness.{record_len, member}
use Rattle.fiber_witness.specs.Update.{share_left, standing, Unlocked, fine, faulty, unlocked}
use Rattle.fiber_choice.specs.Entries.{same, same_lists, tracked_len, tracked_records}
use Rattle.fiber_choice.specs.Request.{Request, settlement_tlcs, tracked_tlcs, pairs}
use Rattle.fiber_choice.specs.FirstRecords.{hash_of, first_records, first_remote, first_local}
use Rattle.fiber_choice.specs.Walk.{Step, pends, our_share}
use Rattle.fiber_choice.specs.Verdicts.{dues_by, verdicts, walked}
use Rattle.fiber_choice.specs.Waits.{first_pending}
use Rattle.fiber_types.specs.Records.{Outcome, unwritten}
use Rattle.fiber_choice.specs.HandedOut.{handed_out}

-- the walk of a request's TLCs
abbrev pub walked_by : Request → Stage → Step
walked_by q stage = walked q.h q.for_remote q.time (settlement_tlcs q) (pairs q) stage (tracked_tlcs q)

-- and the first of them that is still pending
abbrev pub wait_by : Request → Stage → Wait
wait_by q stage = first_pending q.time 0 (verdicts q.h q.for_remote (settlement_tlcs q) (pairs q) stage 0 (tracked_tlcs q))

-- what is chosen is handed out, over shares, with the delay and the place that go with it; where nothing is chosen, the wait
unfoldable pub or_wait : Request → List ℕ → List ℕ → Bool → (Choice → Option Epoch) → (Choice → ℕ) → Wait → List ℕ → Step → Outcome Answer
or_wait q remote local last delay place wait out (Break c) =
    handed_out q.h q.args (tracked_tlcs q) (pairs q) remote local last c.choice c.key (delay c.choice) (place c.choice) out
or_wait q remote local last delay place wait out (pends pending) = unwritten (waiting wait) out

-- before the walk: a row, or what the walk comes to
unfoldable pub if_ready : Ready → List ℕ → Outcome Answer → Outcome Answer
if_ready (Ok go) out o = o
if_ready (Err why) out o = unwritten (Err why) out

-- ---- later settlement

-- 12; 20 unless the standing TLCs equal the tracked records one for one; 21 unless our slot's key hash is that of our settlement key
unfoldable pub later_ready : Request → List (List ℕ) → List ℕ → Ready
later_ready q tlcs ours =
    cond (leb (length tlcs) 254)
    (cond (same_lists tlcs (tracked_records (tracked_tlcs q)))
    (cond (same (take 20 ours) (hash_of q.settlement.local_key)) begins (stops_waiting WaitCase.NotOurShare))
    (stops_waiting WaitCase.ListDiffers))
    (stops TooManyTlcs)

-- the last settlement: the other slot's key hash is all zeros
unfoldable pub is_last : List ℕ → Bool
is_last other = same (take 20 other) (replicate 20 0)

-- our share in the last settlement, TLCs not looked at; else the walk
unfoldable pub later_choice : Request → Bool → Step
later_choice q last = cond last (our_share q.for_remote) (walked_by q StageCase.Later)

-- the places in the witness of the TLCs that stand, from place i on
unfoldable pub unsettled : List ℕ → ℕ → ℕ → List ℕ
unsettled settled i zero = []
unsettled settled i (suc n) =
    let next = unsettled settled (i + 1) n in
    cond (member i settled) next (i ∷ next)

-- the record is a part of the witness; places there are those before the witness's own unlocks
unfoldable pub later_place : ℕ → List ℕ → Choice → ℕ
later_place h firsts (ChoiceCase.Share side) = 0
later_place h firsts (ChoiceCase.Tlc place way) = 2 + get_or firsts place 0 * record_len h

-- of a state with these TLCs and shares, the TLCs being those at first places of the witness; no delay
unfoldable pub later_state : Request → List ℕ → List (List ℕ) → List ℕ → List ℕ → List ℕ → Outcome Answer
later_state q out tlcs firsts remote local =
    let ours = cond q.for_remote local remote in
    let last = is_last (cond q.for_remote remote local) in
    if_ready (later_ready q tlcs ours) out (or_wait q remote local last (λ choice. None) (later_place q.h firsts) (wait_by q StageCase.Later) out (later_choice q last))

-- a witness is given; update first
unfoldable pub later_of : Request → List ℕ → List ℕ → Unlocked → Outcome Answer
later_of q w out (fine n share_place t) =
    later_state q out (standing q.h w n t.settled) (unsettled t.settled 0 n)
    (share_left t.remote (part w share_place 36)) (share_left t.local (part w (share_place + 36) 36))
later_of q w out (faulty r) = unwritten (refused r) out

unfoldable pub later : Request → List ℕ → List ℕ → Outcome Answer
later q w out = later_of q w out (unlocked q.h w)

-- ---- first settlement

-- the scaled delay for a TLC, the full one for a share
unfoldable pub first_delay : Epoch → Epoch → Epoch → Choice → Epoch
first_delay third two_thirds full (ChoiceCase.Share side) = full
first_delay third two_thirds full (ChoiceCase.Tlc place WayCase.Timeout) = two_thirds
first_delay third two_thirds full (ChoiceCase.Tlc place (WayCase.Preimage pair_place)) = third

-- the record is a part of the tracked list
unfoldable pub first_place : ℕ → Choice → ℕ
first_place h (ChoiceCase.Share side) = 0
first_place h (ChoiceCase.Tlc place way) = place * tracked_len h + 33

unfoldable pub first_thirds : Request → List ℕ → Epoch → Result Epoch Refusal → Result Epoch Refusal → Outcome Answer
first_thirds q out full (Ok third) (Ok two_thirds) =
    let stage = StageCase.First (dues_by q.header third two_thirds full q.current) in
    or_wait q (first_remote q.for_remote q.settlement) (first_local q.for_remote q.settlement) false
    (λ choice. Some (first_delay third two_thirds full choice)) (first_place q.h) (wait_by q stage) out (walked_by q stage)
first_thirds q out full (Ok third) (Err r) = unwritten (refused r) out
first_thirds q out full (Err r) two_thirds = unwritten (refused r) out

unfoldable pub lengths_zero : Epoch → Epoch → Epoch → Bool
lengths_zero header current full = eqb header.length 0 || eqb current.length 0 || eqb full.length 0

-- 7 where an epoch's length is 0; 12; 20 unless the built records equal the tracked ones
unfoldable pub first_ready : Request → Epoch → Ready
first_ready q full =
    cond (lengths_zero q.header q.current full) (stops LengthZero)
    (cond (leb (length (settlement_tlcs q)) 254)
    (cond (same_lists (first_records q.h q.for_remote (settlement_tlcs q)) (tracked_records (tracked_tlcs q))) begins (stops_waiting WaitCase.ListDiffers))
    (stops TooManyTlcs))

unfoldable pub first : Request → Epoch → List ℕ → Outcome Answer
first q full out = if_ready (first_ready q full) out (first_thirds q out full (scaled full 1 3) (scaled full 2 3))
