-- What a host may rely on where a choice is handed out, about the update that follows it, and where a choice waits: a promise to a field, proved
-- as one statement. The definitions that they speak of are those that the contracts of the operations cite.
use Rattle.std.specs.Prelude.{ℕ, ◌+◌, ◌-◌, ◌≤◌, ◌<◌, ◌≡◌, Bool, true, false, cond, ◌&&◌, List, [], ◌∷◌, ◌++◌, length, get_or, replicate, Ok, Err}
use Rattle.std.proofs.lemmas.List.Edits.{sets}
use Rattle.fiber_bytes.specs.Bytes.{part}
use Rattle.fiber_since.specs.declared.epoch.Epoch.{Epoch}
use Rattle.fiber_since.specs.Epoch.{scaled}
use Rattle.fiber_types.specs.Records.{amount_at, unwritten}
use Rattle.fiber_witness.specs.Update.{share_left, standing, Unlocked, fine, faulty, unlocked, updated}
use Rattle.fiber_choice.specs.declared.kinds.Way.{Way}
use Rattle.fiber_choice.specs.declared.kinds.Way.TheVariants as WayCase
use Rattle.fiber_choice.specs.declared.kinds.Choice.{Choice}
use Rattle.fiber_choice.specs.declared.kinds.Choice.TheVariants as ChoiceCase
use Rattle.fiber_choice.specs.declared.kinds.Key.{Key}
use Rattle.fiber_choice.specs.declared.kinds.Key.TheVariants as KeyCase
use Rattle.fiber_choice.specs.declared.kinds.Stage.{Stage}
use Rattle.fiber_choice.specs.declared.kinds.Stage.TheVariants as StageCase
use Rattle.fiber_choice.specs.declared.kinds.Cause.{Cause}
use Rattle.fiber_choice.specs.declared.kinds.Wait.{Wait}
use Rattle.fiber_choice.specs.declared.kinds.Wait.TheVariants as WaitCase
use Rattle.fiber_choice.specs.declared.kinds.Decision.{Decision}
use Rattle.fiber_choice.specs.Request.{Request, settlement_tlcs, tracked_tlcs, pairs, delay_of}
use Rattle.fiber_choice.specs.declared.kinds.NoChoice.TheVariants as NoChoiceCase
use Rattle.fiber_choice.specs.Answered.{Answer, decided, waiting}
use Rattle.fiber_choice.specs.Entries.{same, tracked_records}
use Rattle.fiber_choice.specs.FirstRecords.{first_records, first_state}
use Rattle.fiber_choice.specs.Walk.{Step, pends, chooses, our_side, our_share, Verdict, step_of}
use Rattle.fiber_choice.specs.Verdicts.{dues_by, verdict, may_share}
use Rattle.fiber_choice.specs.Waits.{wait_number, wait_place, still, status_by}
use Rattle.fiber_choice.specs.Settlements.{walked_by, wait_by, is_last}
use Rattle.fiber_choice.specs.HandedOut.{choice_byte, new_args}
use Rattle.fiber_choice.specs.Choice.{choice_of, record_of}

-- a choice is handed out
abbrev pub Decides : Request → Bool → List ℕ → List ℕ → Decision → Type 0
Decides q is_later w out d = (choice_of q is_later w out).answer ≡ decided d

-- ---- the lists that a choice points into

-- the records of the TLCs before the unlock: those that stand after the witness's own unlocks, or those that are built
unfoldable pub tlcs_left : ℕ → List ℕ → Unlocked → List (List ℕ)
tlcs_left h w (fine n share_place t) = standing h w n t.settled
tlcs_left h w (faulty r) = []

abbrev pub tlcs_before : Request → Bool → List ℕ → List (List ℕ)
tlcs_before q is_later w = cond is_later (tlcs_left q.h w (unlocked q.h w)) (first_records q.h q.for_remote (settlement_tlcs q))

-- the key hash in the other slot of a state whose shares are at a place
abbrev pub other_key : Request → ℕ → List ℕ → List ℕ
other_key q shares state = part state (shares + cond q.for_remote 0 36) 20

-- the place of a key is among n settlement TLCs, that of a pair among m
abbrev pub KeyIn : ℕ → Key → Type 0
KeyIn n KeyCase.Settlement = Unit {0}
KeyIn n (KeyCase.Tlc place) = place < n

abbrev pub PairIn : ℕ → Choice → Type 0
PairIn m (ChoiceCase.Share side) = Unit {0}
PairIn m (ChoiceCase.Tlc place WayCase.Timeout) = Unit {0}
PairIn m (ChoiceCase.Tlc place (WayCase.Preimage pair_place)) = pair_place < m

-- ---- a later time

-- all that is asked the same but the time
abbrev pub at_time : Request → ℕ → Request
at_time q time = record {
  h = q.h;
  for_remote = q.for_remote;
  time = time;
  header = q.header;
  current = q.current;
  args = q.args;
  settlement = q.settlement;
  tracked = q.tracked;
  preimages = q.preimages;
}

-- before the TLC of a choice; every TLC is before a share
abbrev pub Before : ℕ → Choice → Type 0
Before place (ChoiceCase.Share side) = Unit {0}
Before place (ChoiceCase.Tlc chosen way) = place < chosen

-- What is chosen now, and what later: the same, or an earlier TLC by timeout. Nothing may become anything.
pub data Onward : Step → Step → Type 0 where
  waits : {pending : ℕ} {s : Step} → Onward (pends pending) s
  stays : {choice : Choice} {key : Key} → Onward (chooses choice key) (chooses choice key)
  sooner : {choice : Choice} {key : Key} {place : ℕ} {other : Key} → Before place choice
      → Onward (chooses choice key) (chooses (ChoiceCase.Tlc place WayCase.Timeout) other)

-- ---- the walk of a request

-- which settlement it is; a first one with the parts of its delay that are due
pub data IsStage (q : Request) : Bool → Stage → Type 0 where
  later_stage : IsStage q true StageCase.Later
  first_stage : {full third two_thirds : Epoch} → delay_of q.args ≡ Ok full → scaled full 1 3 ≡ Ok third → scaled full 2 3 ≡ Ok two_thirds
      → IsStage q false (StageCase.First (dues_by q.header third two_thirds full q.current))

-- the verdict of the TLC at a place, and the walk's step there, with so many pending
abbrev pub verdict_of : Request → Stage → ℕ → Verdict
verdict_of q stage place = verdict q.h q.for_remote (settlement_tlcs q) (pairs q) stage place (get_or (tracked_tlcs q) place [])

abbrev pub step_at : Request → Stage → ℕ → ℕ → Step
step_at q stage place count = step_of q.time place count (verdict_of q stage place)

-- whether it is the last settlement, by the state that the witness's own unlocks leave
unfoldable pub last_left : Bool → List ℕ → Unlocked → Bool
last_left for_remote w (fine n share_place t) =
    is_last (cond for_remote (share_left t.remote (part w share_place 36)) (share_left t.local (part w (share_place + 36) 36)))
last_left for_remote w (faulty r) = false

-- what is named: our share in the last settlement, else what the walk names
unfoldable pub named : Request → Bool → List ℕ → Stage → Step
named q is_later w stage = cond (is_later && last_left q.for_remote w (unlocked q.h w)) (our_share q.for_remote) (walked_by q stage)

-- ---- the promises of a choice

-- `bytes` is the output as the choice leaves it: at its front the unlock, the state before it and the new args, one behind the other.
pub record Promised (q : Request) (is_later : Bool) (w out bytes : List ℕ) (d : Decision) : Type 0 where
  -- a TLC's unlock has byte 253 or below: it is never that of a share
  pub never_above_253 : (place : ℕ) (way : Way) → d.choice ≡ ChoiceCase.Tlc place way → choice_byte d.choice ≤ 253
  -- a TLC that is chosen is one of those before the unlock; the record given back is its own, byte for byte, and the amount is that record's
  pub chosen_stands : (place : ℕ) (way : Way) → d.choice ≡ ChoiceCase.Tlc place way
      → (place < length (tlcs_before q is_later w))
      × ((record_of is_later (decided d) w q.tracked ≡ get_or (tlcs_before q is_later w) place [])
      × (d.amount ≡ amount_at (get_or (tlcs_before q is_later w) place []) 1))
  -- It is the last settlement exactly if it is a later one and the other slot's key hash in the state that is handed out is zeros. Our share is
  -- chosen then, whatever TLCs stand: the reference makes no successor cell and pays out the whole capacity.
  pub last_is : (shares : ℕ) → shares + 72 ≡ d.state_len → d.last ≡ (is_later && same (other_key q shares (part bytes d.unlock_len d.state_len)) (replicate 20 0))
  pub last_ours : d.last ≡ true → d.choice ≡ ChoiceCase.Share (our_side q.for_remote)
  -- in any other settlement it is what the walk names
  pub walk_names : d.last ≡ false → (stage : Stage) × (IsStage q is_later stage × (walked_by q stage ≡ chooses d.choice d.key))
  -- key and pair lie in the lists that the host lent
  pub in_their_lists : KeyIn (length (settlement_tlcs q)) d.key × PairIn (length (pairs q)) d.choice
  -- the update takes the unlock over the state, whatever the count byte in front; an output as long as the state has room for what it
  -- leaves; and the new args are those of what it leaves, so they hash it
  pub left : List ℕ
  pub room : length left ≤ d.state_len
  pub updates : (count : ℕ) (into : List ℕ) → length left ≤ length into
      → updated q.h (count ∷ (part bytes d.unlock_len d.state_len ++ part bytes 0 d.unlock_len)) into
      ≡ record { answer = Ok (length left); bytes = sets into 0 left }
  pub hashed : part bytes (d.unlock_len + d.state_len) d.args_len ≡ new_args q.args left
  -- the state of a later settlement is what the update of its witness leaves
  pub state_of_witness : is_later ≡ true → (into : List ℕ) → d.state_len ≤ length into
      → updated q.h w into ≡ record { answer = Ok d.state_len; bytes = sets into 0 (part bytes d.unlock_len d.state_len) }
  -- that of a first settlement is the first state of the settlement data
  pub state_of_data : is_later ≡ false → part bytes d.unlock_len d.state_len ≡ first_state q.h q.for_remote q.settlement
  -- at every later time a choice is handed out to an output of the same length: the same with the same key, or an earlier TLC by timeout. No
  -- later time turns it into a wait or a refusal, for want of room neither. All else is the same, the epochs too.
  pub later_time : (time : ℕ) → q.time ≤ time
      → (d' : Decision)
      × (Decides (at_time q time) is_later w out d' × Onward (chooses d.choice d.key) (chooses d'.choice d'.key))

abbrev pub Promises : Type 0
Promises =
    (q : Request) (is_later : Bool) (w out : List ℕ) (d : Decision)
    → Decides q is_later w out d
    → Promised q is_later w out (choice_of q is_later w out).bytes d

-- ---- the promises of a wait

-- a choice waits, by a row behind 20 and 21
abbrev pub WaitsFor : Request → Bool → List ℕ → List ℕ → Wait → Type 0
WaitsFor q is_later w out wait = ((choice_of q is_later w out).answer ≡ waiting wait) × (22 ≤ wait_number wait)

pub record Waiting (q : Request) (is_later : Bool) (w : List ℕ) (wait : Wait) : Type 0 where
  pub stage : Stage
  pub stage_is : IsStage q is_later stage
  -- the walk names nothing: so many are pending
  pub pending : ℕ
  pub names_nothing : walked_by q stage ≡ pends pending
  -- with every output, which stays as it was
  pub any_output : (out : List ℕ) → choice_of q is_later w out ≡ unwritten (waiting wait) out
  -- 22: it is a first settlement without TLCs whose full delay isn't due
  pub without_tlcs : wait ≡ WaitCase.DelayNotDue → (is_later ≡ false) × ((tlcs_before q is_later w ≡ []) × (may_share stage ≡ false))
  -- Else the TLC that is named stands, and those that stand are the tracked ones, place by place. It is pending for the cause that is said, and the place
  -- is the one that is answered. By the walk's own count it is pending, and pending fell for each TLC before it.
  pub standing_tracked : tlcs_before q is_later w ≡ tracked_records (tracked_tlcs q)
  pub named_stands : (place : ℕ) (cause : Cause) → wait ≡ WaitCase.Tlc place cause → place < length (tlcs_before q is_later w)
  pub named_cause : (place : ℕ) (cause : Cause) → wait ≡ WaitCase.Tlc place cause → (wait_place wait ≡ place) × (status_by q.time (verdict_of q stage place) ≡ still cause)
  pub named_pends : (place : ℕ) (cause : Cause) → wait ≡ WaitCase.Tlc place cause → (count : ℕ) → step_at q stage place count ≡ pends count
  pub fell_before : (place : ℕ) (cause : Cause) → wait ≡ WaitCase.Tlc place cause → (i : ℕ) → i < place → (count : ℕ) → step_at q stage i count ≡ pends (count - 1)

abbrev pub WaitPromises : Type 0
WaitPromises = (q : Request) (is_later : Bool) (w out : List ℕ) (wait : Wait) → WaitsFor q is_later w out wait → Waiting q is_later w wait

-- ---- one of 22 to 25 exactly where nothing is named

-- an answer that no row before the walk gives
abbrev pub FromWalk : Answer → Type 0
FromWalk (Ok d) = Unit {0}
FromWalk (Err (NoChoiceCase.Wait wait)) = 22 ≤ wait_number wait
FromWalk (Err (NoChoiceCase.Refused r)) = ⊥

-- For every output: where nothing is named the answer is the wait, by one of 22 to 25, and where something is named it is none.
pub record Exactly (q : Request) (is_later : Bool) (w : List ℕ) (stage : Stage) : Type 0 where
  pub waits : (pending : ℕ) → named q is_later w stage ≡ pends pending → (out : List ℕ) → choice_of q is_later w out ≡ unwritten (waiting (wait_by q stage)) out
  pub numbers : (22 ≤ wait_number (wait_by q stage)) × (wait_number (wait_by q stage) ≤ 25)
  pub waits_not : (choice : Choice) (key : Key) → named q is_later w stage ≡ chooses choice key → (out : List ℕ) (wait : Wait)
      → (choice_of q is_later w out).answer ≡ waiting wait → ⊥

-- no row before the walk applies: some output is answered from it
abbrev pub WaitsExactly : Type 0
WaitsExactly =
    (q : Request) (is_later : Bool) (w out : List ℕ)
    → FromWalk (choice_of q is_later w out).answer
    → (stage : Stage) × (IsStage q is_later stage × Exactly q is_later w stage)
