-- The promises of specs/Promises.antt. Where a choice is handed out, at whatever time, one step over the same TLCs and shares decides, in
-- either settlement (Begun); what is handed out is that step's (Handed). All promises are read off these two.
-- Assumes nothing.
use Prim.Native.Nat.{ℕ, ◌+◌, ◌-◌, ◌*◌, ◌/◌, ◌≤◌, ◌<◌}
use native.Mathlib.Nat.{div-mul-le_self}
use native.Mathlib.Omega.{arith}
use mathlib.Core.Path.{◌≡◌, refl, sym, ap, subst, ◌∙◌}
use mathlib.Core.Bool.{Bool, true, false, cond, ◌&&◌, false≢true}
use mathlib.Core.List.{List, [], ◌∷◌, ◌++◌, flatten, append_assoc}
use lib.Dec.{eqb, ltb, leb}
use lib.ListN.{length, get_or, take, drop, replicate, length-append}
use lib.Seq.{sets, sets-eq, drop-drop, take_at, drop_at}
use borrow.Author.Tests.{lt-ltb, ltb-true, le-leb, leb-true, eq-eqb, eqb-true}
use Rattle.std.specs.Prelude.{Option, Some, None, Result, Ok, Err}
use Rattle.std.specs.declared.ops.ControlFlow.TheVariants.{Break}
use Rattle.fiber_refusal.specs.declared.Refusal.{Refusal}
use Rattle.fiber_choice.specs.declared.kinds.NoChoice.TheVariants as NoChoiceCase
use Rattle.fiber_choice.specs.Answered.{Answer, decided, waiting, Ready, begins}
use Rattle.fiber_bytes.specs.Bytes.{part}
use Rattle.fiber_bytes.proofs.BytesLaws.{part_length, part_part}
use Rattle.fiber_bytes.proofs.CaseLaws.{by_test, by_each, by_test₂}
use Rattle.fiber_since.specs.declared.epoch.Epoch.{Epoch}
use Rattle.fiber_since.specs.Epoch.{scaled}
use Rattle.fiber_types.specs.declared.tlc.Amount.{Amount}
use Rattle.fiber_types.specs.HashLen.{valid_hash_len}
use Rattle.fiber_types.specs.Records.{amount_at, outcome}
use Rattle.fiber_types.proofs.RecordsLaws.{unlock_bytes_length, outcome_room, at_least}
use Rattle.fiber_witness.specs.Unlocks.{unlocks_in}
use Rattle.fiber_witness.specs.Witness.{record_len, state_bytes}
use Rattle.fiber_witness.specs.Update.{Taken, share_left, standing, state_left, Unlocked, fine, faulty, unlocked, written, updated, state_after}
use Rattle.fiber_witness.proofs.WitnessLaws.{Even, even_records}
use Rattle.fiber_witness.proofs.StateLaws.{Sound}
use Rattle.fiber_witness.proofs.UnlocksLaws.{unlocks_one}
use Rattle.fiber_witness.proofs.UpdateLaws.{left_length, unlocked_shares}
use Rattle.fiber_choice.specs.declared.kinds.Side.TheVariants as SideCase
use Rattle.fiber_choice.specs.declared.kinds.Way.{Way}
use Rattle.fiber_choice.specs.declared.kinds.Way.TheVariants as WayCase
use Rattle.fiber_choice.specs.declared.kinds.Choice.{Choice}
use Rattle.fiber_choice.specs.declared.kinds.Choice.TheVariants as ChoiceCase
use Rattle.fiber_choice.specs.declared.kinds.Key.{Key}
use Rattle.fiber_choice.specs.declared.kinds.Key.TheVariants as KeyCase
use Rattle.fiber_choice.specs.declared.kinds.Wait.{Wait}
use Rattle.fiber_choice.specs.declared.kinds.Stage.{Stage}
use Rattle.fiber_choice.specs.declared.kinds.Stage.TheVariants as StageCase
use Rattle.fiber_choice.specs.declared.kinds.Decision.{Decision}
use Rattle.fiber_choice.specs.Entries.{same, entries, tracked_len, tracked_records, pair_len}
use Rattle.fiber_choice.specs.Request.{Request, settlement_tlcs, tracked_tlcs, pairs, valid_request, delay_of}
use Rattle.fiber_choice.specs.FirstRecords.{first_records, first_remote, first_local, first_state}
use Rattle.fiber_choice.specs.Walk.{Step, pends, chooses, our_share, Verdict, passed, timeout, ready, falls, step_of, onward, walk, or_share, our_side}
use Rattle.fiber_choice.specs.Verdicts.{dues_by, verdicts, may_share, walked}
use Rattle.fiber_types.specs.Records.{Outcome}
use Rattle.fiber_choice.specs.HandedOut.{choice_byte, unlock_of, takes, new_args, choice_amount, record_size, handed_out}
use Rattle.fiber_choice.specs.Waits.{wait_place}
use Rattle.fiber_choice.specs.Settlements.{walked_by, wait_by, or_wait, if_ready, later_ready, is_last, later_choice, unsettled, later_place, later_state, later_of, later, first_delay, first_place, first_thirds, first_ready, first}
use Rattle.fiber_choice.specs.Choice.{after_delay, choice_of, record_part, record_of}
use Rattle.fiber_choice.specs.inner.Plan.{Within, Below}
use Rattle.fiber_choice.specs.Promises.{IsStage, later_stage, first_stage, last_left, named, Waiting, WaitPromises, FromWalk, Exactly, WaitsExactly, Decides, tlcs_left, tlcs_before, KeyIn, PairIn, Before, Onward, waits, stays, sooner, at_time, Promised, Promises, other_key}
use Rattle.fiber_choice.proofs.EntriesLaws.{tracked_length, lists_equal}
use Rattle.fiber_choice.proofs.HandedLaws.{tracked_size, tlcs_length, tlc_at_lem, each_tracked, after_small, unlock_least, new_lengths, unlock_whole, unlock_accepted}
use Rattle.fiber_choice.proofs.FirstRecordsLaws.{share_by_length}
use Rattle.fiber_choice.proofs.WaitsLaws.{Unchosen, pending_numbers}
use Rattle.fiber_choice.proofs.WalkLaws.{StepWithin, waits_without, waits_stands, waits_cause, waits_pends, waits_fell}
use Rattle.fiber_choice.proofs.SettlementsLaws.{only_unchosen, Early, later_ready_early, first_ready_early, choice_walk, later_ready_lem, choice_within, first_ready_lem, first_built, first_within, standing_at, choice_share}

-- ---- a later time, one step

-- what was true is true
abbrev Holds : Bool → Bool → Type 0
Holds x y = x ≡ true → y ≡ true

by_holds : (P : Bool → Bool → Type 0) (x y : Bool) → Holds x y → P true true → P false true → P false false → P x y
by_holds P true true f a b c = a
by_holds P true false f a b c = absurd (false≢true (f refl))
by_holds P false true f a b c = b
by_holds P false false f a b c = c

-- A step at a place, and the same step later: a choice is the same; without one no more are pending than before, if no more were, or the
-- TLC is taken by timeout.
abbrev Steps : ℕ → ℕ → ℕ → Step → Step → Type 0
Steps place p p' (pends left) (pends left') = p' ≤ p → left' ≤ left
Steps place p p' (pends left) (Break c) = c.choice ≡ ChoiceCase.Tlc place WayCase.Timeout
Steps place p p' (Break c) s = s ≡ Break c

module _ (time time' : ℕ) (t : time ≤ time') where
  -- what has expired stays so
  expired : (ms : ℕ) → Holds (ltb ms time) (ltb ms time')
  expired ms e = lt-ltb ms time' (omega (arith, ltb-true ms time e))

  step_later : (place p p' : ℕ) (v : Verdict) → Steps place p p' (step_of time place p v) (step_of time' place p' v)
  unfolding step_of
  step_later place p p' (passed why) = λ g. g
  step_later place p p' (timeout ms key) =
      let taken : Step = chooses (ChoiceCase.Tlc place WayCase.Timeout) (KeyCase.Tlc key) in
      by_holds (λ x y. Steps place p p' (cond x taken (pends p)) (cond y taken (pends p'))) (ltb ms time) (ltb ms time') (expired ms)
      refl refl (λ g. g)
  step_later place p p' (ready pair_place key) = refl
  step_later place p p' (falls ms) =
      by_holds (λ x y. p' ≤ p → cond y (p' - 1) p' ≤ cond x (p - 1) p) (ltb ms time) (ltb ms time') (expired ms)
      (λ g. omega arith) (λ g. omega arith) (λ g. g)

-- A TLC that its step chooses is chosen by it at every later time as well, in the same way and with the same key, however many are pending.
pub later_time_step : (time time' place p p' : ℕ) (v : Verdict) (choice : Choice) (key : Key)
    → time ≤ time' → step_of time place p v ≡ chooses choice key → step_of time' place p' v ≡ chooses choice key
later_time_step time time' place p p' v choice key t e = subst (λ (s : Step). Steps place p p' s (step_of time' place p' v)) e (step_later time time' t place p p' v)

-- ---- the walk

-- a TLC that is chosen is behind a place
abbrev Behind : ℕ → Step → Type 0
Behind place (pends left) = Unit {0}
Behind place (Break c) = Before place c.choice

-- an earlier TLC by timeout, whatever is chosen behind it
sooner_than : (place : ℕ) (key : Key) (s : Step) → Behind place s → Onward s (chooses (ChoiceCase.Tlc place WayCase.Timeout) key)
sooner_than place key (pends left) f = waits
sooner_than place key (Break c) f = sooner f

module _ (for_remote may : Bool) where
  -- from a place on, our share behind the last
  abbrev rest : ℕ → ℕ → List Verdict → ℕ → Step
  rest time place vs p = or_share for_remote may (walk time place p vs)

  -- it chooses at that place or behind it
  rest_behind : (time place : ℕ) (vs : List Verdict) (k p : ℕ) → place < k → Behind place (rest time k vs p)
  unfolding walk onward or_share step_of
  rest_behind time place [] k p g = by_each (Behind place) (eqb p 0 && may) _ _ tt tt
  rest_behind time place (v ∷ vs) k p g = go (step_of time k p v) (one v) (λ l. rest_behind time place vs (k + 1) l (omega arith))
    where
      one : (v : Verdict) → Behind place (step_of time k p v)
      one (passed why) = tt
      one (timeout ms key) = by_each (Behind place) (ltb ms time) _ _ g tt
      one (ready pair_place key) = g
      one (falls ms) = tt

      go : (s : Step) → Behind place s → ((l : ℕ) → Behind place (rest time (k + 1) vs l)) → Behind place (or_share for_remote may (onward s (λ l. walk time (k + 1) l vs)))
      go (pends l) f r = r l
      go (Break c) f r = f

  rest_later : (time time' : ℕ) → time ≤ time' → (vs : List Verdict) (place p p' : ℕ) → p' ≤ p → Onward (rest time place vs p) (rest time' place vs p')
  unfolding walk onward or_share
  rest_later time time' t [] place p p' g =
      by_holds (λ x y. Onward (cond (x && may) (our_share for_remote) (pends p)) (cond (y && may) (our_share for_remote) (pends p'))) (eqb p 0) (eqb p' 0)
      (λ e. eq-eqb p' 0 (omega (arith, eqb-true p 0 e)))
      (by_test₂ Onward may _ _ _ _ (λ _. stays) (λ _. waits)) waits waits
  rest_later time time' t (v ∷ vs) place p p' g =
      go (step_of time place p v) (step_of time' place p' v) (step_later time time' t place p p' v)
      (λ l l' f. rest_later time time' t vs (place + 1) l l' f)
    where
      go : (x y : Step) → Steps place p p' x y → ((l l' : ℕ) → l' ≤ l → Onward (rest time (place + 1) vs l) (rest time' (place + 1) vs l'))
          → Onward (or_share for_remote may (onward x (λ l. walk time (place + 1) l vs))) (or_share for_remote may (onward y (λ l. walk time' (place + 1) l vs)))
      go (pends l) (pends l') s r = r l l' (s g)
      go (pends l) (Break c) s r = rw s (sooner_than place c.key (rest time (place + 1) vs l) (rest_behind time place vs (place + 1) l (omega arith)))
      go (Break c) y s r = rw s stays

-- A later time never turns a choice of the walk into a wait, in either settlement; in a first one the same parts of the delay are due.
pub later_time_walk : (h : ℕ) (for_remote : Bool) (time time' : ℕ) (tlcs ps : List (List ℕ)) (stage : Stage) (ts : List (List ℕ))
    → time ≤ time' → Onward (walked h for_remote time tlcs ps stage ts) (walked h for_remote time' tlcs ps stage ts)
unfolding walked
later_time_walk h for_remote time time' tlcs ps stage ts t =
    rest_later for_remote (may_share stage) time time' t (verdicts h for_remote tlcs ps stage 0 ts) 0 (length ts) (length ts) (omega arith)

-- ---- the walk may begin

-- the update of the witness leaves this state, or the settlement data is written so
abbrev States : Request → Bool → List ℕ → List ℕ → Type 0
States q true w s = (into : List ℕ) → length s ≤ length into → updated q.h w into ≡ record { answer = Ok (length s); bytes = sets into 0 s }
States q false w s = s ≡ first_state q.h q.for_remote q.settlement

-- No row before the walk applies: at every time one step decides, over the same TLCs and shares, and what it chooses is handed out.
record Begun (q : Request) (is_later : Bool) (w : List ℕ) : Type 0 where
  remote : List ℕ
  local : List ℕ
  last : Bool
  delay : Choice → Option Epoch
  place : Choice → ℕ
  stage : Stage
  stage_is : IsStage q is_later stage
  step : ℕ → Step
  comes : (time : ℕ) (out : List ℕ) → choice_of (at_time q time) is_later w out ≡ or_wait (at_time q time) remote local last delay place (wait_by (at_time q time) stage) out (step time)
  walks : last ≡ false → (time : ℕ) → step time ≡ walked_by (at_time q time) stage
  names : step q.time ≡ named q is_later w stage
  within : (time : ℕ) → StepWithin (length (tracked_tlcs q)) (length (settlement_tlcs q)) (length (pairs q)) (step time)
  moves : (time time' : ℕ) → time ≤ time' → Onward (step time) (step time')
  lasts : last ≡ (is_later && is_last (cond q.for_remote remote local))
  shares : last ≡ true → (time : ℕ) → step time ≡ our_share q.for_remote
  hash : valid_hash_len q.h ≡ true
  few : length (tracked_tlcs q) ≤ 254
  tlcs : tlcs_before q is_later w ≡ tracked_records (tracked_tlcs q)
  remotes : length remote ≡ 36
  locals : length local ≡ 36
  states : States q is_later w (state_bytes (tracked_records (tracked_tlcs q)) remote local)
  recorded : (i : ℕ) (way : Way) → i < length (tlcs_before q is_later w)
      → record_part is_later (place (ChoiceCase.Tlc i way)) (record_len q.h) w q.tracked ≡ get_or (tlcs_before q is_later w) i []

-- what a valid request asks with does not depend on the time
valid_at : (q : Request) (time : ℕ) → valid_request q ≡ true → valid_request (at_time q time) ≡ true
unfolding valid_request
valid_at q time e = e

valid_hash : (q : Request) → valid_request q ≡ true → valid_hash_len q.h ≡ true
unfolding valid_request
valid_hash q v = go (valid_hash_len q.h) refl
  where
    go : (b : Bool) → valid_hash_len q.h ≡ b → valid_hash_len q.h ≡ true
    go true e = e
    go false e = absurd (false≢true (rw e at v))

-- ---- in a later settlement

module _ (q : Request) (w : List ℕ) (n share_place : ℕ) (t : Taken) where
  -- what the witness's own unlocks leave
  abbrev stand : List (List ℕ)
  stand = standing q.h w n t.settled

  abbrev remote_left : List ℕ
  remote_left = share_left t.remote (part w share_place 36)

  abbrev local_left : List ℕ
  local_left = share_left t.local (part w (share_place + 36) 36)

  -- our share, and the other one
  abbrev ours : List ℕ
  ours = cond q.for_remote local_left remote_left

  abbrev other : List ℕ
  other = cond q.for_remote remote_left local_left

  module _ (v : valid_request q ≡ true) (full : Epoch) (f : delay_of q.args ≡ Ok full) (u : unlocked q.h w ≡ fine n share_place t) (r : later_ready q stand ours ≡ begins) where
    stand_left : tlcs_before q true w ≡ stand
    unfolding tlcs_left
    stand_left = rw u

    stand_tracked : stand ≡ tracked_records (tracked_tlcs q)
    stand_tracked = lists_equal stand _ (later_ready_lem q stand ours r).1

    stand_few : length (tracked_tlcs q) ≤ 254
    stand_few = omega (arith, (later_ready_lem q stand ours r).0, ap length stand_tracked, tracked_length (tracked_tlcs q))

    later_moves : (time time' : ℕ) → time ≤ time' → Onward (later_choice (at_time q time) (is_last other)) (later_choice (at_time q time') (is_last other))
    unfolding later_choice
    later_moves time time' g =
        by_test₂ Onward (is_last other) _ _ _ _ (λ _. stays)
        (λ _. later_time_walk q.h q.for_remote time time' (settlement_tlcs q) (pairs q) StageCase.Later (tracked_tlcs q) g)

    later_states : States q true w (state_bytes (tracked_records (tracked_tlcs q)) remote_left local_left)
    unfolding updated written state_left state_after standing
    later_states into g =
        rw u
        (ap (λ (rs : List (List ℕ)). outcome true (state_bytes rs remote_left local_left) into) stand_tracked
        ∙ outcome_room (state_bytes (tracked_records (tracked_tlcs q)) remote_left local_left) into g)

    later_record : (i : ℕ) (way : Way) → i < length (tlcs_before q true w)
        → record_part true (later_place q.h (unsettled t.settled 0 n) (ChoiceCase.Tlc i way)) (record_len q.h) w q.tracked ≡ get_or (tlcs_before q true w) i []
    unfolding record_part later_place
    later_record i way g =
        let begins : later_place q.h (unsettled t.settled 0 n) (ChoiceCase.Tlc i way) ≡ 2 + get_or (unsettled t.settled 0 n) i 0 * record_len q.h = omega arith in
        ap (λ (k : ℕ). part w k (record_len q.h)) begins ∙ rw stand_left (standing_at q.h w n t.settled i (rw stand_left at g))

    shares_there : share_place + 72 ≤ length w
    shares_there = rw u at (unlocked_shares q.h w)

    later_begun : Begun q true w
    unfolding choice_of after_delay later later_of later_state later_ready if_ready later_choice named last_left
    later_begun = record {
      remote = remote_left;
      local = local_left;
      last = is_last other;
      delay = λ c. None;
      place = later_place q.h (unsettled t.settled 0 n);
      stage = StageCase.Later;
      stage_is = later_stage;
      step = λ time. later_choice (at_time q time) (is_last other);
      comes = λ time out. rw (valid_at q time v, f, u, r);
      walks = λ e time. sym (choice_walk (at_time q time) (is_last other) e);
      names = rw u;
      within = λ time. choice_within (at_time q time) (is_last other);
      moves = later_moves;
      lasts = refl;
      shares = λ e time. sym (choice_share (at_time q time) (is_last other) e);
      hash = valid_hash q v;
      few = stand_few;
      tlcs = stand_left ∙ stand_tracked;
      remotes = left_length t.remote (part w share_place 36) (part_length w share_place 36 (omega (arith, shares_there)));
      locals = left_length t.local (part w (share_place + 36) 36) (part_length w (share_place + 36) 36 (omega (arith, shares_there)));
      states = later_states;
      recorded = later_record;
    }

-- ---- in a first settlement

module _ (q : Request) (w : List ℕ) (v : valid_request q ≡ true) (full : Epoch) (f : delay_of q.args ≡ Ok full)
    (third two : Epoch) (x : scaled full 1 3 ≡ Ok third) (y : scaled full 2 3 ≡ Ok two) (r : first_ready q full ≡ begins) where
  abbrev stage : Stage
  stage = StageCase.First (dues_by q.header third two full q.current)

  built_tracked : first_records q.h q.for_remote (settlement_tlcs q) ≡ tracked_records (tracked_tlcs q)
  built_tracked = first_built q full r

  built_few : length (tracked_tlcs q) ≤ 254
  built_few = omega (arith, (first_ready_lem q full r).few, (first_ready_lem q full r).many)

  first_record_lem : (i : ℕ) (way : Way) → i < length (tlcs_before q false w)
      → record_part false (first_place q.h (ChoiceCase.Tlc i way)) (record_len q.h) w q.tracked ≡ get_or (tlcs_before q false w) i []
  unfolding record_part first_place
  first_record_lem i way g =
      rw built_tracked
      (rw (tracked_size q.h) at
      (sym (tlc_at_lem q.h q.tracked i (omega (arith, tlcs_length q.h q.tracked, ap length built_tracked)))))

  first_begun : Begun q false w
  unfolding choice_of after_delay first first_thirds first_ready if_ready first_remote first_local first_state named
  first_begun =
      let d = q.settlement in
      record {
        remote = first_remote q.for_remote d;
        local = first_local q.for_remote d;
        last = false;
        delay = λ c. Some (first_delay third two full c);
        place = first_place q.h;
        stage = stage;
        stage_is = first_stage f x y;
        step = λ time. walked_by (at_time q time) stage;
        comes = λ time out. rw (valid_at q time v, f, r, x, y);
        walks = λ e time. refl;
        names = refl;
        within = λ time. first_within (at_time q time) (dues_by q.header third two full q.current) (first_ready_lem q full r).many;
        moves = λ time time'. later_time_walk q.h q.for_remote time time' (settlement_tlcs q) (pairs q) stage (tracked_tlcs q);
        lasts = refl;
        shares = λ e. absurd (false≢true e);
        hash = valid_hash q v;
        few = built_few;
        tlcs = built_tracked;
        remotes = share_by_length q.for_remote d.remote_key d.remote_amount d.local_key d.local_amount;
        locals = share_by_length q.for_remote d.local_key d.local_amount d.remote_key d.remote_amount;
        states = ap (λ (rs : List (List ℕ)). state_bytes rs (first_remote q.for_remote d) (first_local q.for_remote d)) (sym built_tracked);
        recorded = first_record_lem;
      }

-- ---- where the walk is answered, it may

module _ (q : Request) (w out : List ℕ) where
  abbrev Begins : Bool → Outcome Answer → Type 0
  Begins is_later o = FromWalk o.answer → Begun q is_later w

  module _ (v : valid_request q ≡ true) (full : Epoch) (f : delay_of q.args ≡ Ok full) where
    later_begins : Begins true (later q w out)
    unfolding later later_of later_state if_ready
    later_begins = go (unlocked q.h w) refl
      where
        ready_by : (n share_place : ℕ) (t : Taken) (u : unlocked q.h w ≡ fine n share_place t) (r : Ready) (o : Outcome Answer)
            → later_ready q (stand q w n share_place t) (ours q w n share_place t) ≡ r → Begins true (if_ready r out o)
        ready_by n share_place t u (Ok go) o r e = later_begun q w n share_place t v full f u r
        ready_by n share_place t u (Err (NoChoiceCase.Wait wait)) o r e = absurd (omega (arith, e, subst Early r (later_ready_early q (stand q w n share_place t) (ours q w n share_place t))))
        ready_by n share_place t u (Err (NoChoiceCase.Refused why)) o r e = absurd e

        go : (x : Unlocked) → unlocked q.h w ≡ x → Begins true (later_of q w out x)
        go (fine n share_place t) u = ready_by n share_place t u _ _ refl
        go (faulty why) u = λ e. absurd e

    first_begins : Begins false (first q full out)
    unfolding first first_thirds if_ready
    first_begins = go (first_ready q full) refl
      where
        thirds : first_ready q full ≡ begins → (x y : Result Epoch Refusal) → scaled full 1 3 ≡ x → scaled full 2 3 ≡ y → Begins false (first_thirds q out full x y)
        thirds r (Ok third) (Ok two) x y e = first_begun q w v full f third two x y r
        thirds r (Ok third) (Err why) x y e = absurd e
        thirds r (Err why) two x y e = absurd e

        go : (r : Ready) → first_ready q full ≡ r → Begins false (if_ready r out (first_thirds q out full (scaled full 1 3) (scaled full 2 3)))
        go (Ok begun) r = thirds r (scaled full 1 3) (scaled full 2 3) refl refl
        go (Err (NoChoiceCase.Wait wait)) r = λ e. absurd (omega (arith, e, subst Early r (first_ready_early q full)))
        go (Err (NoChoiceCase.Refused why)) r = λ e. absurd e

  choice_begins : (is_later : Bool) → Begins is_later (choice_of q is_later w out)
  unfolding choice_of after_delay
  choice_begins is_later = by_test (Begins is_later) (valid_request q) _ _ (λ v. go v (delay_of q.args) is_later refl) (λ _ e. absurd e)
    where
      go : valid_request q ≡ true → (s : Result Epoch Refusal) (is_later : Bool) → delay_of q.args ≡ s → Begins is_later (after_delay q is_later w out s)
      go v (Ok full) true f = later_begins v full f
      go v (Ok full) false f = first_begins v full f
      go v (Err r) is_later f = λ e. absurd e

-- ---- what is handed out

-- three lists, one behind the other at the front of a fourth
parts_of : (a b c d x : List ℕ) → x ≡ a ++ b ++ c ++ d
    → (part x 0 (length a) ≡ a) × ((part x (length a) (length b) ≡ b) × (part x (length a + length b) (length c) ≡ c))
parts_of a b c d x e =
    let y : x ≡ a ++ (b ++ (c ++ d)) = e ∙ append_assoc (a ++ b) c d ∙ append_assoc a b (c ++ d) in
    let f : drop (length a) x ≡ b ++ (c ++ d) = ap (drop (length a)) y ∙ drop_at a (b ++ (c ++ d)) (length a) refl in
    let g : drop (length a + length b) x ≡ c ++ d = sym (drop-drop (length b) (length a) x) ∙ ap (drop (length b)) f ∙ drop_at b (c ++ d) (length b) refl in (
      ap (take (length a)) y ∙ take_at a (b ++ (c ++ d)) (length a) refl,
      (ap (take (length b)) f ∙ take_at b (c ++ d) (length b) refl, ap (take (length c)) g ∙ take_at c d (length c) refl),
    )

-- the key hash in the other slot of a state, by the place of its shares
other_key_lem : (for_remote : Bool) (rs : List (List ℕ)) (remote local : List ℕ) → length remote ≡ 36 → length local ≡ 36
    → (shares : ℕ) → shares + 72 ≡ length (state_bytes rs remote local)
    → take 20 (cond for_remote remote local) ≡ part (state_bytes rs remote local) (shares + cond for_remote 0 36) 20
unfolding state_bytes
other_key_lem for_remote rs remote local e f shares g = go for_remote
  where
    state : List ℕ
    state = (length rs ∷ flatten rs) ++ (remote ++ local)

    behind : drop shares state ≡ remote ++ local
    behind =
        drop_at (length rs ∷ flatten rs) (remote ++ local) shares
        (omega (arith, g, length-append (length rs ∷ flatten rs) (remote ++ local), length-append remote local, e, f))

    go : (b : Bool) → take 20 (cond b remote local) ≡ part state (shares + cond b 0 36) 20
    go true =
        ap (take 20) (sym (take_at remote local 36 e) ∙ ap (take 36) (sym behind))
        ∙ part_part state shares 36 0 20 (omega arith)
    go false = ap (take 20) (sym (drop_at remote local 36 e) ∙ ap (drop 36) (sym behind) ∙ drop-drop 36 shares state)

-- a wait or a refusal
abbrev Undecided : Answer → Type 0
Undecided (Ok d) = ⊥
Undecided (Err why) = Unit {0}

-- a step chooses one thing
chosen_one : {x y : Choice} {a b : Key} → chooses x a ≡ chooses y b → x ≡ y
chosen_one {x} e = ap choice_or e
  where
    choice_or : Step → Choice
    choice_or (pends left) = x
    choice_or (Break c) = c.choice

module _ (q : Request) (is_later : Bool) (w : List ℕ) (c : Begun q is_later w) where
  -- the state before an unlock, after it, and all that is handed out
  abbrev before : List ℕ
  before = state_bytes (tracked_records (tracked_tlcs q)) c.remote c.local

  abbrev after : Choice → List ℕ
  after choice = state_after (tracked_records (tracked_tlcs q)) c.remote c.local (takes choice)

  abbrev joined : Choice → List ℕ
  joined choice = unlock_of (pairs q) choice ++ before ++ new_args q.args (after choice)

  -- A decision is that of the step at the time of the request; the output holds its three parts.
  record Handed (out : List ℕ) (d : Decision) (bytes : List ℕ) : Type 0 where
    chosen : c.step q.time ≡ chooses d.choice d.key
    amount : d.amount ≡ choice_amount (tracked_records (tracked_tlcs q)) c.remote c.local d.choice
    begins : d.place ≡ c.place d.choice
    ends : d.last ≡ c.last
    len : d.len ≡ record_size q.h d.choice
    room : length (joined d.choice) ≤ length out
    unlock : part bytes 0 d.unlock_len ≡ unlock_of (pairs q) d.choice
    state : part bytes d.unlock_len d.state_len ≡ before
    new : part bytes (d.unlock_len + d.state_len) d.args_len ≡ new_args q.args (after d.choice)
    size : d.state_len ≡ length before

  module _ (out : List ℕ) where
    abbrev outcome_of : Step → Outcome Answer
    outcome_of s = or_wait q c.remote c.local c.last c.delay c.place (wait_by q c.stage) out s

    step_handed : (d : Decision) (s : Step) → c.step q.time ≡ s → (outcome_of s).answer ≡ decided d → Handed out d (outcome_of s).bytes
    unfolding or_wait handed_out
    step_handed d (pends pending) f = λ e. absurd (subst Undecided e tt)
    step_handed d (Break chosen) f =
        let choice = chosen.choice in
        by_test (λ (o : Outcome Answer). o.answer ≡ decided d → Handed out d o.bytes) (leb (length (joined choice)) (length out)) _ _
        (λ g e.
        let r : 0 + length (joined choice) ≤ length out = omega (arith, leb-true (length (joined choice)) (length out) g) in
        let p = parts_of (unlock_of (pairs q) choice) before (new_args q.args (after choice)) (drop (0 + length (joined choice)) out) (sets out 0 (joined choice)) (sets-eq (joined choice) out 0 r) in
        subst (λ (x : Decision). Handed out x (sets out 0 (joined choice))) (inside _ d e)
        (record { chosen = f; amount = refl; begins = refl; ends = refl; len = refl; room = omega arith; unlock = p.0; state = p.1.0; new = p.1.1; size = refl }))
        (λ _ e. absurd (subst Undecided e tt))
      where
        -- the answer holds one thing
        inside : (x y : Decision) → decided x ≡ decided y → x ≡ y
        inside x y e = cc

    handed : (d : Decision) → Decides q is_later w out d → Handed out d (choice_of q is_later w out).bytes
    handed d e = rw (c.comes q.time out) (step_handed d (c.step q.time) refl (rw (c.comes q.time out) at e))

    -- at any time, a choice that has room is handed out
    step_room : (time : ℕ) (choice : Choice) (key : Key) → c.step time ≡ chooses choice key → length (joined choice) ≤ length out
        → (d : Decision) × (Decides (at_time q time) is_later w out d × ((d.choice ≡ choice) × (d.key ≡ key)))
    unfolding or_wait handed_out
    step_room time choice key f g = rw (c.comes time out, f, le-leb (length (joined choice)) (length out) g) (_, (refl, (refl, refl)))

  -- ---- what is said of a decision

  module _ (out : List ℕ) (d : Decision) (bytes : List ℕ) (t : Handed out d bytes) where
    -- it is among the TLCs, its key and its pair in their lists
    chosen_within : Within (length (tracked_tlcs q)) (length (pairs q)) d.choice × KeyIn (length (settlement_tlcs q)) d.key
    chosen_within = rw t.chosen at (c.within q.time)

    chosen_in : KeyIn (length (settlement_tlcs q)) d.key × PairIn (length (pairs q)) d.choice
    unfolding Within
    chosen_in = (chosen_within.1, chosen_within.0.1)

    -- the last settlement, by the state; and our share in it
    last_state : (shares : ℕ) → shares + 72 ≡ d.state_len
        → d.last ≡ (is_later && same (other_key q shares (part bytes d.unlock_len d.state_len)) (replicate 20 0))
    unfolding is_last
    last_state shares e =
        let f : shares + 72 ≡ length before = e ∙ t.size in
        let g : take 20 (cond q.for_remote c.remote c.local) ≡ other_key q shares (part bytes d.unlock_len d.state_len) =
        rw t.state (other_key_lem q.for_remote (tracked_records (tracked_tlcs q)) c.remote c.local c.remotes c.locals shares f) in
        t.ends ∙ c.lasts ∙ ap (λ (k : List ℕ). is_later && same k (replicate 20 0)) g

    walk_named : d.last ≡ false → (stage : Stage) × (IsStage q is_later stage × (walked_by q stage ≡ chooses d.choice d.key))
    walk_named e = (c.stage, (c.stage_is, sym (c.walks (sym t.ends ∙ e) q.time) ∙ t.chosen))

    last_share : d.last ≡ true → d.choice ≡ ChoiceCase.Share (our_side q.for_remote)
    last_share e = chosen_one (sym t.chosen ∙ c.shares (sym t.ends ∙ e) q.time)

    module _ (place : ℕ) (way : Way) (f : d.choice ≡ ChoiceCase.Tlc place way) where
      chosen_below : place < length (tlcs_before q is_later w)
      unfolding Within Below
      chosen_below =
          let b : place < length (tracked_tlcs q) = rw f at chosen_within.0.0 in
          omega (arith, b, ap length c.tlcs, tracked_length (tracked_tlcs q))

      chosen_few : choice_byte d.choice ≤ 253
      unfolding choice_byte
      chosen_few = rw f (omega (arith, chosen_below, ap length c.tlcs, tracked_length (tracked_tlcs q), c.few))

      -- its record and its amount
      chosen_record : record_of is_later (decided d) w q.tracked ≡ get_or (tlcs_before q is_later w) place []
      unfolding record_of record_size
      chosen_record = rw (t.begins, t.len, f) (c.recorded place way chosen_below)

      chosen_amount : d.amount ≡ amount_at (get_or (tlcs_before q is_later w) place []) 1
      unfolding choice_amount
      chosen_amount = rw (t.amount, f, c.tlcs) (from _ (omega arith))
        where
          from : (k : ℕ) → k ≡ 1 → amount_at (get_or (tracked_records (tracked_tlcs q)) place []) k ≡ amount_at (get_or (tracked_records (tracked_tlcs q)) place []) 1
          from k e = rw e

-- ---- a later time, the whole choice

-- the unlock is no longer
abbrev Shorter : List (List ℕ) → Step → Step → Type 0
Shorter ps (pends pending) s = Unit {0}
Shorter ps (Break x) (pends pending) = ⊥
Shorter ps (Break x) (Break y) = length (unlock_of ps y.choice) ≤ length (unlock_of ps x.choice)

shorter : (ps : List (List ℕ)) (x y : Step) → Onward x y → Shorter ps x y
unfolding unlock_of
shorter ps x y waits = tt
shorter ps x y stays = omega arith
shorter ps x y (sooner {choice = choice} {place = place} b) =
    omega (arith, unlock_bytes_length (record { byte = choice_byte (ChoiceCase.Tlc place WayCase.Timeout); flag = false }) (replicate 65 0) [], unlock_least ps choice)

later_choice_lem : (q : Request) (is_later : Bool) (w : List ℕ) (c : Begun q is_later w) (out : List ℕ) (d : Decision) (bytes : List ℕ) (t : Handed q is_later w c out d bytes)
    (time : ℕ) → q.time ≤ time
    → (d' : Decision) × (Decides (at_time q time) is_later w out d' × Onward (chooses d.choice d.key) (chooses d'.choice d'.key))
later_choice_lem q is_later w c out d bytes t time i = go (c.step time) refl (rw t.chosen at (c.moves q.time time (omega (arith, i))))
  where
    go : (s : Step) → c.step time ≡ s → Onward (chooses d.choice d.key) s
        → (d' : Decision) × (Decides (at_time q time) is_later w out d' × Onward (chooses d.choice d.key) (chooses d'.choice d'.key))
    go (pends pending) f m = absurd (shorter (pairs q) _ _ m)
    go (Break chosen) f m =
        let choice = chosen.choice in
        let state = before q is_later w c in
        let now = unlock_of (pairs q) d.choice in
        let next = unlock_of (pairs q) choice in
        let new : Choice → List ℕ = λ x. new_args q.args (after q is_later w c x) in
        let g : length (next ++ state ++ new choice) ≤ length out =
        omega (
          arith,
          t.room,
          shorter (pairs q) _ _ m,
          new_lengths q.args (after q is_later w c d.choice) (after q is_later w c choice),
          length-append (now ++ state) (new d.choice),
          length-append now state,
          length-append (next ++ state) (new choice),
          length-append next state,
        ) in
        let r = step_room q is_later w c out time choice chosen.key f g in
        (r.0, (r.1.0, rw (r.1.1.0, r.1.1.1) m))

-- ---- all promises

-- the state is sound, and the pairs are whole
module _ (q : Request) (is_later : Bool) (w : List ℕ) (c : Begun q is_later w) where
  begun_sound : Sound q.h (tracked_records (tracked_tlcs q)) c.remote c.local
  unfolding entries
  begun_sound = record {
    hash = c.hash;
    few = omega (arith, c.few, tracked_length (tracked_tlcs q));
    even = each_tracked (record_len q.h) (length q.tracked / tracked_len q.h) q.tracked (div-mul-le_self (length q.tracked) (tracked_len q.h));
    remote = c.remotes;
    local = c.locals;
  }

  begun_pairs : Even pair_len (pairs q)
  unfolding entries
  begun_pairs = even_records pair_len (length q.preimages / pair_len) q.preimages (div-mul-le_self (length q.preimages) pair_len)

  begun_promised : (out : List ℕ) (d : Decision) (bytes : List ℕ) → Handed q is_later w c out d bytes → Promised q is_later w out bytes d
  begun_promised out d bytes t =
      let tlcs = tracked_records (tracked_tlcs q) in
      let state = state_bytes tlcs c.remote c.local in
      let n : length (tracked_tlcs q) ≡ length tlcs = sym (tracked_length (tracked_tlcs q)) in
      let b : Within (length tlcs) (length (pairs q)) d.choice = rw n at (chosen_within q is_later w c out d bytes t).0 in
      record {
        never_above_253 = λ place way f. omega (arith, chosen_few q is_later w c out d bytes t place way f);
        chosen_stands =
            λ place way f. (
              chosen_below q is_later w c out d bytes t place way f,
              (chosen_record q is_later w c out d bytes t place way f, chosen_amount q is_later w c out d bytes t place way f),
            );
        last_is = λ shares e. last_state q is_later w c out d bytes t shares e;
        last_ours = last_share q is_later w c out d bytes t;
        walk_names = walk_named q is_later w c out d bytes t;
        in_their_lists = chosen_in q is_later w c out d bytes t;
        left = after q is_later w c d.choice;
        room = omega (arith, t.size, after_small tlcs c.remote c.local d.choice c.remotes c.locals);
        updates =
            λ count into g. rw (t.state, t.unlock)
            (unlock_accepted begun_sound (omega (arith, n, c.few)) (pairs q) begun_pairs d.choice b count into g);
        hashed = t.new;
        state_of_witness =
            λ e into g. rw (t.state, t.size) (subst (λ (later : Bool). States q later w state) e c.states into (omega (arith, g, t.size)));
        state_of_data = λ e. t.state ∙ subst (λ (later : Bool). States q later w state) e c.states;
        later_time = λ time i. later_choice_lem q is_later w c out d bytes t time (omega (arith, i));
      }

is_decided : (q : Request) (is_later : Bool) (w out : List ℕ) (d : Decision) → Decides q is_later w out d
    → (c : Begun q is_later w) × Handed q is_later w c out d (choice_of q is_later w out).bytes
is_decided q is_later w out d e =
    let c = choice_begins q w out is_later (subst FromWalk (sym e) tt) in
    (c, handed q is_later w c out d e)

pub promises : Promises
promises q is_later w out d e =
    let t = is_decided q is_later w out d e in
    begun_promised q is_later w t.0 out d _ t.1

-- ---- all promises of a wait

-- a step without a choice leaves some number pending
unchosen_left : (s : Step) → Unchosen s → (left : ℕ) × (s ≡ pends left)
unchosen_left (pends left) u = (left, refl)
unchosen_left (Break c) u = absurd u

-- our share may be taken in every later settlement
stage_first : (q : Request) (is_later : Bool) (stage : Stage) → IsStage q is_later stage → may_share stage ≡ false → is_later ≡ false
unfolding may_share
stage_first q is_later stage later_stage e = absurd (false≢true (sym e))
stage_first q is_later stage (first_stage a b c) e = refl

module _ (q : Request) (is_later : Bool) (w : List ℕ) (c : Begun q is_later w) (out : List ℕ) (wait : Wait) (e : (choice_of q is_later w out).answer ≡ waiting wait) where
  abbrev tracked : List (List ℕ)
  tracked = tracked_tlcs q

  -- the step chooses nothing, and the wait is that of the walk
  waits_by : (Unchosen (c.step q.time)) × (wait ≡ wait_by q c.stage)
  waits_by =
      only_unchosen q c.remote c.local c.last c.delay c.place (wait_by q c.stage) out (c.step q.time) wait
      (rw (c.comes q.time out) at e)

  -- it is not the last settlement, in which our share is chosen
  not_last : c.last ≡ false
  not_last = go c.last refl
    where
      go : (b : Bool) → c.last ≡ b → b ≡ false
      go false f = refl
      go true f = absurd (subst Unchosen (c.shares f q.time) waits_by.0)

  nothing : (left : ℕ) × (c.step q.time ≡ pends left)
  nothing = unchosen_left (c.step q.time) waits_by.0

  walks_nothing : walked_by q c.stage ≡ pends nothing.0
  walks_nothing = sym (c.walks not_last q.time) ∙ nothing.1

  standing_many : length (tlcs_before q is_later w) ≡ length tracked
  standing_many = ap length c.tlcs ∙ tracked_length tracked

  wait_promised : Waiting q is_later w wait
  unfolding or_wait tracked_records wait_place
  wait_promised = record {
    stage = c.stage;
    stage_is = c.stage_is;
    pending = nothing.0;
    names_nothing = walks_nothing;
    any_output = λ into. rw (c.comes q.time into, nothing.1, waits_by.1) refl;
    without_tlcs =
        λ f.
        let z = waits_without q.h q.for_remote q.time (settlement_tlcs q) (pairs q) c.stage tracked nothing.0 walks_nothing (sym waits_by.1 ∙ f) in
        (stage_first q is_later c.stage c.stage_is z.1, (c.tlcs ∙ ap tracked_records z.0, z.1));
    standing_tracked = c.tlcs;
    named_cause =
        λ place cause f. (
          rw f,
          waits_cause q.h q.for_remote q.time (settlement_tlcs q) (pairs q) c.stage tracked nothing.0 walks_nothing place cause (sym waits_by.1 ∙ f),
        );
    named_stands =
        λ place cause f. rw standing_many
        (waits_stands q.h q.for_remote q.time (settlement_tlcs q) (pairs q) c.stage tracked nothing.0 walks_nothing place cause (sym waits_by.1 ∙ f));
    named_pends =
        λ place cause f. waits_pends q.h q.for_remote q.time (settlement_tlcs q) (pairs q) c.stage tracked nothing.0 walks_nothing place cause (sym waits_by.1 ∙ f);
    fell_before =
        λ place cause f i g. waits_fell q.h q.for_remote q.time (settlement_tlcs q) (pairs q) c.stage tracked nothing.0 walks_nothing place cause (sym waits_by.1 ∙ f)
        i (omega (arith, g));
  }

pub wait_promises : WaitPromises
wait_promises q is_later w out wait e = wait_promised q is_later w (choice_begins q w out is_later (rw e.0 e.1)) out wait e.0

-- ---- one of 22 to 25 exactly where nothing is named

begun_exactly : (q : Request) (is_later : Bool) (w : List ℕ) (c : Begun q is_later w) → Exactly q is_later w c.stage
unfolding or_wait
begun_exactly q is_later w c = record {
  waits = λ pending e out. rw (c.comes q.time out, c.names, e) refl;
  numbers =
      let n = pending_numbers q.time 0 (verdicts q.h q.for_remote (settlement_tlcs q) (pairs q) c.stage 0 (tracked_tlcs q)) in
      (omega (arith, n.0), omega (arith, n.1));
  waits_not =
      λ choice key e out wait f.
      subst Unchosen (c.names ∙ e)
      (only_unchosen q c.remote c.local c.last c.delay c.place (wait_by q c.stage) out (c.step q.time) wait (rw (c.comes q.time out) at f)).0;
}

pub waits_exactly : WaitsExactly
waits_exactly q is_later w out e =
    let c = choice_begins q w out is_later e in
    (c.stage, (c.stage_is, begun_exactly q is_later w c))

-- ---- what is handed out, for whoever counts what it pays

-- the byte of a choice's unlock and its amount, by the parts of the state: a share's, or those of a TLC that stands
abbrev pub Names : List (List ℕ) → List ℕ → List ℕ → Choice → ℕ → Amount → Type 0
Names tlcs remote local (ChoiceCase.Share SideCase.Remote) byte a = (byte ≡ 254) × (a ≡ amount_at remote 20)
Names tlcs remote local (ChoiceCase.Share SideCase.Local) byte a = (byte ≡ 255) × (a ≡ amount_at local 20)
Names tlcs remote local (ChoiceCase.Tlc place way) byte a = (place < length tlcs) × ((byte ≡ place) × (a ≡ amount_at (get_or tlcs place []) 1))

-- a sound state of at most 254 TLCs, and one unlock over it
pub record Parts (q : Request) (d : Decision) (bytes : List ℕ) : Type 0 where
  pub tlcs : List (List ℕ)
  pub remote : List ℕ
  pub local : List ℕ
  pub sound : Sound q.h tlcs remote local
  pub few : length tlcs ≤ 254
  pub state : part bytes d.unlock_len d.state_len ≡ state_bytes tlcs remote local
  pub alone : unlocks_in (part bytes 0 d.unlock_len) ≡ record { whole = part bytes 0 d.unlock_len ∷ []; rest = [] }
  pub names : Names tlcs remote local d.choice (get_or (part bytes 0 d.unlock_len) 0 0) d.amount

names_by : (tlcs : List (List ℕ)) (remote local : List ℕ) (c : Choice) → Below (length tlcs) c → Names tlcs remote local c (choice_byte c) (choice_amount tlcs remote local c)
unfolding Below choice_byte choice_amount
names_by tlcs remote local (ChoiceCase.Share SideCase.Remote) b = (refl, refl)
names_by tlcs remote local (ChoiceCase.Share SideCase.Local) b = (refl, refl)
names_by tlcs remote local (ChoiceCase.Tlc place way) b = (b, (refl, refl))

pub handed_parts : (q : Request) (is_later : Bool) (w out : List ℕ) (d : Decision) → Decides q is_later w out d → Parts q d (choice_of q is_later w out).bytes
unfolding Within
handed_parts q is_later w out d e =
    let t = is_decided q is_later w out d e in
    go t.0 t.1
  where
    go : (c : Begun q is_later w) → Handed q is_later w c out d (choice_of q is_later w out).bytes → Parts q d (choice_of q is_later w out).bytes
    go c t =
        let tlcs = tracked_records (tracked_tlcs q) in
        let n : length (tracked_tlcs q) ≡ length tlcs = sym (tracked_length (tracked_tlcs q)) in
        let b : Within (length tlcs) (length (pairs q)) d.choice = rw n at (chosen_within q is_later w c out d _ t).0 in
        let u = unlock_whole (pairs q) d.choice (begun_pairs q is_later w c) b.1 in
        record {
          tlcs = tlcs;
          remote = c.remote;
          local = c.local;
          sound = begun_sound q is_later w c;
          few = omega (arith, n, c.few);
          state = t.state;
          alone = rw t.unlock (unlocks_one (unlock_of (pairs q) d.choice) (omega (arith, u.size, at_least (eqb (get_or (unlock_of (pairs q) d.choice) 1 0) 1))) u.size);
          names = rw (t.unlock, t.amount, u.first) (names_by tlcs c.remote c.local d.choice b.0);
        }
