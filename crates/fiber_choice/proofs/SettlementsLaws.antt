-- Laws of `specs/Settlements.antt`: where a TLC that stands was, what is handed out in a later and in a first settlement.
-- Assumes nothing.
use Prim.Native.Nat.{ℕ, zero, suc, ◌+◌, ◌*◌, ◌≤◌, ◌<◌}
use native.Mathlib.Nat.{add-zero, mul-le-mul_right}
use native.Mathlib.Omega.{arith}
use mathlib.Core.Path.{◌≡◌, refl, sym, ap, subst, ◌∙◌}
use mathlib.Core.Bool.{Bool, true, false, cond, ◌||◌, false≢true}
use mathlib.Core.List.{List, [], ◌∷◌}
use lib.Dec.{eqb, leb}
use lib.ListN.{length, get_or, take, drop, drop_of_length-le}
use lib.Seq.{drop-drop}
use borrow.Author.Tests.{leb-true, eqb-false}
use Rattle.std.specs.Prelude.{Option, Some, None, Ok, Err, slice_get}
use Rattle.std.specs.Option.{unwrap_or}
use Rattle.std.proofs.lemmas.Option.{unwrap_or-slice_get}
use Rattle.std.specs.List.{filter_map, enumerate_from, cons_option}
use Rattle.std.specs.declared.ops.ControlFlow.TheVariants.{Break}
use Rattle.fiber_refusal.specs.declared.Refusal.{Refusal}
use Rattle.fiber_refusal.specs.declared.Refusal.TheVariants.{LengthZero, TooManyTlcs}
use Rattle.fiber_witness.specs.declared.left.StateLeft.{StateLeft}
use Rattle.fiber_choice.specs.declared.kinds.NoChoice.{NoChoice}
use Rattle.fiber_choice.specs.declared.kinds.NoChoice.TheVariants as NoChoiceCase
use Rattle.fiber_choice.specs.Answered.{Answer, waiting, refused, Ready, begins, stops_waiting, stops}
use Rattle.fiber_bytes.proofs.CaseLaws.{by_each}
use Rattle.fiber_bytes.specs.Bytes.{part}
use Rattle.fiber_since.specs.declared.epoch.Epoch.{Epoch}
use Rattle.fiber_since.specs.Epoch.{within_bits, scaled, Bounded}
use Rattle.fiber_since.proofs.EpochLaws.{within}
use Rattle.fiber_witness.specs.Witness.{record_len, chunks, member}
use Rattle.fiber_witness.specs.Update.{Unlocked, fine, faulty, keep, standing, unlocked}
use Rattle.fiber_witness.specs.inner.Marks.{Marks, marked}
use Rattle.fiber_witness.specs.inner.Leaving.{LeavesAs}
use Rattle.fiber_witness.specs.inner.Records.{standing_of}
use Rattle.fiber_witness.proofs.WitnessLaws.{records_length}
use Rattle.fiber_witness.proofs.UpdateLaws.{marks_marked, keep_cons}
use Rattle.fiber_choice.specs.declared.kinds.Way.{Way}
use Rattle.fiber_choice.specs.declared.kinds.Choice.{Choice}
use Rattle.fiber_choice.specs.declared.kinds.Choice.TheVariants as ChoiceCase
use Rattle.fiber_choice.specs.declared.kinds.Key.{Key}
use Rattle.fiber_choice.specs.declared.kinds.Dues.{Dues}
use Rattle.fiber_choice.specs.declared.kinds.Stage.TheVariants as StageCase
use Rattle.fiber_choice.specs.declared.kinds.Wait.{Wait}
use Rattle.fiber_choice.specs.declared.kinds.Wait.TheVariants as WaitCase
use Rattle.fiber_choice.specs.Entries.{same, same_lists, tracked_records}
use Rattle.fiber_choice.specs.Request.{Request, settlement_tlcs, tracked_tlcs, pairs}
use Rattle.fiber_choice.specs.FirstRecords.{hash_of, first_records, first_remote, first_local}
use Rattle.fiber_choice.specs.Walk.{Step, pends, chooses, our_share}
use Rattle.fiber_choice.specs.Verdicts.{dues_by}
use Rattle.fiber_choice.specs.Waits.{wait_number}
use Rattle.fiber_types.specs.Records.{Outcome, Gives}
use Rattle.fiber_choice.specs.HandedOut.{handed_out}
use Rattle.fiber_choice.specs.Settlements.{walked_by, wait_by, or_wait, if_ready, later_ready, is_last, later_choice, unsettled, later_place, later_state, later_of, later, first_delay, first_place, first_thirds, lengths_zero, first_ready, first}
use Rattle.fiber_choice.specs.inner.Plan.{Within, Below}
use Rattle.fiber_choice.specs.declared.kinds.Chosen.{Chosen}
use Rattle.fiber_choice.specs.inner.Noting.{pick_of, Pick, picked, unpicked}
use Rattle.fiber_choice.proofs.EntriesLaws.{lists_length, record_at, tracked_length, lists_equal}
use Rattle.fiber_choice.proofs.FirstRecordsLaws.{firsts_count}
use Rattle.fiber_choice.proofs.WalkLaws.{StepWithin, walked_within, reaches_later, reaches_first}
use Rattle.fiber_choice.proofs.WaitsLaws.{Unchosen}

-- ---- what a settlement comes to

-- what is the same outcome leaves the same
pub leaves_as : (x y : Outcome Answer) → x ≡ y → (r : Answer) (o : List ℕ) → Gives x r o → Gives y r o
leaves_as x y e r o w = rw (← e) w

module _ (r : Ready) (out : List ℕ) (o : Outcome Answer) where
  -- what stands against the walk
  pub ready_stops : (why : NoChoice) → r ≡ Err why → Gives (if_ready r out o) (Err why) out
  unfolding if_ready
  ready_stops why e = (rw e, rw e)

  -- neither
  pub ready_yes : r ≡ begins → o ≡ if_ready r out o
  unfolding if_ready
  ready_yes e = rw e

module _ (q : Request) (remote local : List ℕ) (last : Bool) (delay : Choice → Option Epoch) (place : Choice → ℕ) (wait : Wait) (out : List ℕ) (s : Step) where
  -- The wait is answered where nothing is chosen, and only there: what is chosen does not depend on which of the rows 22 to 25 it is.
  pub nothing_chosen : (pending : ℕ) → s ≡ pends pending → Gives (or_wait q remote local last delay place wait out s) (waiting wait) out
  unfolding or_wait
  nothing_chosen pending e = (rw e, rw e)

  pub only_unchosen : (w : Wait) → (or_wait q remote local last delay place wait out s).answer ≡ waiting w → (Unchosen s) × (w ≡ wait)
  unfolding or_wait handed_out
  only_unchosen w = go s
    where
      No-wait : Answer → Type 0
      No-wait (Err (NoChoiceCase.Wait x)) = ⊥
      No-wait (Ok d) = Unit {0}
      No-wait (Err (NoChoiceCase.Refused r)) = Unit {0}

      go : (s : Step) → (or_wait q remote local last delay place wait out s).answer ≡ waiting w → (Unchosen s) × (w ≡ wait)
      go (pends pending) = λ e. (tt, cc)
      go (Break c) =
          by_each (λ (o : Outcome Answer). o.answer ≡ waiting w → ⊥ × (w ≡ wait)) (leb _ (length out)) _ _ (λ e. absurd (subst No-wait e tt)) (λ e. absurd (subst No-wait e tt))

  -- what is chosen
  pub one_chosen : (choice : Choice) (key : Key) → s ≡ chooses choice key
      → handed_out q.h q.args (tracked_tlcs q) (pairs q) remote local last choice key (delay choice) (place choice) out ≡ or_wait q remote local last delay place wait out s
  unfolding or_wait
  one_chosen choice key e = rw e

abbrev Chooses : Pick → Type 0
Chooses (Ok chosen) = Unit {0}
Chooses (Err wait) = ⊥

-- a choice or a wait, as the code passes it on
module _ (s : Step) (w : Wait) where
  pub pick_wait : (x : Wait) → pick_of s w ≡ unpicked x → (pending : ℕ) × ((s ≡ pends pending) × (w ≡ x))
  unfolding pick_of
  pick_wait x = go s
    where
      go : (s : Step) → pick_of s w ≡ unpicked x → (pending : ℕ) × ((s ≡ pends pending) × (w ≡ x))
      go (pends pending) e = (pending, (refl, cc))
      go (Break c) e = absurd (subst Chooses e tt)

  pub pick_chosen : (choice : Choice) (key : Key) → pick_of s w ≡ picked choice key → s ≡ chooses choice key
  unfolding pick_of
  pick_chosen choice key = go s
    where
      go : (s : Step) → pick_of s w ≡ picked choice key → s ≡ chooses choice key
      go (pends pending) e = absurd (subst Chooses (sym e) tt)
      go (Break c) e = ap Break (ap of e)
        where
          of : Pick → Chosen
          of (Ok d) = d
          of (Err wait) = c

-- ---- where a TLC that stands was

-- a place whose mark is false
abbrev pub unmarked : ℕ × Bool → Option ℕ
unmarked p = cond p.1 None (Some p.0)

-- from a place on, those places are the ones that are not settled
unmarked_from : (marks : List Bool) (s : List ℕ) (i : ℕ) → ((j : ℕ) → j < length marks → get_or marks j false ≡ member (i + j) s)
    → filter_map unmarked (enumerate_from i marks) ≡ unsettled s i (length marks)
unfolding unsettled
unmarked_from [] s i m = refl
unmarked_from (b ∷ bs) s i m =
    rw (← ap (λ (k : ℕ). member k s) (add-zero i), ← m 0 (omega arith), ← unmarked_from bs s (i + 1) (λ j h. m (suc j) (omega (arith, h)) ∙ ap (λ (k : ℕ). member k s) (omega arith)))
    (go b (filter_map unmarked (enumerate_from (i + 1) bs)))
  where
    go : (b : Bool) (ps : List ℕ) → cons_option (unmarked (i, b)) ps ≡ cond b ps (i ∷ ps)
    go true ps = refl
    go false ps = refl

pub unmarked_stand : (marks : List Bool) → filter_map unmarked (enumerate_from 0 marks) ≡ unsettled (marked marks) 0 (length marks)
unfolding Marks
unmarked_stand marks = unmarked_from marks (marked marks) 0 (λ j h. marks_marked marks j h ∙ ap (λ (k : ℕ). member k (marked marks)) (omega arith))

-- no place is behind the last
unsettled_below : (s : List ℕ) (n i place : ℕ) → get_or (unsettled s i n) place 0 ≤ i + n
unfolding unsettled
unsettled_below s zero i place = omega arith
unsettled_below s (suc n) i place = go (member i s) place (λ p. unsettled_below s n (i + 1) p)
  where
    go : (b : Bool) (p : ℕ) → ((q : ℕ) → get_or (unsettled s (i + 1) n) q 0 ≤ i + 1 + n)
        → get_or (cond b (unsettled s (i + 1) n) (i ∷ unsettled s (i + 1) n)) p 0 ≤ i + suc n
    go true p f = omega (arith, f p)
    go false zero f = omega arith
    go false (suc p) f = omega (arith, f p)

-- the place of one that stands, or 0 behind the last, as the code finds it
pub place_found : (ps : List ℕ) (place r : ℕ) (found : Option ℕ) → found ≡ slice_get ps place → r ≡ unwrap_or found 0 → r ≡ get_or ps place 0
place_found ps place r found e f = f ∙ ap (λ (o : Option ℕ). unwrap_or o 0) e ∙ unwrap_or-slice_get ps place 0

-- so its record begins within 255 records
pub place_small : (s : List ℕ) (n place h r : ℕ) (found : Option ℕ) → n ≤ 255 → h ≤ 32 → found ≡ slice_get (unsettled s 0 n) place → r ≡ unwrap_or found 0
    → r * record_len h ≤ 255 * 97
place_small s n place h r found e f g k =
    let b : r ≤ 255 = omega (arith, place_found (unsettled s 0 n) place r found g k, unsettled_below s n 0 place) in
    omega (arith, mul-le-mul_right (record_len h) b)

-- ---- a later settlement

-- so where few stand, and they are the tracked ones, as few are tracked
pub lists_few : (tracked tlcs : List (List ℕ)) (k n : ℕ) → k ≡ length tlcs → k ≤ n → same_lists tlcs (tracked_records tracked) ≡ true → length tracked ≤ n
lists_few tracked tlcs k n c f g = omega (arith, lists_length tlcs (tracked_records tracked) g, tracked_length tracked)

-- the places that are not settled depend on which of them are, and not on the order
unsettled_same : (s t : List ℕ) (i n : ℕ) → ((j : ℕ) → j < i + n → member j s ≡ member j t) → unsettled s i n ≡ unsettled t i n
unfolding unsettled
unsettled_same s t i zero e = refl
unsettled_same s t i (suc n) e = rw (e i (omega arith), unsettled_same s t (i + 1) n (λ j h. e j (omega (arith, h))))

-- so marks leave what the list of settled places leaves, from any place on, among those that they say something of
pub unsettled_marked : (marks : List Bool) (s : List ℕ) → Marks marks s → (i n : ℕ) → i + n ≤ length marks → unsettled (marked marks) i n ≡ unsettled s i n
unfolding Marks
unsettled_marked marks s m i n g = unsettled_same (marked marks) s i n (λ j h. sym (marks_marked marks j (omega (arith, h, g))) ∙ m j (omega (arith, h, g)))

-- a row before the walk
abbrev No : Ready → Type 0
No (Ok go) = ⊥
No (Err why) = Unit {0}

-- a wait before the walk is one by row 20 or 21
abbrev pub Early : Ready → Type 0
Early (Ok go) = Unit {0}
Early (Err (NoChoiceCase.Wait wait)) = wait_number wait < 22
Early (Err (NoChoiceCase.Refused r)) = Unit {0}

pub later_ready_early : (q : Request) (tlcs : List (List ℕ)) (ours : List ℕ) → Early (later_ready q tlcs ours)
unfolding later_ready wait_number
later_ready_early q tlcs ours =
    by_each Early (leb (length tlcs) 254) _ _
    (by_each Early (same_lists tlcs (tracked_records (tracked_tlcs q))) _ _ (by_each Early (same (take 20 ours) (hash_of q.settlement.local_key)) _ _ tt (omega arith)) (omega arith))
    tt

pub first_ready_early : (q : Request) (full : Epoch) → Early (first_ready q full)
unfolding first_ready wait_number
first_ready_early q full =
    by_each Early (lengths_zero q.header q.current full) _ _ tt
    (by_each Early (leb (length (settlement_tlcs q)) 254) _ _
    (by_each Early (same_lists (first_records q.h q.for_remote (settlement_tlcs q)) (tracked_records (tracked_tlcs q))) _ _ tt (omega arith)) tt)

-- where the walk may begin, few stand, and they are the tracked ones
pub later_ready_lem : (q : Request) (tlcs : List (List ℕ)) (ours : List ℕ) → later_ready q tlcs ours ≡ begins
    → (length tlcs ≤ 254) × (same_lists tlcs (tracked_records (tracked_tlcs q)) ≡ true)
unfolding later_ready
later_ready_lem q tlcs ours = go (leb (length tlcs) 254) (same_lists tlcs (tracked_records (tracked_tlcs q))) (same (take 20 ours) (hash_of q.settlement.local_key)) refl
  where
    go : (x y z : Bool) → leb (length tlcs) 254 ≡ x
        → cond x (cond y (cond z begins (stops_waiting WaitCase.NotOurShare)) (stops_waiting WaitCase.ListDiffers)) (stops TooManyTlcs) ≡ begins
        → (length tlcs ≤ 254) × (y ≡ true)
    go true true z p e = (leb-true (length tlcs) 254 p, refl)
    go true false z p e = absurd (subst No e tt)
    go false y z p e = absurd (subst No e tt)

module _ (q : Request) (last : Bool) where
  -- the other side's share is gone
  pub choice_share : last ≡ true → our_share q.for_remote ≡ later_choice q last
  unfolding later_choice
  choice_share g = rw g

  -- it is not
  pub choice_walk : last ≡ false → walked_by q StageCase.Later ≡ later_choice q last
  unfolding later_choice
  choice_walk g = rw g

  -- as the code passes them on
  pub choice_picks_share : (chosen : Chosen) (w : Wait) → Break chosen ≡ our_share q.for_remote → last ≡ true → Ok chosen ≡ pick_of (later_choice q last) w
  unfolding pick_of
  choice_picks_share chosen w e g = ap (λ (s : Step). pick_of s w) (e ∙ choice_share g)

  pub choice_picks_walk : (w : Wait) → last ≡ false → pick_of (walked_by q StageCase.Later) w ≡ pick_of (later_choice q last) w
  choice_picks_walk w g = ap (λ (s : Step). pick_of s w) (choice_walk g)

-- what is chosen is among the tracked TLCs
pub choice_within : (q : Request) (last : Bool) → StepWithin (length (tracked_tlcs q)) (length (settlement_tlcs q)) (length (pairs q)) (later_choice q last)
unfolding later_choice Within Below
choice_within q last =
    by_each (StepWithin (length (tracked_tlcs q)) (length (settlement_tlcs q)) (length (pairs q))) last _ _ ((tt, tt), tt)
    (walked_within q.h q.for_remote q.time (settlement_tlcs q) (pairs q) StageCase.Later (length (tracked_tlcs q)) (reaches_later _ _) (tracked_tlcs q) refl)

-- What the code finds of a state that the witness's unlocks leave: whether it is the last settlement, and whether the walk may begin.
pub record Begun (q : Request) (tlcs : List (List ℕ)) (remote local : List ℕ) (last : Bool) (r : Ready) : Type 0 where
  pub ends : last ≡ is_last (cond q.for_remote remote local)
  pub rows : r ≡ later_ready q tlcs (cond q.for_remote local remote)

-- by the two sides' shares
pub state_begun : {q : Request} {tlcs : List (List ℕ)} {remote local ours other : List ℕ} {last : Bool} {r : Ready}
    → ours ≡ cond q.for_remote local remote → other ≡ cond q.for_remote remote local → last ≡ is_last other → r ≡ later_ready q tlcs ours
    → Begun q tlcs remote local last r
state_begun p o l e = record { ends = rw o at l; rows = rw p at e }

module _ {q : Request} {tlcs : List (List ℕ)} {remote local : List ℕ} {last : Bool} {r : Ready} (b : Begun q tlcs remote local last r) where
  module _ (out firsts : List ℕ) where
    state_as : if_ready r out (or_wait q remote local last (λ c. None) (later_place q.h firsts) (wait_by q StageCase.Later) out (later_choice q last)) ≡ later_state q out tlcs firsts remote local
    unfolding later_state
    state_as = rw (b.rows, b.ends)

    -- rows 12, 20 and 21
    pub state_stops : (why : NoChoice) → r ≡ Err why → Gives (later_state q out tlcs firsts remote local) (Err why) out
    state_stops why f = leaves_as _ _ state_as _ _ (ready_stops r out _ why f)

  module _ (y : r ≡ begins) where
    -- no more are tracked than stand
    pub state_few : length (tracked_tlcs q) ≤ 254
    state_few =
        let z = later_ready_lem q tlcs _ (sym b.rows ∙ y) in
        lists_few (tracked_tlcs q) tlcs (length tlcs) 254 refl z.0 z.1

    module _ {s : Pick} (f : s ≡ pick_of (later_choice q last) (wait_by q StageCase.Later)) where
      -- rows 23 to 25
      pub state_nothing : (out firsts : List ℕ) (wait : Wait) → s ≡ unpicked wait → Gives (later_state q out tlcs firsts remote local) (waiting wait) out
      state_nothing out firsts wait g =
          let p = pick_wait (later_choice q last) (wait_by q StageCase.Later) wait (sym f ∙ g) in
          rw (← p.1.1)
          (leaves_as _ _ (ready_yes r out _ y ∙ state_as out firsts) _ _
          (nothing_chosen q remote local last (λ c. None) (later_place q.h firsts) (wait_by q StageCase.Later) out (later_choice q last) p.0 p.1.0))

      module _ {choice : Choice} {key : Key} (g : s ≡ picked choice key) where
        state_picked : later_choice q last ≡ chooses choice key
        state_picked = pick_chosen (later_choice q last) (wait_by q StageCase.Later) choice key (sym f ∙ g)

        pub state_within : Within (length (tracked_tlcs q)) (length (pairs q)) choice
        state_within = (subst (StepWithin (length (tracked_tlcs q)) (length (settlement_tlcs q)) (length (pairs q))) state_picked (choice_within q last)).0

        -- what is handed out
        pub state_chosen : (out firsts : List ℕ) (place : ℕ) → place ≡ later_place q.h firsts choice → (a : Answer) (after : List ℕ)
            → Gives (handed_out q.h q.args (tracked_tlcs q) (pairs q) remote local last choice key None place out) a after
            → Gives (later_state q out tlcs firsts remote local) a after
        state_chosen out firsts place k a after w =
            leaves_as _ _ (one_chosen q remote local last (λ c. None) (later_place q.h firsts) (wait_by q StageCase.Later) out (later_choice q last) choice key state_picked ∙ ready_yes r out _ y ∙ state_as out firsts) a after (rw k at w)

module _ (q : Request) (w out : List ℕ) where
  by_refused : (u : Unlocked) (r : Refusal) → LeavesAs q.h w u (Err r) → Gives (later_of q w out u) (refused r) out
  unfolding LeavesAs later_of
  by_refused (fine n share_place t) r j = absurd j
  by_refused (faulty p) r j = (ap refused j, refl)

  -- of what a witness leaves, by the marks
  abbrev of_left : StateLeft → Outcome Answer
  of_left x =
      let m = x.records.marks.now in
      later_state q out (standing_of x.records) (unsettled (marked m) 0 (length m)) x.shares.remote.now x.shares.local.now

  by_left : (u : Unlocked) (x : StateLeft) → LeavesAs q.h w u (Ok x) → of_left x ≡ later_of q w out u
  unfolding LeavesAs later_of
  by_left (fine n share_place t) x j =
      rw (j.stands, j.remote, j.local, unsettled_marked x.records.marks.now t.settled j.says 0 (length x.records.marks.now) (omega arith), j.many)
  by_left (faulty p) x j = absurd j

  -- a witness that is turned down
  pub later_refused : (r : Refusal) → LeavesAs q.h w (unlocked q.h w) (Err r) → Gives (later q w out) (refused r) out
  unfolding later
  later_refused r j = by_refused (unlocked q.h w) r j

  -- one of which this is left
  pub later_left : (x : StateLeft) → LeavesAs q.h w (unlocked q.h w) (Ok x) → of_left x ≡ later q w out
  unfolding later
  later_left x j = by_left (unlocked q.h w) x j

-- ---- a first settlement

-- its place is below a limit of their number
pub within_below : (n m k : ℕ) (choice : Choice) → n ≤ k → Within n m choice → Below k choice
unfolding Within Below
within_below n m k (ChoiceCase.Share side) h w = tt
within_below n m k (ChoiceCase.Tlc place way) h w = omega (arith, w.0)

-- ---- where its record is

module _ (h : ℕ) (choice : Choice) where
  module _ (place : ℕ) (way : Way) where
    -- it begins within 255 of them
    pub place_few : (h ≤ 32) × Below 255 choice → choice ≡ ChoiceCase.Tlc place way → place * (98 + h) ≤ 255 * 130
    unfolding Below
    place_few p e =
        let b : place < 255 = rw e at p.1 in
        let m : place ≤ 255 = omega arith in
        omega (arith, p.0, mul-le-mul_right (98 + h) m)

-- so there are as many tracked TLCs as settlement TLCs
pub same_many : (h : ℕ) (b : Bool) (us ts : List (List ℕ)) (s : Bool) → s ≡ same_lists (first_records h b us) (tracked_records ts) → s ≡ true → length us ≡ length ts
same_many h b us ts s e f = sym (firsts_count h b us) ∙ lists_length _ _ (sym e ∙ f) ∙ tracked_length ts

-- no length is 0
lengths_some : (h n full : Epoch) → lengths_zero h n full ≡ false → (h.length ≡ 0 → ⊥) × ((n.length ≡ 0 → ⊥) × (full.length ≡ 0 → ⊥))
unfolding lengths_zero
lengths_some h n full = go (eqb h.length 0) (eqb n.length 0) (eqb full.length 0) refl refl refl
  where
    go : (x y z : Bool) → eqb h.length 0 ≡ x → eqb n.length 0 ≡ y → eqb full.length 0 ≡ z → (x || y || z) ≡ false
        → (h.length ≡ 0 → ⊥) × ((n.length ≡ 0 → ⊥) × (full.length ≡ 0 → ⊥))
    go true y z p q r g = absurd (false≢true (sym g))
    go false true z p q r g = absurd (false≢true (sym g))
    go false false true p q r g = absurd (false≢true (sym g))
    go false false false p q r g = (eqb-false _ 0 p, (eqb-false _ 0 q, eqb-false _ 0 r))

-- Where the walk may begin, the epochs can be compared, at most 254 TLCs are lent, and as many are tracked.
pub record FirstReady (q : Request) (full : Epoch) : Type 0 where
  pub some : (q.header.length ≡ 0 → ⊥) × ((q.current.length ≡ 0 → ⊥) × (full.length ≡ 0 → ⊥))
  pub few : length (settlement_tlcs q) ≤ 254
  pub many : length (settlement_tlcs q) ≡ length (tracked_tlcs q)

pub first_ready_lem : (q : Request) (full : Epoch) → first_ready q full ≡ begins → FirstReady q full
unfolding first_ready
first_ready_lem q full = go (lengths_zero q.header q.current full) (leb (length (settlement_tlcs q)) 254) (same_lists (first_records q.h q.for_remote (settlement_tlcs q)) (tracked_records (tracked_tlcs q))) refl refl refl
  where
    go : (x y z : Bool) → lengths_zero q.header q.current full ≡ x → leb (length (settlement_tlcs q)) 254 ≡ y
        → same_lists (first_records q.h q.for_remote (settlement_tlcs q)) (tracked_records (tracked_tlcs q)) ≡ z
        → cond x (stops LengthZero) (cond y (cond z begins (stops_waiting WaitCase.ListDiffers)) (stops TooManyTlcs)) ≡ begins → FirstReady q full
    go true y z a b c e = absurd (subst No e tt)
    go false false z a b c e = absurd (subst No e tt)
    go false true false a b c e = absurd (subst No e tt)
    go false true true a b c e = record {
      some = lengths_some q.header q.current full a;
      few = leb-true (length (settlement_tlcs q)) 254 b;
      many = same_many q.h q.for_remote (settlement_tlcs q) (tracked_tlcs q) true (sym c) refl;
    }

-- the same of what the code finds, the fields of the epochs being within their bits
module _ (q : Request) (full : Epoch) (r : Ready) (e : r ≡ first_ready q full) (f : r ≡ begins) where
  found : FirstReady q full
  found = first_ready_lem q full (sym e ∙ f)

  pub ready_few : length (tracked_tlcs q) ≤ 254
  ready_few = omega (arith, found.few, found.many)

  pub ready_many : length (settlement_tlcs q) ≡ length (tracked_tlcs q)
  ready_many = found.many

  pub ready_bounded : within_bits q.header ≡ true → within_bits q.current ≡ true → Bounded q.header × Bounded q.current
  ready_bounded a b = (within q.header a found.some.0, within q.current b found.some.1.0)

  pub ready_full : within_bits full ≡ true → Bounded full
  ready_full a = within full a found.some.1.1

module _ (q : Request) (full : Epoch) (out : List ℕ) (r : Ready) (e : r ≡ first_ready q full) where
  -- rows 7, 12 and 20
  pub first_stops : (why : NoChoice) → r ≡ Err why → Gives (first q full out) (Err why) out
  unfolding first
  first_stops why f = ready_stops (first_ready q full) out _ why (sym e ∙ f)

  -- none of them
  pub first_begins : r ≡ begins → first_thirds q out full (scaled full 1 3) (scaled full 2 3) ≡ first q full out
  unfolding first
  first_begins f = ready_yes (first_ready q full) out _ (sym e ∙ f)

-- what the walk chooses is among the tracked TLCs
pub first_within : (q : Request) (d : Dues) → length (settlement_tlcs q) ≡ length (tracked_tlcs q)
    → StepWithin (length (tracked_tlcs q)) (length (settlement_tlcs q)) (length (pairs q)) (walked_by q (StageCase.First d))
first_within q d e =
    walked_within q.h q.for_remote q.time (settlement_tlcs q) (pairs q) (StageCase.First d) (length (tracked_tlcs q)) (reaches_first d (length (tracked_tlcs q)) (length (settlement_tlcs q)) e) (tracked_tlcs q) refl

-- What the code finds by the thirds of the delay: which parts of it are due, and what the walk picks.
pub record ByThirds (q : Request) (full third two : Epoch) (d : Dues) (s : Pick) : Type 0 where
  pub third_is : scaled full 1 3 ≡ Ok third
  pub two_is : scaled full 2 3 ≡ Ok two
  pub dues : d ≡ dues_by q.header third two full q.current
  pub picks : s ≡ pick_of (walked_by q (StageCase.First d)) (wait_by q (StageCase.First d))

module _ {q : Request} {full third two : Epoch} {d : Dues} {s : Pick} (t : ByThirds q full third two d s) where
  -- the delay that goes with a choice
  abbrev scaled_delay : Choice → Option Epoch
  scaled_delay choice = Some (first_delay third two full choice)

  abbrev remotely : List ℕ
  remotely = first_remote q.for_remote q.settlement

  abbrev locally : List ℕ
  locally = first_local q.for_remote q.settlement

  -- the walk, and its wait
  abbrev walks : Step
  walks = walked_by q (StageCase.First d)

  abbrev waits : Wait
  waits = wait_by q (StageCase.First d)

  thirds_as : (out : List ℕ) → or_wait q remotely locally false scaled_delay (first_place q.h) waits out walks ≡ first_thirds q out full (scaled full 1 3) (scaled full 2 3)
  unfolding first_thirds
  thirds_as out = rw (t.third_is, t.two_is, ← t.dues)

  -- rows 22 to 25
  pub thirds_nothing : (out : List ℕ) (wait : Wait) → s ≡ unpicked wait → Gives (first_thirds q out full (scaled full 1 3) (scaled full 2 3)) (waiting wait) out
  thirds_nothing out wait g =
      let p = pick_wait walks waits wait (sym t.picks ∙ g) in
      rw (← p.1.1) (leaves_as _ _ (thirds_as out) _ _ (nothing_chosen q remotely locally false scaled_delay (first_place q.h) waits out walks p.0 p.1.0))

  module _ {choice : Choice} {key : Key} (g : s ≡ picked choice key) where
    thirds_picked : walks ≡ chooses choice key
    thirds_picked = pick_chosen walks waits choice key (sym t.picks ∙ g)

    pub thirds_within : length (settlement_tlcs q) ≡ length (tracked_tlcs q) → Within (length (tracked_tlcs q)) (length (pairs q)) choice
    thirds_within m = (subst (StepWithin (length (tracked_tlcs q)) (length (settlement_tlcs q)) (length (pairs q))) thirds_picked (first_within q d m)).0

    -- what is handed out
    pub thirds_chosen : (out remote local : List ℕ) (delay : Epoch) (place : ℕ) → remote ≡ first_remote q.for_remote q.settlement → local ≡ first_local q.for_remote q.settlement
        → delay ≡ first_delay third two full choice → place ≡ first_place q.h choice → (a : Answer) (after : List ℕ)
        → Gives (handed_out q.h q.args (tracked_tlcs q) (pairs q) remote local false choice key (Some delay) place out) a after
        → Gives (first_thirds q out full (scaled full 1 3) (scaled full 2 3)) a after
    thirds_chosen out remote local delay place er el ed ep a after w =
        leaves_as _ _ (one_chosen q remotely locally false scaled_delay (first_place q.h) waits out walks choice key thirds_picked ∙ thirds_as out) a after (rw (er, el, ed, ep) at w)

-- ---- where a TLC that stands was, and its record

-- the k-th that is kept was at the k-th place
abbrev KeptAt : List (List ℕ) → List (List ℕ) → List ℕ → ℕ → Type 0
KeptAt rs kept ps k = k < length kept → (get_or ps k 0 < length rs) × (get_or kept k [] ≡ get_or rs (get_or ps k 0) [])

-- those that are kept were at the places that are not settled
keep_at : (s : List ℕ) (rs : List (List ℕ)) (m i k : ℕ) → i + m ≡ length rs → KeptAt rs (keep s i (drop i rs)) (unsettled s i m) k
unfolding keep unsettled
keep_at s rs zero i k e =
    let f : length rs ≤ i = omega arith in
    λ g. absurd (omega (arith, g, ap (λ (l : List (List ℕ)). length (keep s i l)) (drop_of_length-le rs f)))
keep_at s rs (suc m) i k e =
    let f : i < length rs = omega arith in
    rw (keep_cons s rs i f) (go (keep s (i + 1) (drop (i + 1) rs)) (unsettled s (i + 1) m) f (λ j. keep_at s rs m (i + 1) j (omega arith)) (member i s) k)
  where
    go : (kept : List (List ℕ)) (ps : List ℕ) → i < length rs → ((j : ℕ) → KeptAt rs kept ps j)
        → (b : Bool) (k : ℕ) → KeptAt rs (cond b kept (get_or rs i [] ∷ kept)) (cond b ps (i ∷ ps)) k
    go kept ps f c true k g = c k g
    go kept ps f c false zero g = (f, refl)
    go kept ps f c false (suc k) g = c k (omega arith)

-- so its record is a part of the witness
pub standing_at : (h : ℕ) (w : List ℕ) (n : ℕ) (s : List ℕ) (k : ℕ) → k < length (standing h w n s)
    → part w (2 + get_or (unsettled s 0 n) k 0 * record_len h) (record_len h) ≡ get_or (standing h w n s) k []
unfolding standing
standing_at h w n s k g =
    let p = keep_at s (chunks (record_len h) n (drop 2 w)) n 0 k (omega (arith, records_length (record_len h) n (drop 2 w))) g in
    let j : ℕ = get_or (unsettled s 0 n) k 0 in
    let b : j < n = omega (arith, p.0, records_length (record_len h) n (drop 2 w)) in
    sym (p.1 ∙ record_at (record_len h) n (drop 2 w) j b ∙ ap (take (record_len h)) (drop-drop (j * record_len h) 2 w))

-- ---- before a first settlement's walk

-- where it may begin, the built records are the tracked ones
pub first_built : (q : Request) (full : Epoch) → first_ready q full ≡ begins → first_records q.h q.for_remote (settlement_tlcs q) ≡ tracked_records (tracked_tlcs q)
unfolding first_ready
first_built q full r = lists_equal _ _ (go (lengths_zero q.header q.current full) (leb (length (settlement_tlcs q)) 254) _ r)
  where
    go : (x y z : Bool) → cond x (stops LengthZero) (cond y (cond z begins (stops_waiting WaitCase.ListDiffers)) (stops TooManyTlcs)) ≡ begins → z ≡ true
    go x y true e = refl
    go true y false e = cc
    go false true false e = cc
    go false false false e = cc
