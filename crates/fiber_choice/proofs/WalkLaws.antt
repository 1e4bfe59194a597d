-- Laws of `specs/Walk.antt`: the loop over the TLCs, for both settlements, and what a walk can choose.
-- Assumes nothing.
use Prim.Native.Nat.{ℕ, ◌+◌, ◌-◌, ◌≤◌, ◌<◌}
use native.Mathlib.Omega.{arith}
use mathlib.Core.Path.{◌≡◌, refl, sym, ap, subst, ◌∙◌}
use mathlib.Core.Bool.{Bool, true, false, cond, ◌&&◌, false≢true}
use mathlib.Core.List.{List, [], ◌∷◌}
use lib.Dec.{eqb, ltb}
use lib.ListN.{length, get_or, drop}
use borrow.Author.Tests.{eq-eqb, eqb-true}
use Rattle.std.specs.Prelude.{Ok, Option, Some, None}
use Rattle.std.specs.declared.ops.ControlFlow.{ControlFlow}
use Rattle.std.specs.declared.ops.ControlFlow.TheVariants.{Continue, Break}
use Rattle.fiber_bytes.proofs.CaseLaws.{by_each, by_test}
use Rattle.fiber_choice.specs.declared.kinds.Stage.{Stage}
use Rattle.fiber_choice.specs.declared.kinds.Stage.TheVariants as StageCase
use Rattle.fiber_choice.specs.declared.kinds.Noted.{Noted}
use Rattle.fiber_choice.specs.declared.kinds.Chosen.{Chosen}
use Rattle.fiber_choice.specs.declared.kinds.Cause.{Cause}
use Rattle.fiber_choice.specs.declared.kinds.Wait.{Wait}
use Rattle.fiber_choice.specs.declared.kinds.Wait.TheVariants as WaitCase
use Rattle.fiber_choice.specs.declared.kinds.Dues.{Dues}
use Rattle.fiber_choice.specs.Entries.{entries}
use Rattle.fiber_choice.specs.Walk.{Step, pends, our_share, Verdict, passed, timeout, ready, falls, step_of, onward, walk, or_share}
use Rattle.fiber_choice.specs.Verdicts.{verdict, verdicts, may_share, walked}
use Rattle.fiber_choice.specs.Waits.{still, status_by, first_pending}
use Rattle.fiber_choice.specs.inner.Plan.{Reaches, ReachesAll, Within, Below}
use Rattle.fiber_choice.specs.inner.Noting.{noted, onward_noting, noting, verdict_at, WaitsAt, pick_of, unpicked}
use Rattle.fiber_choice.specs.Promises.{KeyIn}
use Rattle.fiber_choice.proofs.EntriesLaws.{EntryLeft, entry_left}
use Rattle.fiber_choice.proofs.VerdictsLaws.{VerdictWithin, verdict_within}
use Rattle.fiber_choice.proofs.WaitsLaws.{lead, Unchosen, count_one, still_pends, gone_falls, Leads, leads, unnoted, Notes, Behind, noting_walks, noting_lead, walk_unchosen, walk_falls, verdicts_length, verdicts_at, share_stays}

-- ---- the loop

module _ (h : ℕ) (for_remote : Bool) (time : ℕ) (tlcs ps : List (List ℕ)) (stage : Stage) where
  -- the walk over tracked TLCs, from a place on with so many pending, as the code notes the first that is
  abbrev pub note_from : ℕ → ℕ → Option ℕ → List (List ℕ) → ControlFlow Chosen Noted
  note_from place pending first ts = noting time place pending first (verdicts h for_remote tlcs ps stage place ts)

  -- At a place, with the tracked TLCs that are left: to walk on from here gives what the whole walk gives.
  pub record Walking (size : ℕ) (s : List ℕ) (whole : ControlFlow Chosen Noted) (pending : ℕ) (first : Option ℕ) (es : List (List ℕ)) (place : ℕ) : Type 0 where
    pub left : es ≡ drop place (entries size s)
    pub rest : note_from place pending first es ≡ whole

  -- before the first, all are pending
  pub walking_start : (size : ℕ) (s : List ℕ) (es : List (List ℕ)) (n : ℕ) → n ≡ length (entries size s) → es ≡ entries size s
      → Walking size s (note_from 0 (length (entries size s)) None (entries size s)) n None es 0
  walking_start size s es n e f = record { left = f; rest = rw (e, f) }

  module _ (size : ℕ) (s : List ℕ) (whole : ControlFlow Chosen Noted) (pending : ℕ) (first : Option ℕ) (es : List (List ℕ)) (place : ℕ)
      (c : Walking size s whole pending first es place) where
    -- none was chosen
    pub walking_end : es ≡ [] → Continue (record { pending = pending; first = first }) ≡ whole
    unfolding noting verdicts
    walking_end e = rw e at c.rest

    module _ (t : List ℕ) (ts : List (List ℕ)) (e : es ≡ t ∷ ts) where
      -- the TLC is whole
      pub walking_at : EntryLeft size s place t ts
      walking_at = entry_left size s place es t ts c.left e

      module _ (w : Step) (f : w ≡ step_of time place pending (verdict h for_remote tlcs ps stage place t)) where
        -- one is chosen
        pub walking_chosen : (chosen : Chosen) → w ≡ Break chosen → Break chosen ≡ whole
        unfolding noting verdicts onward_noting
        walking_chosen chosen k = rw (e, sym f ∙ k) at c.rest

        -- on to the next
        pub walking_on : (left : ℕ) (next : Option ℕ) → w ≡ pends left → next ≡ noted place pending left first → Walking size s whole left next ts (place + 1)
        unfolding noting verdicts onward_noting
        walking_on left next k n = record { left = walking_at.rest; rest = rw n (rw (e, sym f ∙ k) at c.rest) }

-- ---- behind it

module _ (for_remote may : Bool) (s : Step) where
  -- where nothing is named, nothing was chosen, and our share may not be taken or some are pending
  pub share_waits : (left : ℕ) → or_share for_remote may s ≡ pends left → (s ≡ pends left) × ((left ≡ 0) × (may ≡ true) → ⊥)
  unfolding or_share onward
  share_waits left = go s
    where
      go : (s : Step) → onward s (λ pending. cond (eqb pending 0 && may) (our_share for_remote) (pends pending)) ≡ pends left
          → (s ≡ pends left) × ((left ≡ 0) × (may ≡ true) → ⊥)
      go (Break c) = λ e. absurd (subst Unchosen (sym e) tt)
      go (pends pending) =
          by_test (λ (x : Step). x ≡ pends left → (pends pending ≡ pends left) × ((left ≡ 0) × (may ≡ true) → ⊥)) (eqb pending 0 && may) _ _
          (λ f e. absurd (subst Unchosen (sym e) tt))
          (λ f e. (e, λ z. false≢true (sym f ∙ rw (eq-eqb pending 0 (count_one e ∙ z.0), z.1) refl)))

-- a later settlement needs no settlement TLC of the place, a first one has it
pub reaches_later : (n k : ℕ) → ReachesAll StageCase.Later n k
unfolding Reaches
reaches_later n k place g = tt

pub reaches_first : (d : Dues) (n k : ℕ) → k ≡ n → ReachesAll (StageCase.First d) n k
unfolding Reaches
reaches_first d n k e place g = omega arith

-- so either has what the places of the tracked TLCs ask, where a first one has no fewer settlement TLCs
pub reaches_all : (stage : Stage) (n k : ℕ) → ((d : Dues) → stage ≡ StageCase.First d → n ≤ k) → ReachesAll stage n k
unfolding Reaches
reaches_all StageCase.Later n k e place g = tt
reaches_all (StageCase.First d) n k e place g = omega (arith, e d refl, g)

-- ---- what is chosen

-- Among n TLCs, k settlement TLCs and m pairs. Where nothing is chosen nothing is said.
abbrev pub StepWithin : ℕ → ℕ → ℕ → Step → Type 0
StepWithin n k m (pends pending) = Unit {0}
StepWithin n k m (Break c) = Within n m c.choice × KeyIn k c.key

module _ (n k m : ℕ) where
  -- one step chooses its own place
  step_within : (time place pending : ℕ) → place < n → (v : Verdict) → VerdictWithin k m v → StepWithin n k m (step_of time place pending v)
  unfolding step_of Within Below
  step_within time place pending h (passed why) f = tt
  step_within time place pending h (timeout ms key) f = by_each (StepWithin n k m) (ltb ms time) _ _ ((h, tt), f) tt
  step_within time place pending h (ready pair_place key) f = ((h, f.0), f.1)
  step_within time place pending h (falls ms) f = tt

  onward_within : (w : Step) (rest : ℕ → Step) → StepWithin n k m w → ((p : ℕ) → StepWithin n k m (rest p)) → StepWithin n k m (onward w rest)
  unfolding onward
  onward_within (pends left) rest f g = g left
  onward_within (Break c) rest f g = f

  share_within : (for_remote may : Bool) (s : Step) → StepWithin n k m s → StepWithin n k m (or_share for_remote may s)
  unfolding or_share onward Within Below
  share_within for_remote may (pends pending) f = by_each (StepWithin n k m) (eqb pending 0 && may) _ _ ((tt, tt), tt) tt
  share_within for_remote may (Break c) f = f

module _ (h : ℕ) (for_remote : Bool) (time : ℕ) (tlcs ps : List (List ℕ)) (stage : Stage) (n : ℕ) (r : ReachesAll stage n (length tlcs)) where
  walk_within : (ts : List (List ℕ)) (place pending : ℕ) → place + length ts ≤ n
      → StepWithin n (length tlcs) (length ps) (walk time place pending (verdicts h for_remote tlcs ps stage place ts))
  unfolding walk verdicts
  walk_within [] place pending g = tt
  walk_within (t ∷ ts) place pending g =
      onward_within n (length tlcs) (length ps) (step_of time place pending (verdict h for_remote tlcs ps stage place t)) (λ p. walk time (place + 1) p (verdicts h for_remote tlcs ps stage (place + 1) ts))
      (step_within n (length tlcs) (length ps) time place pending (omega arith) _ (verdict_within for_remote ps h tlcs stage place t (r place (omega arith))))
      (λ p. walk_within ts (place + 1) p (omega arith))

  -- so what is walked is among the tracked TLCs
  pub walked_within : (ts : List (List ℕ)) → length ts ≡ n → StepWithin n (length tlcs) (length ps) (walked h for_remote time tlcs ps stage ts)
  unfolding walked
  walked_within ts e = share_within n (length tlcs) (length ps) for_remote (may_share stage) _ (walk_within ts 0 (length ts) (omega arith))

-- ---- where nothing is named

-- which kind of wait it is
abbrev OfTlc : Wait → Type 0
OfTlc WaitCase.ListDiffers = Unit {0}
OfTlc WaitCase.NotOurShare = Unit {0}
OfTlc WaitCase.DelayNotDue = ⊥
OfTlc (WaitCase.Tlc place cause) = Unit {0}

cause_of : {x y : ℕ} {c d : Cause} → WaitCase.Tlc x c ≡ WaitCase.Tlc y d → c ≡ d
cause_of e = cc

place_one : {x y : ℕ} {c d : Cause} → WaitCase.Tlc x c ≡ WaitCase.Tlc y d → x ≡ y
place_one e = cc

module _ (h : ℕ) (for_remote : Bool) (time : ℕ) (tlcs ps : List (List ℕ)) (stage : Stage) (ts : List (List ℕ)) where
  abbrev vs : List Verdict
  vs = verdicts h for_remote tlcs ps stage 0 ts

  -- the walk's own step at a place
  abbrev pub count_at : ℕ → ℕ → Step
  count_at place count = step_of time place count (verdict h for_remote tlcs ps stage place (get_or ts place []))

  many : length vs ≡ length ts
  many = verdicts_length h for_remote tlcs ps stage 0 ts

  verdict_at_lem : (i : ℕ) → i < length ts → verdict_at vs i ≡ verdict h for_remote tlcs ps stage i (get_or ts i [])
  verdict_at_lem i g = verdicts_at h for_remote tlcs ps stage 0 ts i g ∙ ap (λ (k : ℕ). verdict h for_remote tlcs ps stage k (get_or ts i [])) (omega arith)

  first : Leads time 0 vs (lead time vs) (first_pending time 0 vs)
  first = leads time 0 vs

  module _ (left : ℕ) (e : walked h for_remote time tlcs ps stage ts ≡ pends left) where
    -- the walk chose nothing, and our share may not be taken or some are left
    unchosen : (walk time 0 (length ts) vs ≡ pends left) × ((left ≡ 0) × (may_share stage ≡ true) → ⊥)
    unfolding walked
    unchosen = share_waits for_remote (may_share stage) (walk time 0 (length ts) vs) left e

    steps_unchosen : (i : ℕ) → i < length ts → (count : ℕ) → Unchosen (count_at i count)
    steps_unchosen i g count =
        let u : Unchosen (walk time 0 (length ts) vs) = subst Unchosen (sym unchosen.0) tt in
        let z : 0 + i ≡ i = omega arith in
        rw (verdict_at_lem i g, z) at (walk_unchosen time 0 (length ts) vs u i (omega (arith, g, many)) count)

    -- no TLC is pending
    pub waits_without : first_pending time 0 vs ≡ WaitCase.DelayNotDue → (ts ≡ []) × (may_share stage ≡ false)
    waits_without f = (none_stand ts refl, early)
      where
        all_gone : lead time vs ≡ length vs
        all_gone = at_most first.low (λ g. subst OfTlc (sym (first.some g).1.1 ∙ f) tt)
          where
            at_most : {x y : ℕ} → x ≤ y → (x < y → ⊥) → x ≡ y
            at_most p q = omega (arith, p, q)

        early : may_share stage ≡ false
        early = go (may_share stage) refl
          where
            go : (b : Bool) → may_share stage ≡ b → b ≡ false
            go false p = refl
            go true p = absurd (unchosen.1 (omega (arith, many, walk_falls time 0 (length ts) vs (omega (arith, many)) all_gone left unchosen.0), p))

        none_stand : (us : List (List ℕ)) → ts ≡ us → us ≡ []
        none_stand [] p = refl
        none_stand (u ∷ us) p =
            let g : 0 < length ts = rw p (omega arith) in
            absurd (share_stays time 0 0 h for_remote tlcs ps stage 0 (get_or ts 0 []) early (steps_unchosen 0 g 0) (ap (status_by time) (sym (verdict_at_lem 0 g)) ∙ first.before 0 (omega (arith, all_gone, many, g))))

    module _ (place : ℕ) (cause : Cause) (f : first_pending time 0 vs ≡ WaitCase.Tlc place cause) where
      -- the place is that of the first
      leads_there : (lead time vs < length vs) × (place ≡ lead time vs)
      leads_there =
          let g : lead time vs < length vs = there first.low (λ z. subst OfTlc (sym f ∙ first.none z) tt) in
          (g, place_one (sym f ∙ (first.some g).1.1) ∙ omega arith)
        where
          there : {x y : ℕ} → x ≤ y → (x ≡ y → ⊥) → x < y
          there p q = omega (arith, p, q)

      pub waits_stands : place < length ts
      waits_stands = omega (arith, leads_there.0, leads_there.1, many)

      -- the cause is that of its verdict
      pub waits_cause : status_by time (verdict h for_remote tlcs ps stage place (get_or ts place [])) ≡ still cause
      waits_cause =
          let p = first.some leads_there.0 in
          ap (status_by time) (sym (verdict_at_lem place waits_stands) ∙ ap (verdict_at vs) leads_there.1) ∙ p.1.0 ∙ ap still (cause_of (sym p.1.1 ∙ f))

      pub waits_pends : (count : ℕ) → count_at place count ≡ pends count
      waits_pends count = still_pends time place count _ cause waits_cause

      pub waits_fell : (i : ℕ) → i < place → (count : ℕ) → count_at i count ≡ pends (count - 1)
      waits_fell i g count =
          let b : i < length ts = omega (arith, g, waits_stands) in
          gone_falls time i count _ (ap (status_by time) (sym (verdict_at_lem i b)) ∙ first.before i (omega (arith, g, leads_there.1))) (steps_unchosen i b count)

-- ---- as the code puts them together

module _ (h : ℕ) (for_remote : Bool) (time : ℕ) (tlcs ps : List (List ℕ)) (stage : Stage) (ts : List (List ℕ)) (found : ControlFlow Chosen Noted)
    (e : found ≡ note_from h for_remote time tlcs ps stage 0 (length ts) None ts) where
  abbrev wait_for : Wait
  wait_for = first_pending time 0 (verdicts h for_remote tlcs ps stage 0 ts)

  -- what was found, without what it noted, is the walk
  walks_as : unnoted found ≡ walk time 0 (length ts) (verdicts h for_remote tlcs ps stage 0 ts)
  walks_as = ap unnoted e ∙ noting_walks time 0 (length ts) None (verdicts h for_remote tlcs ps stage 0 ts)

  -- one was chosen
  pub picked_chosen : (chosen : Chosen) → found ≡ Break chosen → Ok chosen ≡ pick_of (walked h for_remote time tlcs ps stage ts) wait_for
  unfolding pick_of walked or_share onward
  picked_chosen chosen f = rw (← walks_as, f)

  module _ (n : Noted) (f : found ≡ Continue n) where
    -- none chosen and none pending: our share, where it may be taken
    pub picked_share : n.pending ≡ 0 → may_share stage ≡ true → (chosen : Chosen) → Break chosen ≡ our_share for_remote
        → Ok chosen ≡ pick_of (walked h for_remote time tlcs ps stage ts) wait_for
    unfolding pick_of walked or_share onward
    picked_share z m chosen o = rw (← walks_as, f, eq-eqb n.pending 0 z, m) (ap (λ (s : Step). pick_of s wait_for) o)

    module _ (m : (n.pending ≡ 0) × (may_share stage ≡ true) → ⊥) where
      -- else it waits
      pub picked_wait : (w : Wait) → w ≡ wait_for → unpicked w ≡ pick_of (walked h for_remote time tlcs ps stage ts) wait_for
      unfolding pick_of walked or_share onward
      picked_wait w k = rw (← walks_as, f, no_share, k)
        where
          no_share : (eqb n.pending 0 && may_share stage) ≡ false
          no_share = go (eqb n.pending 0) (may_share stage) refl refl
            where
              go : (x y : Bool) → eqb n.pending 0 ≡ x → may_share stage ≡ y → (x && y) ≡ false
              go true true p q = absurd (m (eqb-true n.pending 0 p, q))
              go true false p q = refl
              go false y p q = refl

    -- the place that was noted is that of the wait
    pub picked_place : WaitsAt time (verdicts h for_remote tlcs ps stage 0 ts) n.first wait_for
    picked_place =
        subst (Notes (λ k. WaitsAt time us k wait_for)) (sym e ∙ f)
        (noting_lead (λ k. WaitsAt time us k wait_for) time 0 (length ts) us (omega (arith, verdicts_length h for_remote tlcs ps stage 0 ts)) (subst Unchosen (sym u) tt) go)
      where
        us : List Verdict
        us = verdicts h for_remote tlcs ps stage 0 ts

        first : Leads time 0 us (lead time us) (first_pending time 0 us)
        first = leads time 0 us

        u : walk time 0 (length ts) us ≡ pends n.pending
        u = sym walks_as ∙ ap unnoted f

        go : (k : Option ℕ) → Behind 0 (lead time us) (length us) k → WaitsAt time us k wait_for
        go (Some k) b =
            let s = first.some b.0 in
            let z : k ≡ lead time us = omega (arith, b.1) in
            (s.0, (omega (arith, b.0, z), (rw z s.1.0, s.1.1 ∙ ap (λ (i : ℕ). WaitCase.Tlc i s.0) (omega (arith, z)))))
        go None b = first.none b
