-- Laws of `specs/Waits.antt`: the first TLC that is still pending, by the walk's own count, and as the code notes it.
-- Assumes nothing.
use Prim.Native.Nat.{ℕ, zero, suc, ◌+◌, ◌-◌, ◌≤◌, ◌<◌}
use native.Mathlib.Omega.{arith}
use mathlib.Core.Path.{◌≡◌, refl, sym, ap, subst, ◌∙◌}
use mathlib.Core.Bool.{Bool, true, false, false≢true}
use mathlib.Core.List.{List, [], ◌∷◌}
use lib.Dec.{eqb, ltb}
use lib.ListN.{length, get_or}
use borrow.Author.Tests.{lt-leb, le-leb}
use Rattle.std.specs.Prelude.{Option, Some, None, IfSome}
use Rattle.std.specs.declared.ops.ControlFlow.{ControlFlow}
use Rattle.std.specs.declared.ops.ControlFlow.TheVariants.{Continue, Break}
use Rattle.fiber_bytes.proofs.CaseLaws.{by_each, by_test₂}
use Rattle.fiber_choice.specs.declared.kinds.Cause.{Cause}
use Rattle.fiber_choice.specs.declared.kinds.Cause.TheVariants as CauseCase
use Rattle.fiber_choice.specs.declared.kinds.Wait.{Wait}
use Rattle.fiber_choice.specs.declared.kinds.Wait.TheVariants as WaitCase
use Rattle.fiber_choice.specs.declared.kinds.Chosen.{Chosen}
use Rattle.fiber_choice.specs.declared.kinds.Noted.{Noted}
use Rattle.fiber_choice.specs.declared.kinds.Dues.{Dues}
use Rattle.fiber_choice.specs.declared.kinds.Stage.{Stage}
use Rattle.fiber_choice.specs.declared.kinds.Stage.TheVariants as StageCase
use Rattle.fiber_choice.specs.Entries.{received, expiry_ms}
use Rattle.fiber_choice.specs.Preimages.{counting_pair}
use Rattle.fiber_choice.specs.Walk.{Step, pends, timeout_kind, Verdict, passed, timeout, ready, falls, step_of, onward, walk}
use Rattle.fiber_choice.specs.Verdicts.{by_pair, first_verdict, verdict, verdicts, may_share}
use Rattle.fiber_choice.specs.Waits.{cause_number, wait_number, Status, still, gone, status_by, or_behind, first_pending}
use Rattle.fiber_choice.specs.inner.Noting.{noted, onward_noting, noting, verdict_at, PendsFor, WaitsAt}

-- ---- one TLC, and the walk's count

-- a step that chooses nothing
abbrev pub Unchosen : Step → Type 0
Unchosen (pends left) = Unit {0}
Unchosen (Break c) = ⊥

-- what a TLC does to the count: still pending it leaves it, else the count falls
abbrev CountAs : ℕ → Status → Step → Type 0
CountAs count (still cause) s = s ≡ pends count
CountAs count gone s = Unchosen s → s ≡ pends (count - 1)

module _ (time place count : ℕ) where
  step_counts : (v : Verdict) → CountAs count (status_by time v) (step_of time place count v)
  unfolding status_by step_of
  step_counts (passed why) = refl
  step_counts (timeout ms key) = by_test₂ (CountAs count) (ltb ms time) _ _ _ _ (λ _ u. absurd u) (λ _. refl)
  step_counts (ready pair_place key) = λ u. absurd u
  step_counts (falls ms) = by_test₂ (λ l k. CountAs count l (pends k)) (ltb ms time) _ _ _ _ (λ _ u. refl) (λ _. refl)

  pub still_pends : (v : Verdict) (cause : Cause) → status_by time v ≡ still cause → step_of time place count v ≡ pends count
  still_pends v cause e = subst (λ (l : Status). CountAs count l (step_of time place count v)) e (step_counts v)

  pub gone_falls : (v : Verdict) → status_by time v ≡ gone → Unchosen (step_of time place count v) → step_of time place count v ≡ pends (count - 1)
  gone_falls v e = subst (λ (l : Status). CountAs count l (step_of time place count v)) e (step_counts v)

-- what is chosen does not depend on the count
pub unchosen_any : (time place count other : ℕ) (v : Verdict) → Unchosen (step_of time place count v) → Unchosen (step_of time place other v)
unfolding step_of
unchosen_any time place count other (passed why) = λ u. tt
unchosen_any time place count other (timeout ms key) = by_test₂ (λ x y. Unchosen x → Unchosen y) (ltb ms time) _ _ _ _ (λ _ u. u) (λ _ u. tt)
unchosen_any time place count other (ready pair_place key) = λ u. u
unchosen_any time place count other (falls ms) = λ u. tt

pub count_one : {x y : ℕ} → pends x ≡ pends y → x ≡ y
count_one e = cc

-- ---- the first that is pending

-- how many TLCs in front are not pending any more
lead_by : Status → ℕ → ℕ
lead_by (still cause) behind = 0
lead_by gone behind = suc behind

pub lead : ℕ → List Verdict → ℕ
lead time [] = 0
lead time (v ∷ vs) = lead_by (status_by time v) (lead time vs)

-- k TLCs from a place on are not pending any more; the next one is, or there is none
pub record Leads (time place : ℕ) (vs : List Verdict) (k : ℕ) (w : Wait) : Type 0 where
  pub low : k ≤ length vs
  pub none : k ≡ length vs → w ≡ WaitCase.DelayNotDue
  pub some : k < length vs → (cause : Cause) × ((status_by time (verdict_at vs k) ≡ still cause) × (w ≡ WaitCase.Tlc (place + k) cause))
  pub before : (i : ℕ) → i < k → status_by time (verdict_at vs i) ≡ gone

pub leads : (time place : ℕ) (vs : List Verdict) → Leads time place vs (lead time vs) (first_pending time place vs)
unfolding lead first_pending lead_by or_behind
leads time place [] = record { low = omega arith; none = λ e. refl; some = λ h. absurd (omega (arith, h)); before = λ i h. absurd (omega (arith, h)) }
leads time place (v ∷ vs) = go (status_by time v) refl (leads time (place + 1) vs)
  where
    go : (l : Status) → status_by time v ≡ l → Leads time (place + 1) vs (lead time vs) (first_pending time (place + 1) vs)
        → Leads time place (v ∷ vs) (lead_by l (lead time vs)) (or_behind place l (first_pending time (place + 1) vs))
    go (still cause) e r = record {
      low = omega arith;
      none = λ f. absurd (omega (arith, f));
      some = λ h. (cause, (e, ap (λ (p : ℕ). WaitCase.Tlc p cause) (omega arith)));
      before = λ i h. absurd (omega (arith, h));
    }
    go gone e r = record { low = omega (arith, r.low); none = λ f. r.none (omega (arith, f)); some = λ h. next (r.some (omega (arith, h))); before = behind }
      where
        next : (cause : Cause) × ((status_by time (verdict_at vs (lead time vs)) ≡ still cause) × (first_pending time (place + 1) vs ≡ WaitCase.Tlc (place + 1 + lead time vs) cause))
            → (cause : Cause) × ((status_by time (verdict_at vs (lead time vs)) ≡ still cause) × (first_pending time (place + 1) vs ≡ WaitCase.Tlc (place + suc (lead time vs)) cause))
        next p = (p.0, (p.1.0, p.1.1 ∙ ap (λ (k : ℕ). WaitCase.Tlc k p.0) (omega arith)))

        behind : (i : ℕ) → i < suc (lead time vs) → status_by time (verdict_at (v ∷ vs) i) ≡ gone
        behind zero h = e
        behind (suc i) h = r.before i (omega (arith, h))

-- its number is one of 22 to 25
pub pending_numbers : (time place : ℕ) (vs : List Verdict) → (22 ≤ wait_number (first_pending time place vs)) × (wait_number (first_pending time place vs) ≤ 25)
unfolding first_pending wait_number cause_number or_behind
pending_numbers time place [] = (omega arith, omega arith)
pending_numbers time place (v ∷ vs) = go (status_by time v) (pending_numbers time (place + 1) vs)
  where
    number : (c : Cause) → (22 ≤ cause_number c) × (cause_number c ≤ 25)
    number CauseCase.NoExpiry = (omega arith, omega arith)
    number CauseCase.NoKey = (omega arith, omega arith)
    number CauseCase.NotDue = (omega arith, omega arith)
    number CauseCase.NotExpired = (omega arith, omega arith)
    number CauseCase.NoPreimage = (omega arith, omega arith)

    go : (s : Status) → (22 ≤ wait_number (first_pending time (place + 1) vs)) × (wait_number (first_pending time (place + 1) vs) ≤ 25)
        → (22 ≤ wait_number (or_behind place s (first_pending time (place + 1) vs))) × (wait_number (or_behind place s (first_pending time (place + 1) vs)) ≤ 25)
    go (still cause) r = number cause
    go gone r = r

-- ---- as the code notes it

-- what a walk comes to, without what it noted
abbrev pub unnoted : ControlFlow Chosen Noted → Step
unnoted (Continue n) = pends n.pending
unnoted (Break chosen) = Break chosen

-- what holds of the place that it noted, where it chooses nothing
abbrev pub Notes : (Option ℕ → Type 0) → ControlFlow Chosen Noted → Type 0
Notes P (Continue n) = P n.first
Notes P (Break chosen) = Unit {0}

-- of n TLCs from a place on, the first behind k of them, or none where there are no more
abbrev pub Behind : ℕ → ℕ → ℕ → Option ℕ → Type 0
Behind place k n (Some first) = (k < n) × (first ≡ place + k)
Behind place k n None = k ≡ n

-- it walks as the walk does
pub noting_walks : (time place count : ℕ) (first : Option ℕ) (vs : List Verdict) → unnoted (noting time place count first vs) ≡ walk time place count vs
unfolding noting walk onward_noting onward
noting_walks time place count first [] = refl
noting_walks time place count first (v ∷ vs) = go (step_of time place count v) (λ left. noting_walks time (place + 1) left (noted place count left first) vs)
  where
    go : (s : Step) → ((left : ℕ) → unnoted (noting time (place + 1) left (noted place count left first) vs) ≡ walk time (place + 1) left vs)
        → unnoted (onward_noting s (λ left. noting time (place + 1) left (noted place count left first) vs)) ≡ onward s (λ left. walk time (place + 1) left vs)
    go (pends left) r = r left
    go (Break c) r = refl

-- what was noted stays
noting_behind : (P : Option ℕ → Type 0) (time place count first : ℕ) (vs : List Verdict) → P (Some first) → Notes P (noting time place count (Some first) vs)
unfolding noting onward_noting noted
noting_behind P time place count first [] p = p
noting_behind P time place count first (v ∷ vs) p = go (step_of time place count v) (λ left. noting_behind P time (place + 1) left first vs p)
  where
    go : (s : Step) → ((left : ℕ) → Notes P (noting time (place + 1) left (Some first) vs))
        → Notes P (onward_noting s (λ left. noting time (place + 1) left (noted place count left (Some first)) vs))
    go (pends left) r = r left
    go (Break c) r = tt

-- Where nothing is chosen and the count suffices, it notes the first that is pending.
pub noting_lead : (P : Option ℕ → Type 0) (time place count : ℕ) (vs : List Verdict) → length vs ≤ count → Unchosen (walk time place count vs)
    → ((first : Option ℕ) → Behind place (lead time vs) (length vs) first → P first) → Notes P (noting time place count None vs)
unfolding noting walk lead onward_noting onward noted lead_by
noting_lead P time place count [] h u p = p None refl
noting_lead P time place count (v ∷ vs) h u p =
    go (λ left f. noting_lead P time (place + 1) left vs f) (step_of time place count v) (status_by time v) (step_counts time place count v) u p
  where
    next : (first : Option ℕ) → Behind (place + 1) (lead time vs) (length vs) first → Behind place (suc (lead time vs)) (length (v ∷ vs)) first
    next (Some first) b = (omega (arith, b.0), omega (arith, b.1))
    next None b = omega (arith, b)

    go : ((left : ℕ) → length vs ≤ left → Unchosen (walk time (place + 1) left vs)
        → ((first : Option ℕ) → Behind (place + 1) (lead time vs) (length vs) first → P first) → Notes P (noting time (place + 1) left None vs))
        → (s : Step) (l : Status) → CountAs count l s → Unchosen (onward s (λ left. walk time (place + 1) left vs))
        → ((first : Option ℕ) → Behind place (lead_by l (lead time vs)) (length (v ∷ vs)) first → P first)
        → Notes P (onward_noting s (λ left. noting time (place + 1) left (noted place count left None) vs))
    go r (pends left) (still cause) e u p =
        rw (le-leb count left (omega (arith, count_one e))) (noting_behind P time (place + 1) left place vs (p (Some place) (omega arith, omega arith)))
    go r (pends left) gone e u p =
        let f : left ≡ count - 1 = count_one (e tt) in
        rw (lt-leb count left (omega (arith, f, h))) (r left (omega (arith, f, h)) u (λ first b. p first (next first b)))
    go r (Break c) l e u p = absurd u

-- ---- where nothing is chosen

-- no step of the walk chooses
pub walk_unchosen : (time place count : ℕ) (vs : List Verdict) → Unchosen (walk time place count vs) → (i : ℕ) → i < length vs → (other : ℕ)
    → Unchosen (step_of time (place + i) other (verdict_at vs i))
unfolding walk onward
walk_unchosen time place count [] u i h other = absurd (omega (arith, h))
walk_unchosen time place count (v ∷ vs) u i h other = go (λ left. walk_unchosen time (place + 1) left vs) (step_of time place count v) refl u i h
  where
    go : ((left : ℕ) → Unchosen (walk time (place + 1) left vs) → (i : ℕ) → i < length vs → (other : ℕ) → Unchosen (step_of time (place + 1 + i) other (verdict_at vs i)))
        → (s : Step) → step_of time place count v ≡ s → Unchosen (onward s (λ left. walk time (place + 1) left vs)) → (i : ℕ) → i < length (v ∷ vs)
        → Unchosen (step_of time (place + i) other (verdict_at (v ∷ vs) i))
    go r (pends left) e u zero h =
        let p : place ≡ place + 0 = omega arith in
        subst (λ (k : ℕ). Unchosen (step_of time k other v)) p (unchosen_any time place count other v (subst Unchosen (sym e) tt))
    go r (pends left) e u (suc i) h =
        let p : place + 1 + i ≡ place + suc i = omega arith in
        subst (λ (k : ℕ). Unchosen (step_of time k other (verdict_at vs i))) p (r left u i (omega (arith, h)) other)
    go r (Break c) e u i h = absurd u

-- where none is pending, the count fell to the end
pub walk_falls : (time place count : ℕ) (vs : List Verdict) → length vs ≤ count → lead time vs ≡ length vs → (left : ℕ) → walk time place count vs ≡ pends left
    → left + length vs ≡ count
unfolding walk lead lead_by onward
walk_falls time place count [] h g left e = omega (arith, count_one e)
walk_falls time place count (v ∷ vs) h g left e =
    go (λ p f k. walk_falls time (place + 1) p vs f k left) (step_of time place count v) (status_by time v) (step_counts time place count v) g e
  where
    go : ((p : ℕ) → length vs ≤ p → lead time vs ≡ length vs → walk time (place + 1) p vs ≡ pends left → left + length vs ≡ p)
        → (s : Step) (l : Status) → CountAs count l s → lead_by l (lead time vs) ≡ length (v ∷ vs) → onward s (λ p. walk time (place + 1) p vs) ≡ pends left
        → left + length (v ∷ vs) ≡ count
    go r s (still cause) c f e = absurd (omega (arith, f))
    go r (pends p) gone c f e =
        let k : p ≡ count - 1 = count_one (c tt) in
        omega (arith, h, k, r p (omega (arith, h, k)) (omega (arith, f)) e)
    go r (Break chosen) gone c f e = absurd (subst Unchosen (sym e) tt)

-- ---- the verdicts of TLCs

module _ (h : ℕ) (for_remote : Bool) (tlcs ps : List (List ℕ)) (stage : Stage) where
  pub verdicts_length : (place : ℕ) (ts : List (List ℕ)) → length (verdicts h for_remote tlcs ps stage place ts) ≡ length ts
  unfolding verdicts
  verdicts_length place [] = refl
  verdicts_length place (t ∷ ts) = ap suc (verdicts_length (place + 1) ts)

  pub verdicts_at : (place : ℕ) (ts : List (List ℕ)) (i : ℕ) → i < length ts
      → verdict_at (verdicts h for_remote tlcs ps stage place ts) i ≡ verdict h for_remote tlcs ps stage (place + i) (get_or ts i [])
  unfolding verdicts
  verdicts_at place [] i g = absurd (omega (arith, g))
  verdicts_at place (t ∷ ts) zero g = ap (λ (k : ℕ). verdict h for_remote tlcs ps stage k t) (omega arith)
  verdicts_at place (t ∷ ts) (suc i) g =
      verdicts_at (place + 1) ts i (omega (arith, g)) ∙ ap (λ (k : ℕ). verdict h for_remote tlcs ps stage k (get_or ts i [])) (omega arith)

-- ---- pending falls in a first settlement only where the full delay is due

abbrev IsStill : Status → Type 0
IsStill (still cause) = Unit {0}
IsStill gone = ⊥

module _ (time place count : ℕ) where
  -- a verdict by which a TLC is pending, or chosen
  abbrev Stays : Verdict → Type 0
  Stays v = Unchosen (step_of time place count v) → status_by time v ≡ gone → ⊥

  stays_passed : (why : Cause) → Stays (passed why)
  unfolding step_of status_by
  stays_passed why u e = subst IsStill e tt

  stays_timeout : (ms key : ℕ) → Stays (timeout ms key)
  unfolding step_of status_by
  stays_timeout ms key = by_test₂ (λ s l. Unchosen s → l ≡ gone → ⊥) (ltb ms time) _ _ _ _ (λ _ u e. u) (λ _ u e. subst IsStill e tt)

  stays_ready : (pair_place key : ℕ) → Stays (ready pair_place key)
  unfolding step_of
  stays_ready pair_place key u e = u

  first_stays : (for_remote : Bool) (ps : List (List ℕ)) (d : Dues) (key : ℕ) (s t : List ℕ) → d.full ≡ false → Stays (first_verdict for_remote ps d key s t)
  unfolding first_verdict by_pair
  first_stays for_remote ps d key s t f =
      by_each Stays (timeout_kind for_remote (eqb (received s) 0)) _ _
      (by_each Stays d.two_thirds _ _ (stays_timeout _ key) (stays_passed CauseCase.NotDue))
      (by_each Stays d.third _ _ (go (counting_pair ps t)) (stays_passed CauseCase.NotDue))
    where
      go : (p : Option ℕ) → Stays (by_pair d.full (expiry_ms s) key p)
      go (Some pair_place) = stays_ready pair_place key
      go None = rw f (stays_passed CauseCase.NoPreimage)

  pub share_stays : (h : ℕ) (for_remote : Bool) (tlcs ps : List (List ℕ)) (stage : Stage) (key : ℕ) (t : List ℕ) → may_share stage ≡ false → Stays (verdict h for_remote tlcs ps stage key t)
  unfolding may_share verdict
  share_stays h for_remote tlcs ps StageCase.Later key t f = absurd (false≢true (sym f))
  share_stays h for_remote tlcs ps (StageCase.First d) key t f = first_stays for_remote ps d key (get_or tlcs key []) t f

-- ---- the cause, as the code finds it

cause_one : {x y : Cause} → still x ≡ still y → x ≡ y
cause_one e = cc

pub pends_passed : (c : Cause) → PendsFor c (passed c)
unfolding status_by
pends_passed c time cause e = cause_one e

pub pends_timeout : (ms key : ℕ) → PendsFor CauseCase.NotExpired (timeout ms key)
unfolding status_by
pends_timeout ms key time cause =
    by_each (λ (l : Status). l ≡ still cause → CauseCase.NotExpired ≡ cause) (ltb ms time) _ _ (λ e. absurd (subst IsStill (sym e) tt)) cause_one

-- preimage kind: no preimage counts, since one that does is chosen
pub pends_pair : (full : Bool) (ms key : ℕ) (pair : Option ℕ) → PendsFor CauseCase.NoPreimage (by_pair full ms key pair)
unfolding status_by by_pair
pends_pair full ms key (Some pair_place) time cause e = absurd (subst IsStill (sym e) tt)
pends_pair true ms key None time cause e = by_each (λ (l : Status). l ≡ still cause → CauseCase.NoPreimage ≡ cause) (ltb ms time) _ _ (λ g. absurd (subst IsStill (sym g) tt)) cause_one e
pends_pair false ms key None time cause e = cause_one e

-- ---- the wait, by the place that was noted

module _ (h : ℕ) (for_remote : Bool) (tlcs ps : List (List ℕ)) (stage : Stage) (ts : List (List ℕ)) (time : ℕ) (w : Wait) where
  -- at a TLC
  pub wait_tlc : (k : ℕ) → WaitsAt time (verdicts h for_remote tlcs ps stage 0 ts) (Some k) w → (c : Cause)
      → PendsFor c (verdict h for_remote tlcs ps stage k (get_or ts k [])) → WaitCase.Tlc k c ≡ w
  wait_tlc k f c p =
      let v : verdict_at (verdicts h for_remote tlcs ps stage 0 ts) k ≡ verdict h for_remote tlcs ps stage k (get_or ts k []) =
      verdicts_at h for_remote tlcs ps stage 0 ts k (omega (arith, f.1.0, verdicts_length h for_remote tlcs ps stage 0 ts))
      ∙ ap (λ (i : ℕ). verdict h for_remote tlcs ps stage i (get_or ts k [])) (omega arith) in
      ap (WaitCase.Tlc k) (p time f.0 (ap (status_by time) (sym v) ∙ f.1.1.0)) ∙ sym f.1.1.1

  -- which is one of them
  pub wait_place : (first : Option ℕ) → WaitsAt time (verdicts h for_remote tlcs ps stage 0 ts) first w → IfSome first (λ k. k < length ts)
  wait_place (Some k) f = omega (arith, f.1.0, verdicts_length h for_remote tlcs ps stage 0 ts)
  wait_place None f = tt
