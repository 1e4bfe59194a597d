-- Laws of `specs/Verdicts.antt`: a verdict at a time, and where its places lie.
-- Assumes nothing.
use Prim.Native.Nat.{ℕ, ◌≤◌, ◌<◌}
use native.Mathlib.Omega.{arith}
use mathlib.Core.Path.{◌≡◌, refl, sym, ap, ◌∙◌}
use mathlib.Core.Bool.{Bool, true, false, ◌&&◌, not, false≢true}
use mathlib.Core.List.{List, []}
use lib.Dec.{eqb}
use lib.ListN.{length, get_or, take, drop}
use lib.Seq.{take-take}
use borrow.Author.Tests.{le-ltb}
use Rattle.std.specs.Prelude.{Option, Some, None}
use Rattle.fiber_bytes.proofs.CaseLaws.{by_each}
use Rattle.fiber_since.specs.Since.{absolute_expiry}
use Rattle.fiber_types.specs.Records.{is_offered, tlc_at}
use Rattle.fiber_choice.specs.declared.kinds.Dues.{Dues}
use Rattle.fiber_choice.specs.declared.kinds.Cause.{Cause}
use Rattle.fiber_choice.specs.declared.kinds.Stage.{Stage}
use Rattle.fiber_choice.specs.declared.kinds.Stage.TheVariants as StageCase
use Rattle.fiber_choice.specs.Entries.{same, received, hash, expiry_ms, local_key, tracked_record}
use Rattle.fiber_choice.specs.FirstRecords.{hash_of}
use Rattle.fiber_choice.specs.Preimages.{counting_pair}
use Rattle.fiber_choice.specs.Walk.{pends, timeout_kind, Verdict, passed, timeout, ready, falls, step_of}
use Rattle.fiber_choice.specs.Verdicts.{is_key, key_of, by_pair, by_key, by_expiry, later_verdict, first_verdict, verdict}
use Rattle.fiber_choice.specs.inner.Plan.{Reaches}
use Rattle.fiber_choice.proofs.EntriesLaws.{FoundBelow, found_below}
use Rattle.fiber_choice.proofs.PreimagesLaws.{counting_below}

-- ---- a verdict at a time

module _ (time place pending : ℕ) where
  pub step_passed : (why : Cause) → pends pending ≡ step_of time place pending (passed why)
  unfolding step_of
  step_passed why = refl

  -- before the expiry has passed
  module _ (ms : ℕ) (e : time ≤ ms) where
    pub falls_before : pends pending ≡ step_of time place pending (falls ms)
    unfolding step_of
    falls_before = rw (le-ltb ms time e)

-- ---- a key, as the code looks for it: as many bytes of a settlement TLC's hash as there are to compare

module _ (start ours t : List ℕ) (f : length start ≤ 32) (n : ℕ) where
  -- they are the hash's first ones
  cut_is : n ≡ length start → take n (drop 18 t) ≡ take (length start) (hash t)
  cut_is h = rw h (sym (take-take (length start) 32 (drop 18 t) f))

  -- they differ
  pub key_differs : true ≡ not (same (take n (drop 18 t)) start) → n ≡ length start → false ≡ is_key start ours t
  unfolding is_key
  key_differs e h = go (same (take (length start) (hash t)) start) (e ∙ ap (λ (l : List ℕ). not (same l start)) (cut_is h))
    where
      go : (b : Bool) → true ≡ not b → false ≡ (b && same (hash_of (local_key t)) ours)
      go true k = absurd (false≢true (sym k))
      go false k = refl

  -- they are the same: the key decides
  pub key_decides : false ≡ not (same (take n (drop 18 t)) start) → n ≡ length start → same (hash_of (local_key t)) ours ≡ is_key start ours t
  unfolding is_key
  key_decides e h = go (same (take (length start) (hash t)) start) (e ∙ ap (λ (l : List ℕ). not (same l start)) (cut_is h))
    where
      go : (b : Bool) → false ≡ not b → same (hash_of (local_key t)) ours ≡ (b && same (hash_of (local_key t)) ours)
      go true k = refl
      go false k = absurd (false≢true k)

-- ---- places lie in their lists

-- the key of a verdict is among n settlement TLCs, its pair among m
abbrev pub VerdictWithin : ℕ → ℕ → Verdict → Type 0
VerdictWithin n m (passed why) = Unit {0}
VerdictWithin n m (timeout ms key) = key < n
VerdictWithin n m (ready pair_place key) = (pair_place < m) × (key < n)
VerdictWithin n m (falls ms) = Unit {0}

module _ (for_remote : Bool) (ps : List (List ℕ)) where
  -- of a later settlement
  later_within : (h : ℕ) (tlcs : List (List ℕ)) (t : List ℕ) → VerdictWithin (length tlcs) (length ps) (later_verdict h for_remote tlcs ps t)
  unfolding later_verdict key_of by_expiry by_key by_pair
  later_within h tlcs t =
      go (absolute_expiry (tlc_at h (tracked_record t) 0).expiry) (counting_pair ps t) _ (counting_below ps t) (found_below _ tlcs _ (length tlcs) (omega arith))
    where
      kind : Bool
      kind = timeout_kind for_remote (is_offered (tlc_at h (tracked_record t) 0))

      pair_within : (ms key : ℕ) → key < length tlcs → (p : Option ℕ) → FoundBelow (length ps) p → VerdictWithin (length tlcs) (length ps) (by_pair true ms key p)
      pair_within ms key g (Some pair_place) f = (f, g)
      pair_within ms key g None f = tt

      go : (x : Option ℕ) (p k : Option ℕ) → FoundBelow (length ps) p → FoundBelow (length tlcs) k → VerdictWithin (length tlcs) (length ps) (by_expiry kind p k x)
      go (Some ms) p (Some key) f g = by_each (VerdictWithin (length tlcs) (length ps)) kind _ _ g (pair_within ms key g p f)
      go (Some ms) p None f g = tt
      go None p k f g = tt

  -- of a first one
  first_within : (d : Dues) (n place : ℕ) (s t : List ℕ) → place < n → VerdictWithin n (length ps) (first_verdict for_remote ps d place s t)
  unfolding first_verdict by_pair
  first_within d n place s t h =
      by_each (VerdictWithin n (length ps)) (timeout_kind for_remote (eqb (received s) 0)) _ _
      (by_each (VerdictWithin n (length ps)) d.two_thirds _ _ h tt)
      (by_each (VerdictWithin n (length ps)) d.third _ _ (go (counting_pair ps t) (counting_below ps t)) tt)
    where
      go : (p : Option ℕ) → FoundBelow (length ps) p → VerdictWithin n (length ps) (by_pair d.full (expiry_ms s) place p)
      go (Some pair_place) f = (f, h)
      go None f = by_each (VerdictWithin n (length ps)) d.full _ _ tt tt

  -- of either, at a place that it reaches
  pub verdict_within : (h : ℕ) (tlcs : List (List ℕ)) (stage : Stage) (place : ℕ) (t : List ℕ) → Reaches stage place (length tlcs)
      → VerdictWithin (length tlcs) (length ps) (verdict h for_remote tlcs ps stage place t)
  unfolding verdict Reaches
  verdict_within h tlcs StageCase.Later place t r = later_within h tlcs t
  verdict_within h tlcs (StageCase.First d) place t r = first_within d (length tlcs) place (get_or tlcs place []) t r
