-- The TLC is that of the place, cut out whole. A place at which none is tracked the walk does not note.
use Prim.Native.Nat.{ℕ, ◌+◌, ◌*◌, ◌<◌, ◌/◌}
use mathlib.Core.Path.{◌≡◌, ap, sym, ◌∙◌}
use native.Mathlib.Omega.{arith}
use mathlib.Core.List.{List, []}
use lib.ListN.{length, get_or}
use Rattle.std.specs.Prelude.{Some}
use Rattle.fiber_bytes.specs.Bytes.{part}
use Rattle.fiber_bytes.proofs.BytesLaws.{part_length}
use Rattle.fiber_choice.specs.Entries.{entries, tracked_len}
use Rattle.fiber_choice.specs.Request.{settlement_tlcs, tracked_tlcs}
use Rattle.fiber_choice.specs.inner.Request.{request_by}
use Rattle.fiber_choice.proofs.EntriesLaws.{tracked_count, entry_at, entry_room}
use Rattle.fiber_choice.proofs.WaitsLaws.{wait_tlc, wait_place}
use Rattle.fiber_step.proofs.wait.wait_at.Goals as goal
use Rattle.fiber_step.proofs.wait.wait_at.Goals.{Then-place-tracked_count}

module _ (h : ℕ) (s : List ℕ) (place : ℕ) (g : place < length (entries (tracked_len h) s)) where
  below : place < length s / (98 + h)
  below = omega (arith, g, tracked_count h s)

  tlc_at : part s (place * (98 + h)) (98 + h) ≡ get_or (entries (tracked_len h) s) place []
  tlc_at =
      let z : tracked_len h ≡ 98 + h = omega arith in
      sym (ap (λ (k : ℕ). get_or (entries k s) place []) z ∙ entry_at (98 + h) s place below)

-- one is tracked at the place
tracked_there : (c : Then-place-tracked_count) → c.in-Some.place < length (entries (tracked_len c.args.walk.now.q.now.h.bytes) c.args.walk.now.q.now.tracked.now)
tracked_there c = rw c.tracked_count.ensures at c.if-place-tracked_count.true

pub invariant_of-tracked : goal.invariant_of-tracked
invariant_of-tracked c =
    let b = below _ _ _ (tracked_there (goal.at.invariant_of-tracked c).Then-place-tracked_count) in
    record { whole = ap length (rw c.tracked_len-size.ensures at c.part_of.ensures) ∙ part_length _ _ _ (entry_room _ _ _ b) }

pub returns-in-Some : goal.returns-in-Some
returns-in-Some c time ps w f =
    let t = rw c.tracked_len-size.ensures at c.part_of.ensures ∙ tlc_at _ _ _ (tracked_there (goal.at.returns-in-Some c).Then-place-tracked_count) in
    wait_tlc _ _ _ ps _ _ time w _ (rw c.in-Some.is at f) _ (rw t at (c.cause_of.ensures ps))

pub returns-in_default : goal.returns-in_default
returns-in_default c time ps w f =
    let q = request_by c.args.walk.now.q.now in
    let g = wait_place q.h q.for_remote (settlement_tlcs q) ps c.args.walk.now.stage (tracked_tlcs q) time w (Some c.in-Some.place) (rw c.in-Some.is at f) in
    absurd (omega (arith, g, c.tracked_count.ensures, c.if-place-tracked_count.false))
