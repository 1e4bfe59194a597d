-- What the code has of a witness whose unlocks are taken. Only contracts of inner functions speak of it.
use Rattle.std.specs.Prelude.{◌≡◌, ◌+◌, ℕ, List, length, Result, Ok, Err}
use Rattle.fiber_bytes.specs.Bytes.{part}
use Rattle.fiber_refusal.specs.declared.Refusal.{Refusal}
use Rattle.fiber_witness.specs.declared.left.StateLeft.{StateLeft}
use Rattle.fiber_witness.specs.Update.{Taken, Unlocked, fine, faulty, share_left, standing}
use Rattle.fiber_witness.specs.inner.Marks.{Marks}
use Rattle.fiber_witness.specs.inner.Records.{standing_of}

-- the records that stand of n TLCs, whose hashes have h bytes, the marks by which they do, and the shares that stood at a place
pub record Leaves (h : ℕ) (w : List ℕ) (n share_place : ℕ) (t : Taken) (x : StateLeft) : Type 0 where
  pub hashes : x.records.h ≡ h
  pub many : length x.records.marks.now ≡ n
  pub says : Marks x.records.marks.now t.settled
  pub stands : standing_of x.records ≡ standing h w n t.settled
  pub remote : x.shares.remote.now ≡ share_left t.remote (part w share_place 36)
  pub local : x.shares.local.now ≡ share_left t.local (part w (share_place + 36) 36)

-- where the unlocks come to this: the state that they leave where all are fine, else the row
unfoldable pub LeavesAs : ℕ → List ℕ → Unlocked → Result StateLeft Refusal → Type 0
LeavesAs h w (fine n share_place t) (Ok x) = Leaves h w n share_place t x
LeavesAs h w (fine n share_place t) (Err r) = ⊥
LeavesAs h w (faulty q) (Ok x) = ⊥
LeavesAs h w (faulty q) (Err r) = r ≡ q
