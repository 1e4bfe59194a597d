-- What the code answers where it takes the unlocks of a witness. Only contracts of inner functions speak of it.
use Rattle.std.specs.Prelude.{◌≡◌, Bool, List, Result, Ok, Err}
use Rattle.fiber_refusal.specs.declared.Refusal.{Refusal}
use Rattle.fiber_witness.specs.declared.shares.UnlockedShares.{UnlockedShares}
use Rattle.fiber_witness.specs.Update.{Unlocked, fine, faulty}
use Rattle.fiber_witness.specs.inner.Marks.{Marks}

-- where the unlocks come to this: shares, with these marks, where all are fine, else the row
unfoldable pub TakesAs : Unlocked → Result UnlockedShares Refusal → List Bool → Type 0
TakesAs (fine n share_place t) (Ok x) settled = Marks settled t.settled × ((x.remote ≡ t.remote) × (x.local ≡ t.local))
TakesAs (fine n share_place t) (Err r) settled = ⊥
TakesAs (faulty q) (Ok x) settled = ⊥
TakesAs (faulty q) (Err r) settled = r ≡ q
