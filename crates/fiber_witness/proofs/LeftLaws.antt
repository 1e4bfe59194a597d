-- What an update that was taken leaves: as many bytes as it answers, and they are a whole state of the channel.
-- Assumes nothing.
use Prim.Native.Nat.{ℕ, ◌+◌, ◌*◌, ◌≤◌}
use native.Mathlib.Omega.{arith}
use mathlib.Core.Path.{◌≡◌, refl, sym, ap, subst, ◌∙◌}
use mathlib.Core.List.{List}
use lib.ListN.{length, get_or, take, drop}
use lib.Seq.{sets, sets-eq, take_at}
use Rattle.std.specs.Prelude.{Result, Ok, Err}
use Rattle.fiber_refusal.specs.declared.Refusal.{Refusal}
use Rattle.fiber_witness.specs.declared.witness.WitnessLayout.{WitnessLayout}
use Rattle.fiber_witness.specs.Witness.{record_len, state_bytes, places, read_witness}
use Rattle.fiber_witness.specs.Update.{Taken, none, state_left, Unlocked, by_read, unlocked, written, updated, state_after, standing}
use Rattle.fiber_witness.proofs.WitnessLaws.{Fine, FineRead, fine}
use Rattle.fiber_witness.proofs.UpdateLaws.{Comes, comes_fine, comes_faulty, unlocks_come, standing_length, state_length}
use Rattle.fiber_types.proofs.RecordsLaws.{outcome_by}

-- what was stored at the front is what is read there
pub take_sets : (out st : List ℕ) → length st ≤ length out → take (length st) (sets out 0 st) ≡ st
take_sets out st f =
    let g : 0 + length st ≤ length out = omega arith in
    ap (take (length st)) (sets-eq st out 0 g) ∙ take_at st (drop (0 + length st) out) (length st) refl

-- a state of so many bytes: its count, its records, and two shares
pub record Whole (h : ℕ) (s : List ℕ) : Type 0 where
  pub small : h ≤ 32
  pub size : 73 + get_or s 0 0 * record_len h ≡ length s

-- of an update that was turned down, nothing is said
abbrev pub Left : ℕ → List ℕ → Result ℕ Refusal → Type 0
Left h o (Ok len) = Whole h (take len o)
Left h o (Err r) = Unit {0}

module _ (h : ℕ) (w out : List ℕ) (n share_place first : ℕ) (f : Fine h w n share_place first) where
  -- the state left is whole
  whole_state : (t : Taken) → Whole h (state_left h w n share_place t)
  unfolding state_left state_after standing state_bytes
  whole_state t = record {
    small = f.small;
    size = omega (arith, state_length h w n share_place t f.shares, standing_length h w n t.settled (omega (arith, f.tlcs, f.shares)));
  }

  left_unlocked : {x : Unlocked} → Comes n share_place x → Left h (written h w out x).bytes (written h w out x).answer
  unfolding written
  left_unlocked (comes_fine t) =
      outcome_by (Left h) (state_left h w n share_place t) out (λ g. subst (Whole h) (sym (take_sets out (state_left h w n share_place t) g)) (whole_state t)) tt
  left_unlocked (comes_faulty r) = tt

-- What an update that was taken leaves is a whole state.
pub left : (h : ℕ) (w out : List ℕ) → Left h (updated h w out).bytes (updated h w out).answer
unfolding updated unlocked by_read written
left h w out = go (read_witness h w) (fine h w)
  where
    go : (r : Result WitnessLayout Refusal) → FineRead h w r → Left h (written h w out (by_read w r)).bytes (written h w out (by_read w r)).answer
    go (Ok l) f = left_unlocked h w out l.n l.share_place l.first_unlock f (unlocks_come l.n l.share_place w none (places w l.first_unlock))
    go (Err q) f = tt
