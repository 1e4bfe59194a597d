-- Laws of `specs/inner/Leaving.antt`: what the code has once the unlocks are taken, and what an update writes of it.
-- Assumes nothing.
use Prim.Native.Nat.{ℕ, zero, suc, ◌+◌, ◌*◌, ◌≤◌, ◌<◌}
use native.Mathlib.Nat.{mul-le-mul}
use native.Mathlib.Omega.{arith}
use mir.Syntax.{w8}
use mir.Val.{Fits}
use mathlib.Core.Path.{◌≡◌, refl, sym, ap, subst, ◌∙◌}
use mathlib.Core.Bool.{Bool, true, false}
use mathlib.Core.List.{List, flatten}
use lib.ListN.{length, get_or, take, drop, replicate}
use Rattle.fiber_bytes.specs.Bytes.{part}
use Rattle.fiber_bytes.proofs.BytesLaws.{part_length}
use Rattle.std.specs.Prelude.{Ok, Err}
use Rattle.fiber_refusal.specs.declared.Refusal.{Refusal}
use Rattle.fiber_refusal.specs.declared.Refusal.TheVariants.{OutputShort}
use Rattle.fiber_types.specs.Records.{outcome}
use Rattle.fiber_types.proofs.RecordsLaws.{outcome_short, outcome_whole}
use Rattle.fiber_witness.specs.declared.left.StateLeft.{StateLeft}
use Rattle.fiber_witness.specs.declared.records.Records.{Records}
use Rattle.fiber_witness.specs.declared.shares.UnlockedShares.{UnlockedShares}
use Rattle.fiber_witness.specs.declared.witness.WitnessLayout.{WitnessLayout}
use Rattle.fiber_witness.specs.Witness.{record_len, chunks, places, state_bytes, read_witness}
use Rattle.fiber_witness.specs.Update.{none, Unlocked, fine, faulty, take_unlocks, share_left, standing, by_read, unlocked, written, updated, state_left, state_after}
use Rattle.fiber_witness.specs.inner.Leaving.{LeavesAs}
use Rattle.fiber_witness.specs.inner.Marks.{marked}
use Rattle.fiber_witness.specs.inner.Records.{standing_of}
use Rattle.fiber_witness.specs.inner.Strided.{strided, unmarked, Fronts}
use Rattle.fiber_witness.specs.inner.Taking.{TakesAs}
use Rattle.fiber_witness.proofs.WitnessLaws.{read_fine, records_length, Even, even_none, even_more, flatten_even, state_size}
use Rattle.fiber_witness.proofs.UpdateLaws.{marks_all, All, takes_all, takes_faulty, unlocks_come, keep_marked, even_keep}
use Rattle.fiber_witness.proofs.StridedLaws.{unmarked_standing, unmarked_few, unmarked_count}

-- ---- the bytes of the records that stand

-- records that are whole have so many bytes
even_strided : (size stride m : ℕ) (s : List ℕ) (from : ℕ) → from + m * stride + size ≤ length s + stride → Even size (strided size stride m s from)
unfolding strided
even_strided size stride zero s from g = even_none
even_strided size stride (suc m) s from g =
    let e : suc m * stride ≡ stride + m * stride = omega arith in
    even_more (part_length s from size (omega (arith, e, g))) (even_strided size stride m s (from + stride) (omega (arith, e, g)))

module _ (r : Records) where
  -- they are as many as their count says
  pub standing_count : r.standing ≡ length (standing_of r)
  standing_count = r.counted ∙ unmarked_count r.h r.source.now r.from r.stride r.marks.now

  -- and as long as they are many
  pub standing_bytes : length (flatten (standing_of r)) ≡ r.standing * record_len r.h
  unfolding unmarked
  standing_bytes =
      flatten_even (even_keep (marked r.marks.now) 0 (even_strided (record_len r.h) r.stride (length r.marks.now) r.source.now r.from r.whole))
      ∙ ap (λ (k : ℕ). k * record_len r.h) (sym standing_count)

  -- which is no more than a byte counts
  pub standing_small : r.standing * record_len r.h ≤ 255 * 97
  standing_small =
      let many : r.standing ≤ 255 = omega (arith, standing_count, unmarked_few r.h r.source.now r.from r.stride (length r.marks.now) r.marks.now, r.few) in
      let size : record_len r.h ≤ 97 = omega (arith, r.short) in
      mul-le-mul many size

-- ---- a witness that is read

module _ (h : ℕ) (w : List ℕ) where
  -- one that is not
  pub left_unread : (r : Refusal) → read_witness h w ≡ Err r → LeavesAs h w (unlocked h w) (Err r)
  unfolding unlocked by_read LeavesAs
  left_unread r e = rw e refl

  module _ (l : WitnessLayout) (e : read_witness h w ≡ Ok l) where
    -- its count is a byte, so that there are enough marks
    pub left_count : Fits w8 (get_or w 1 0) → l.n ≤ 255
    left_count b = omega (arith, (read_fine h w l e).count, b)

    -- its shares are there
    pub left_shares : l.share_place + 72 ≤ length w
    left_shares = (read_fine h w l e).shares

-- one that is, with as many marks as it has TLCs
pub record Reads (h : ℕ) (w : List ℕ) (l : WitnessLayout) (marks : List Bool) : Type 0 where
  pub is : read_witness h w ≡ Ok l
  pub byte : Fits w8 (get_or w 1 0)
  pub long : length marks ≡ length (take l.n (replicate 256 false))

module _ {h : ℕ} {w : List ℕ} {l : WitnessLayout} {marks : List Bool} (read : Reads h w l marks) where
  -- each TLC has one
  left_long : length marks ≡ l.n
  left_long = read.long ∙ sym (marks_all l.n (left_count h w l read.is read.byte))

  pub left_few : length marks ≤ 255
  left_few = omega (arith, left_long, left_count h w l read.is read.byte)

  -- the records are there
  pub left_room : 2 + length marks * record_len h ≤ length w
  left_room =
      let f = read_fine h w l read.is in
      rw left_long (omega (arith, f.tlcs, f.shares))

  abbrev taken : Unlocked
  taken = take_unlocks (length marks) l.share_place w none (places w l.first_unlock)

  all_taken : taken ≡ unlocked h w
  unfolding unlocked by_read
  all_taken = rw (read.is, left_long)

  -- row 5 or 6
  pub left_faulty : (r : Refusal) → TakesAs taken (Err r) marks → LeavesAs h w (unlocked h w) (Err r)
  unfolding LeavesAs
  left_faulty r j = subst (λ (u : Unlocked). LeavesAs h w u (Err r)) (sym (takes_faulty r marks (unlocks_come (length marks) l.share_place w none (places w l.first_unlock)) j) ∙ all_taken) refl

  -- every unlock is taken, and the marks say what was settled
  pub left_fine : (v : UnlockedShares) → TakesAs taken (Ok v) marks → (x : StateLeft) → x.records.h ≡ h → x.records.marks.now ≡ marks
      → standing_of x.records ≡ unmarked h w 2 (record_len h) (length marks) marks
      → x.shares.remote.now ≡ share_left v.remote (part w l.share_place 36)
      → x.shares.local.now ≡ share_left v.local (part w (l.share_place + 36) 36)
      → LeavesAs h w (unlocked h w) (Ok x)
  unfolding LeavesAs standing
  left_fine v j x k m s f g = go (takes_all v marks (unlocks_come (length marks) l.share_place w none (places w l.first_unlock)) j)
    where
      go : All (length marks) l.share_place marks v.remote v.local taken → LeavesAs h w (unlocked h w) (Ok x)
      go t =
          subst (λ (u : Unlocked). LeavesAs h w u (Ok x)) (sym t.is ∙ all_taken)
          (record {
            hashes = k;
            many = ap length m;
            says = rw m t.says;
            stands = s ∙ unmarked_standing h w (length marks) marks
                ∙ keep_marked marks t.taken.settled t.says (chunks (record_len h) (length marks) (drop 2 w)) (omega (arith, records_length (record_len h) (length marks) (drop 2 w)));
            remote = rw (← t.remote_is) f;
            local = rw (← t.local_is) g;
          })

-- ---- what an update writes of it

module _ (h : ℕ) (w out : List ℕ) where
  by_refused : (u : Unlocked) (r : Refusal) → LeavesAs h w u (Err r) → (Err r ≡ (written h w out u).answer) × (out ≡ (written h w out u).bytes)
  unfolding LeavesAs written
  by_refused (fine n share_place t) r j = absurd j
  by_refused (faulty q) r j = (ap Err j, refl)

  by_left : (u : Unlocked) (x : StateLeft) → LeavesAs h w u (Ok x)
      → written h w out u ≡ outcome true (state_bytes (standing_of x.records) x.shares.remote.now x.shares.local.now) out
  unfolding LeavesAs written state_left state_after standing
  by_left (fine n share_place t) x j = rw (j.stands, j.remote, j.local)
  by_left (faulty q) x j = absurd j

  -- turned down, and nothing is written
  pub update_refused : (r : Refusal) → LeavesAs h w (unlocked h w) (Err r) → (Err r ≡ (updated h w out).answer) × (out ≡ (updated h w out).bytes)
  unfolding updated
  update_refused r j = by_refused (unlocked h w) r j

  module _ (x : StateLeft) (j : LeavesAs h w (unlocked h w) (Ok x)) where
    abbrev bytes : List ℕ
    bytes = state_bytes (standing_of x.records) x.shares.remote.now x.shares.local.now

    goes : outcome true bytes out ≡ updated h w out
    unfolding updated
    goes = sym (by_left (unlocked h w) x j)

    size : length bytes ≡ 73 + length (flatten (standing_of x.records))
    size = state_size _ _ _ x.shares.remote_36 x.shares.local_36

    -- row 13, and nothing is written
    pub update_short : (n : ℕ) → n ≡ 73 + length (flatten (standing_of x.records)) → length out < n
        → (Err (OutputShort n) ≡ (updated h w out).answer) × (out ≡ (updated h w out).bytes)
    update_short n e g = rw (← goes) (outcome_short true bytes out refl n (size ∙ sym e) g)

    -- all is written
    pub update_written : 73 + length (flatten (standing_of x.records)) ≤ length out → (n : ℕ) (out' : List ℕ) → Fronts bytes out n out'
        → (Ok n ≡ (updated h w out).answer) × (out' ≡ (updated h w out).bytes)
    update_written g n out' f = rw (← goes) (outcome_whole true bytes out refl n (sym f.0) (omega (arith, f.0, size, g)) out' f.1)
