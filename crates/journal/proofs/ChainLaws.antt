-- Laws of `specs/Chain.antt`: what stands at the end of some bytes, and one step of the test.
-- Assumes nothing.
use Prim.Native.Nat.{ℕ, zero, suc, ◌+◌, ◌-◌, ◌≤◌, ◌<◌}
use native.Mathlib.Omega.{arith}
use mathlib.Core.Path.{◌≡◌, refl, ap, ◌∙◌}
use mathlib.Core.Bool.{Bool, true, false}
use mathlib.Core.List.{List, [], ◌++◌}
use mathlib.Core.Logic.{⊎_elim}
use lib.ListN.{length, take, length-append}
use Rattle.std.specs.Prelude.{◌⊎◌, eqb, leb, ltb, Ok, Err}
use Rattle.std.proofs.Math.Seq.{drop-append_seam, drop-append-add, take-append_seam}
use Rattle.std.proofs.lemmas.Bool.{ne_eqb, eqb-true, ltb-true, le-leb, lt-ltb, le-ltb, and_parts, and_right}
use Rattle.fiber_bytes.specs.Bytes.{part, le}
use Rattle.journal.specs.Chain.{pointer_of, own_length, points_back, is_right, newer, back, chain, Right}

-- ---- what stands at the end of some bytes is what stands at the end of their last part

module _ (older entry : List ℕ) where
  behind_part : (k m : ℕ) → k ≤ length entry → part (older ++ entry) (length (older ++ entry) - k) m ≡ part entry (length entry - k) m
  behind_part k m h =
      let e : length (older ++ entry) - k ≡ length older + (length entry - k) = omega (arith, length-append older entry) in
      rw e (ap (take m) (drop-append-add older entry (length entry - k)))

  module _ (h : 12 ≤ length entry) where
    pub pointer_behind : pointer_of (older ++ entry) ≡ pointer_of entry
    unfolding pointer_of
    pointer_behind = ap le (behind_part 12 8 h)

    pub own_behind : own_length (older ++ entry) ≡ own_length entry
    unfolding own_length
    own_behind = ap le (behind_part 4 4 (omega arith))

-- ---- one step of the test

module _ (is_length : ℕ → Bool) where
  -- nothing is left
  pub back_none : (fuel : ℕ) (fits : ℕ → Bool) (journal : List ℕ) → length journal ≡ 0 → back is_length fuel fits journal ≡ Ok []
  unfolding back
  back_none zero fits journal e = refl
  back_none (suc fuel) fits journal e = rw e

  module _ (fits : ℕ → Bool) (older entry : List ℕ) (r : Right is_length fits older entry) where
    pub right_test : is_right is_length fits (older ++ entry) ≡ true
    unfolding is_right
    right_test =
        let l : length (older ++ entry) - length entry ≡ length older = omega (arith, length-append older entry) in
        let k : leb (length entry) (length (older ++ entry)) ≡ true = le-leb _ _ (omega (arith, length-append older entry)) in
        rw (own_behind older entry r.room, pointer_behind older entry r.room, r.says, l, r.fit, k, r.points) refl

    -- an entry that is right stands in front of what comes of the older ones
    pub back_right : (fuel : ℕ)
        → back is_length (suc fuel) fits (older ++ entry) ≡ newer entry (back is_length fuel (λ n. eqb n (length older - pointer_of entry)) older)
    unfolding back
    back_right fuel =
        let n : length (older ++ entry) ≡ length older + length entry = length-append older entry in
        let z : eqb (length (older ++ entry)) 0 ≡ false = ne_eqb _ _ (λ q. omega (arith, n, r.room)) in
        let l : length (older ++ entry) - length entry ≡ length older = omega (arith, n) in
        rw (z, right_test, own_behind older entry r.room, pointer_behind older entry r.room, r.says, l, drop-append_seam older entry, take-append_seam older entry) refl

  -- and one that is not ends the test
  pub back_wrong : (fuel : ℕ) (fits : ℕ → Bool) (journal : List ℕ) → 0 < length journal → is_right is_length fits journal ≡ false
      → back is_length (suc fuel) fits journal ≡ Err (length journal - 12)
  unfolding back
  back_wrong fuel fits journal h w =
      let z : eqb (length journal) 0 ≡ false = ne_eqb _ _ (λ q. omega arith) in
      rw (z, w) refl

  -- ---- a pointer that is right, and the lengths that it leaves

  -- where the entry starts behind another one, it leaves that one the length of an entry
  pub points_parts : (start pointer : ℕ) → points_back is_length start pointer ≡ true → 0 < start → (pointer < start) × (is_length (start - pointer) ≡ true)
  unfolding points_back
  points_parts start pointer p h =
      let z : eqb start 0 ≡ false = ne_eqb _ _ (λ q. omega arith) in
      let both = and_parts (ltb pointer start) (is_length (start - pointer)) (rw z at p) in
      (ltb-true pointer start both.0, both.1)

  -- each length that fits is that of an entry
  abbrev pub Proper : (ℕ → Bool) → List ℕ → Type 0
  Proper fits journal = (n : ℕ) → fits n ≡ true → 0 < length journal → is_length n ≡ true

  pub next_proper : {fits : ℕ → Bool} (older entry : List ℕ) → Right is_length fits older entry → Proper (λ n. eqb n (length older - pointer_of entry)) older
  next_proper older entry r n e h =
      ap is_length (eqb-true n (length older - pointer_of entry) e) ∙ (points_parts (length older) (pointer_of entry) r.points h).1

  -- ---- a whole journal

  module _ (least : ℕ) where
    -- it is no shorter than an entry, or empty
    abbrev pub Whole : List ℕ → Type 0
    Whole journal = (length journal ≡ 0) ⊎ (least ≤ length journal)

    pub chain_back : (journal : List ℕ) → Whole journal → chain is_length least journal ≡ back is_length (length journal) is_length journal
    unfolding chain
    chain_back journal w = ⊎_elim
        (λ (z : length journal ≡ 0). rw (le-ltb 0 (length journal) (omega arith)) refl)
        (λ (h : least ≤ length journal). rw (le-ltb (length journal) least h, and_right (ltb 0 (length journal)) false refl) refl)
        w

    pub chain_short : (journal : List ℕ) → 0 < length journal → length journal < least → chain is_length least journal ≡ Err 0
    unfolding chain
    chain_short journal h g = rw (lt-ltb 0 (length journal) h, lt-ltb (length journal) least g) refl
