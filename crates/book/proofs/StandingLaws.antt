-- The places of the TLCs that stand: one place less by each that an unlock settles, in the same order.
-- Assumes nothing.
use Prim.Native.Nat.{ℕ, zero, suc, ◌+◌, ◌≤◌, ◌<◌}
use native.Mathlib.Nat.{add-zero, zero-add}
use native.Mathlib.Omega.{arith}
use mathlib.Core.Path.{◌≡◌, refl, sym, ap, ◌∙◌, subst}
use mathlib.Core.Bool.{Bool, true, false, cond, not, false≢true, or-true}
use mathlib.Core.List.{List, [], ◌∷◌, map}
use lib.ListN.{length, get_or}
use lib.Dec.{eqb}
use borrow.Author.Tests.{eq-eqb, ne_eqb}
use Rattle.fiber_bytes.proofs.CaseLaws.{by_test, by_test₂}
use Rattle.fiber_witness.specs.Witness.{member}
use Rattle.fiber_witness.specs.Update.{keep}
use Rattle.fiber_witness.proofs.WitnessLaws.{member_none, member_more}
use Rattle.fiber_witness.proofs.UpdateLaws.{keep_none, keep_more}
use Rattle.book.specs.Book.{without}
use Rattle.book.specs.Demand3.{Rising, rising_none, rising_more}

-- the records of a list at places
abbrev pub records_at : List (List ℕ) → List ℕ → List (List ℕ)
records_at rs is = map (λ (i : ℕ). get_or rs i []) is

-- ---- one place out of a list

-- the second list is the first without its place f
pub data Without (f : ℕ) : List ℕ → List ℕ → Type 0 where
  here : {fs : List ℕ} → Without f (f ∷ fs) fs
  there : {g : ℕ} {fs fs' : List ℕ} → Without f fs fs' → Without f (g ∷ fs) (g ∷ fs')

-- a list that rises from k on has no place below k
pub rising_below : {k : ℕ} {fs : List ℕ} → Rising k fs → (i : ℕ) → i < k → member i fs ≡ false
rising_below rising_none i h = member_none i
rising_below (rising_more {i = f} g r) i h = simp (member_more, ne_eqb i f (omega arith)) (rising_below r i (omega arith))

-- and rises from any place before k on
pub rising_down : {k : ℕ} {fs : List ℕ} → Rising k fs → (j : ℕ) → j ≤ k → Rising j fs
rising_down rising_none j h = rising_none
rising_down (rising_more {i = i} g r) j h =
    let f : j ≤ i = omega arith in
    rising_more f r

-- the place was there
pub without_member : {f : ℕ} {fs fs' : List ℕ} → Without f fs fs' → member f fs ≡ true
without_member {f} here = simp (member_more, eq-eqb f f refl)
without_member {f} (there {g = g} w) = rw (member_more, without_member w, or-true (eqb f g))

-- it is there no longer
pub without_gone : {f k : ℕ} {fs fs' : List ℕ} → Without f fs fs' → Rising k fs → member f fs' ≡ false
without_gone {f} here (rising_more g r) = rising_below r f (omega arith)
without_gone {f} (there w) (rising_more {i = i} h r) = simp (member_more, ne_eqb f i other) (without_gone w r)
  where
    other : f ≡ i → ⊥
    other e =
        let n = rising_below r f (omega arith) in
        false≢true (sym n ∙ without_member w)

-- every other place is where it was
pub without_other : {f : ℕ} {fs fs' : List ℕ} → Without f fs fs' → (i : ℕ) → eqb i f ≡ false → member i fs ≡ member i fs'
without_other here i e = simp (member_more, e)
without_other (there w) i e = simp (member_more, without_other w i e)

-- the order is kept
pub without_rising : {f k : ℕ} {fs fs' : List ℕ} → Without f fs fs' → Rising k fs → Rising k fs'
without_rising {k = k} here (rising_more g r) = rising_down r k (omega arith)
without_rising (there w) (rising_more g r) = rising_more g (without_rising w r)

-- what the book leaves without the place is that
without_none : (f : ℕ) (fs : List ℕ) → member f fs ≡ false → without f fs ≡ fs
unfolding without
without_none f [] e = refl
without_none f (g ∷ fs) e =
    by_test (λ (l : List ℕ). l ≡ g ∷ fs) (eqb f g) _ _
    (λ t. absurd (false≢true (sym (rw (member_more, t) at e))))
    (λ t. ap (λ (l : List ℕ). g ∷ l) (without_none f fs (rw (member_more, t) at e)))

pub without_is : {f k : ℕ} {fs fs' : List ℕ} → Without f fs fs' → Rising k fs → without f fs ≡ fs'
unfolding without
without_is {f} (here {fs = fs}) (rising_more g r) = rw (eq-eqb f f refl) (without_none f fs (rising_below r f (omega arith)))
without_is {f} (there {g = g} w) (rising_more h r) =
    let other : f ≡ g → ⊥ = λ e. let n = rising_below r f (omega arith) in false≢true (sym n ∙ without_member w) in
    rw (ne_eqb f g other) (ap (λ (l : List ℕ). g ∷ l) (without_is w r))

-- ---- the places that unlocks leave

-- of first places, for the TLCs at i, i + 1, .., those not settled
unfoldable pub unsettled : List ℕ → ℕ → List ℕ → List ℕ
unsettled settled i [] = []
unsettled settled i (f ∷ fs) =
    let next = unsettled settled (i + 1) fs in
    cond (member i settled) next (f ∷ next)

-- none settled: all of them
pub unsettled_none : (i : ℕ) (fs : List ℕ) → unsettled [] i fs ≡ fs
unfolding unsettled
unsettled_none i [] = refl
unsettled_none i (f ∷ fs) = rw (member_none i) (ap (λ (l : List ℕ). f ∷ l) (unsettled_none (i + 1) fs))

-- a place before i is none of them
pub unsettled_below : (settled : List ℕ) (i : ℕ) (fs : List ℕ) (j : ℕ) → j < i → unsettled (j ∷ settled) i fs ≡ unsettled settled i fs
unfolding unsettled
unsettled_below settled i [] j h = refl
unsettled_below settled i (f ∷ fs) j h = simp (member_more, ne_eqb i j (omega arith), unsettled_below settled (i + 1) fs j (omega arith))

-- one more settled is one place less
pub without_at : (settled : List ℕ) (i : ℕ) (fs : List ℕ) (j : ℕ) → j < length fs → member (i + j) settled ≡ false
    → Without (get_or fs j 0) (unsettled settled i fs) (unsettled ((i + j) ∷ settled) i fs)
unfolding unsettled
without_at settled i [] j h m = absurd (omega arith)
without_at settled i (f ∷ fs) zero h m =
    let m' : member i settled ≡ false = rw add-zero at m in
    let here' : Without f (unsettled settled i (f ∷ fs)) (unsettled (i ∷ settled) i (f ∷ fs)) =
    simp (member_more, m', eq-eqb i i refl, unsettled_below settled (i + 1) fs i (omega arith)) here in
    subst (λ (k : ℕ). Without f (unsettled settled i (f ∷ fs)) (unsettled (k ∷ settled) i (f ∷ fs))) (sym (add-zero i)) here'
without_at settled i (f ∷ fs) (suc j) h m =
    let e : i + suc j ≡ i + 1 + j = omega arith in
    let m' : member (i + 1 + j) settled ≡ false = rw e at m in
    let more' : Without (get_or fs j 0) (unsettled settled i (f ∷ fs)) (unsettled ((i + 1 + j) ∷ settled) i (f ∷ fs)) =
    simp (member_more, ne_eqb i (i + 1 + j) (omega arith))
    (let w = without_at settled (i + 1) fs j (omega arith) m' in by_test₂ (Without (get_or fs j 0)) (member i settled) _ _ _ _ (λ _. w) (λ _. there w)) in
    subst (λ (k : ℕ). Without (get_or fs j 0) (unsettled settled i (f ∷ fs)) (unsettled (k ∷ settled) i (f ∷ fs))) (sym e) more'

-- the records at places: each where its place says, and those that stand
pub records_at_at : (rs : List (List ℕ)) (fs : List ℕ) (j : ℕ) → j < length fs → get_or (records_at rs fs) j [] ≡ get_or rs (get_or fs j 0) []
records_at_at rs [] j h = absurd (omega arith)
records_at_at rs (f ∷ fs) zero h = refl
records_at_at rs (f ∷ fs) (suc j) h = records_at_at rs fs j (omega arith)

pub records_at_keep : (rs : List (List ℕ)) (settled : List ℕ) (i : ℕ) (fs : List ℕ) → keep settled i (records_at rs fs) ≡ records_at rs (unsettled settled i fs)
unfolding unsettled
records_at_keep rs settled i [] = keep_none settled i
records_at_keep rs settled i (f ∷ fs) =
    let e = records_at_keep rs settled (i + 1) fs in
    rw (keep_more settled i (get_or rs f []) (records_at rs fs))
    (by_test₂ (λ (xs : List (List ℕ)) (ys : List ℕ). xs ≡ records_at rs ys) (member i settled) _ _ _ _ (λ _. e) (λ _. ap (λ (l : List (List ℕ)). get_or rs f [] ∷ l) e))

-- the order is kept
pub unsettled_rising : (settled : List ℕ) (i : ℕ) {k : ℕ} {fs : List ℕ} → Rising k fs → Rising k (unsettled settled i fs)
unfolding unsettled
unsettled_rising settled i rising_none = rising_none
unsettled_rising settled i (rising_more {k = k} h r) =
    let x = unsettled_rising settled (i + 1) r in
    by_test (Rising k) (member i settled) _ _ (λ _. rising_down x k (omega arith)) (λ _. rising_more h x)

-- a place in a rising list is where the list begins or above
rising_at : {k : ℕ} {fs : List ℕ} → Rising k fs → (j : ℕ) → j < length fs → k ≤ get_or fs j 0
rising_at rising_none j h = absurd (omega arith)
rising_at (rising_more g r) zero h = g
rising_at (rising_more g r) (suc j) h = omega (arith, rising_at r j (omega arith))

-- a place that was settled is none of them
unsettled_gone : (settled : List ℕ) (i : ℕ) {k : ℕ} {fs : List ℕ} → Rising k fs → (j : ℕ) → j < length fs → member (i + j) settled ≡ true
    → member (get_or fs j 0) (unsettled settled i fs) ≡ false
unfolding unsettled
unsettled_gone settled i rising_none j h m = absurd (omega arith)
unsettled_gone settled i (rising_more {i = f} g r) zero h m =
    let m' : member i settled ≡ true = rw add-zero at m in
    rw m' (rising_below (unsettled_rising settled (i + 1) r) f (omega arith))
unsettled_gone settled i (rising_more {i = f} {is = fs} g r) (suc j) h m =
    let e : i + suc j ≡ i + 1 + j = omega arith in
    let a : suc f ≤ get_or fs j 0 = rising_at r j (omega arith) in
    let n = unsettled_gone settled (i + 1) r j (omega arith) (rw e at m) in
    by_test (λ (gs : List ℕ). member (get_or fs j 0) gs ≡ false) (member i settled) _ _ (λ _. n) (λ _. simp (member_more, ne_eqb (get_or fs j 0) f (omega arith)) n)

-- a place is one of them where it was not settled
pub unsettled_member : (settled : List ℕ) {k : ℕ} {fs : List ℕ} → Rising k fs → (j : ℕ) → j < length fs → member (get_or fs j 0) (unsettled settled 0 fs) ≡ not (member j settled)
unsettled_member settled {fs = fs} r j h = go (member j settled) refl
  where
    go : (b : Bool) → member j settled ≡ b → member (get_or fs j 0) (unsettled settled 0 fs) ≡ not b
    go true m = unsettled_gone settled 0 r j h (rw zero-add m)
    go false m = without_member (without_at settled 0 fs j h (rw zero-add m))
