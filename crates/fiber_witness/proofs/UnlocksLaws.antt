-- The list of unlocks (Unlocks.antt) and the update's reading by places (Witness.antt) are one reading: the same unlocks at the same places, and
-- the same one cut short. By one walk over the list, unlock by unlock beside the witness.
-- Assumes nothing.
use Prim.Native.Nat.{ℕ, zero, suc, ◌+◌, ◌-◌, ◌≤◌, ◌<◌}
use native.Mathlib.Nat.{add-zero, le_refl}
use native.Mathlib.Omega.{arith}
use mathlib.Core.Path.{◌≡◌, refl, sym, ap, ◌∙◌}
use mathlib.Core.Bool.{cond}
use mathlib.Core.List.{List, [], ◌∷◌, ◌++◌, append-nil, flatten}
use lib.ListN.{length, get_or, take, drop, length-append, length-drop, drop_of_length-le}
use lib.Seq.{length-take-le, get_or-drop, get_or-take, drop-drop, take_all}
use lib.Dec.{leb, eqb}
use borrow.Author.Tests.{ne_eqb, le-leb, leb-true, leb-false}
use Rattle.fiber_bytes.proofs.CaseLaws.{by_test}
use Rattle.fiber_witness.specs.Witness.{unlock_len, places, unless_cut}
use Rattle.fiber_witness.specs.Unlocks.{unlock_size, Unlocks, unlocks_within, unlocks_in}
use Rattle.fiber_witness.proofs.WitnessLaws.{unlock_long, places_nil, places_cons, cut_none, cut_passed, cut_short}

-- where unlocks begin that stand one behind the other, the first at a place
unfoldable pub beginnings : ℕ → List (List ℕ) → List ℕ
beginnings at [] = []
beginnings at (u ∷ us) = at ∷ beginnings (at + length u) us

-- where no unlock begins, and one more
pub beginnings_none : (at : ℕ) → beginnings at [] ≡ []
unfolding beginnings
beginnings_none at = refl

pub beginnings_more : (at : ℕ) (u : List ℕ) (us : List (List ℕ)) → beginnings at (u ∷ us) ≡ at ∷ beginnings (at + length u) us
unfolding beginnings
beginnings_more at u us = refl

-- From a place of w on: whole unlocks, each with its length and its first byte there, and to the end a rest that is no whole one.
pub data Reads (w : List ℕ) : ℕ → List (List ℕ) → List ℕ → Type 0 where
  reads_rest : {at : ℕ} {rest : List ℕ} → length rest ≡ length w - at → length rest < unlock_len w at → Reads w at [] rest
  reads_more : {at : ℕ} {u : List ℕ} {us : List (List ℕ)} {rest : List ℕ}
      → length u ≡ unlock_len w at → at + length u ≤ length w → get_or u 0 0 ≡ get_or w at 0 → Reads w (at + length u) us rest → Reads w at (u ∷ us) rest

-- both readings give the unlock at a place the same length
same_size : (w : List ℕ) (at : ℕ) (s : List ℕ) → drop at w ≡ s → unlock_size s ≡ unlock_len w at
unfolding unlock_size
same_size w at s e = rw (← e, get_or-drop at w 1 0)

-- with fuel enough
reads_within : (fuel : ℕ) (w : List ℕ) (at : ℕ) (s : List ℕ) → drop at w ≡ s → length s ≤ fuel
    → Reads w at (unlocks_within fuel s).whole (unlocks_within fuel s).rest
unfolding unlocks_within
reads_within zero w at s e f =
    let size : length s ≡ length w - at = ap length (sym e) ∙ length-drop at w in
    let short : length s < unlock_len w at = omega (arith, unlock_long w at) in
    reads_rest size short
reads_within (suc fuel) w at s e f =
    let n = unlock_size s in
    let k = same_size w at s e in
    let size : length s ≡ length w - at = ap length (sym e) ∙ length-drop at w in
    by_test (λ (u : Unlocks). Reads w at u.whole u.rest) (leb n (length s)) _ _
    (λ t.
    let m : length (take n s) ≡ n = length-take-le n s (leb-true _ _ t) in
    let next : drop (at + length (take n s)) w ≡ drop n s = ap (λ (i : ℕ). drop (at + i) w) m ∙ sym (drop-drop n at w) ∙ ap (drop n) e in
    let first : get_or s 0 0 ≡ get_or w at 0 = ap (λ (l : List ℕ). get_or l 0 0) (sym e) ∙ get_or-drop at w 0 0 ∙ ap (λ (i : ℕ). get_or w i 0) (add-zero at) in
    let room : at + length (take n s) ≤ length w = omega (arith, unlock_long w at, leb-true n (length s) t) in
    let less : length (drop n s) ≤ fuel = omega (arith, unlock_long w at, length-drop n s) in
    reads_more (m ∙ k) room (get_or-take n s 0 0 (omega (arith, unlock_long w at)) ∙ first) (reads_within fuel w (at + length (take n s)) (drop n s) next less))
    (λ t.
    let short : length s < unlock_len w at = omega (arith, leb-false n (length s) t) in
    reads_rest size short)

-- the place of a rest, if there is one
abbrev cut_at : ℕ → List ℕ → List ℕ
cut_at at [] = []
cut_at at (b ∷ bs) = at ∷ []

-- one unlock further
further : (at : ℕ) (u : List ℕ) (us : List (List ℕ)) → at + length u + length (flatten us) ≡ at + length (flatten (u ∷ us))
unfolding flatten
further at u us = omega (arith, length-append u (flatten us))

-- The update's places are those where the whole unlocks begin, and that of the rest, if there is one.
reads_places : {w : List ℕ} {at : ℕ} {us : List (List ℕ)} {rest : List ℕ} → Reads w at us rest
    → places w at ≡ beginnings at us ++ cut_at (at + length (flatten us)) rest
unfolding beginnings flatten
reads_places {w} {at} (reads_rest {rest = []} e f) = places_nil w at (omega arith)
reads_places {w} {at} (reads_rest {rest = b ∷ bs} e f) =
    places_cons w at (omega arith) ∙ ap (λ (ps : List ℕ). at ∷ ps) (places_nil w (at + unlock_len w at) (omega arith)) ∙ ap (λ (i : ℕ). i ∷ []) (sym (add-zero at))
reads_places {w} {at} (reads_more {u = u} {us = us} {rest = rest} k room byte r) =
    places_cons w at (omega (arith, unlock_long w at))
    ∙ ap (λ (n : ℕ). at ∷ places w (at + n)) (sym k)
    ∙ ap (λ (ps : List ℕ). at ∷ ps) (reads_places r)
    ∙ ap (λ (n : ℕ). at ∷ (beginnings (at + length u) us ++ cut_at n rest)) (further at u us)

-- The update's reading is cut short exactly where there is a rest, and at its first byte.
reads_cut : {A : Type 0} {w : List ℕ} {at : ℕ} {us : List (List ℕ)} {rest : List ℕ} → Reads w at us rest → (cut : ℕ → A) (whole : A)
    → unless_cut w (places w at) cut whole ≡ cond (eqb (length rest) 0) whole (cut (at + length (flatten us)))
unfolding flatten
reads_cut {w = w} {at = at} (reads_rest {rest = []} e f) cut whole = rw (places_nil w at (omega arith), cut_none)
reads_cut {w = w} {at = at} (reads_rest {rest = b ∷ bs} e f) cut whole = rw (places_cons w at (omega arith), cut_short w cut whole at _ (omega arith), add-zero at, ne_eqb (length (b ∷ bs)) 0 (omega arith))
reads_cut {w = w} {at = at} (reads_more {u = u} {us = us} {rest = rest} k room byte r) cut whole =
    rw (places_cons w at (omega (arith, unlock_long w at)), cut_passed w cut whole at _ (omega arith), ← k, ← further at u us) (reads_cut r cut whole)

-- ---- for whoever has the bytes of a witness from a place on

module _ (w : List ℕ) (at : ℕ) (s : List ℕ) (e : drop at w ≡ s) where
  -- the list of unlocks stands beside the witness
  pub unlocks_read : Reads w at (unlocks_in s).whole (unlocks_in s).rest
  unfolding unlocks_in
  unlocks_read = reads_within (length s) w at s e (omega arith)

  -- the update turns down what is no whole unlock, at its first byte
  pub unlocks_cut : {A : Type 0} (cut : ℕ → A) (whole : A)
      → unless_cut w (places w at) cut whole ≡ cond (eqb (length (unlocks_in s).rest) 0) whole (cut (at + length (flatten (unlocks_in s).whole)))
  unlocks_cut cut whole = reads_cut unlocks_read cut whole

  -- else it finds the same unlocks
  pub unlocks_places : (unlocks_in s).rest ≡ [] → places w at ≡ beginnings at (unlocks_in s).whole
  unlocks_places f = reads_places unlocks_read ∙ ap (λ (l : List ℕ). beginnings at (unlocks_in s).whole ++ cut_at (at + length (flatten (unlocks_in s).whole)) l) f ∙ append-nil _

-- ---- one unlock alone

none_within : (fuel : ℕ) → unlocks_within fuel [] ≡ record { whole = []; rest = [] }
unfolding unlocks_within unlock_size
none_within zero = refl
none_within (suc fuel) = refl

one_within : (fuel : ℕ) (u : List ℕ) → 0 < fuel → unlock_size u ≡ length u → unlocks_within fuel u ≡ record { whole = u ∷ []; rest = [] }
unfolding unlocks_within
one_within zero u f e = absurd (omega arith)
one_within (suc fuel) u f e =
    rw (e, le-leb (length u) (length u) (le_refl (length u)), take_all (length u) u (le_refl (length u)), drop_of_length-le u (le_refl (length u)), none_within fuel)

pub unlocks_one : (u : List ℕ) → 0 < length u → length u ≡ unlock_len u 0 → unlocks_in u ≡ record { whole = u ∷ []; rest = [] }
unfolding unlocks_in
unlocks_one u f e = one_within (length u) u f (same_size u 0 u refl ∙ sym e)
