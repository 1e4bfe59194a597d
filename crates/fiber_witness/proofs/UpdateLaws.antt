-- Laws of `specs/Update.antt` and `specs/inner/Marks.antt`: the unlocks one by one, the records that stand, and the state left.
-- Assumes nothing.
use Prim.Native.Nat.{ℕ, zero, suc, ◌+◌, ◌-◌, ◌*◌, ◌≤◌, ◌<◌}
use native.Mathlib.Nat.{add-zero, zero-add, add-sub_cancel_left, le_of_suc-le-suc}
use native.Mathlib.Numerals.{add-one}
use native.Mathlib.Omega.{arith}
use mathlib.Core.Path.{◌≡◌, refl, sym, ap, subst, ◌∙◌}
use mathlib.Core.Bool.{Bool, true, false, cond, ◌||◌}
use mathlib.Core.List.{List, [], ◌∷◌, ◌++◌, append-nil, flatten}
use lib.Dec.{eqb, ltb}
use lib.ListN.{length, get_or, take, drop, set, replicate, drop_of_length-le, length-set, length-take, length-drop}
use lib.Seq.{sets, drop-cons, take_all, get_or-set_same, get_or-set_other, get_or-take}
use borrow.Author.Tests.{lt-ltb, le-ltb, eq-eqb, ne_eqb, eqb-true, eqb-false}
use Rattle.fiber_bytes.specs.Bytes.{part}
use Rattle.fiber_bytes.proofs.BytesLaws.{part_length}
use Rattle.fiber_bytes.proofs.CaseLaws.{by_test}
use Rattle.std.proofs.lemmas.List.Sums.{sum_by-cons}
use Rattle.std.specs.Prelude.{Result, Ok, Err, count_by, not}
use Rattle.fiber_refusal.specs.declared.Refusal.{Refusal}
use Rattle.fiber_refusal.specs.declared.Refusal.TheVariants.{UnlockUnknown, SettledTwice}
use Rattle.fiber_types.specs.Records.{outcome}
use Rattle.fiber_witness.specs.declared.witness.WitnessLayout.{WitnessLayout}
use Rattle.fiber_witness.specs.declared.shares.UnlockedShares.{UnlockedShares}
use Rattle.fiber_witness.specs.Witness.{record_len, unlock_len, chunks, member, places, read_witness}
use Rattle.fiber_witness.specs.Update.{Taken, none, Unlocked, fine, faulty, take_unlocks, keep, share_left, standing, state_left, by_read, unlocked, written, updated, state_after}
use Rattle.fiber_witness.specs.inner.Strided.{behind_tlcs}
use Rattle.fiber_witness.specs.inner.Marks.{Marks, marked_from, marked}
use Rattle.fiber_witness.specs.inner.Taking.{TakesAs}
use Rattle.fiber_witness.proofs.WitnessLaws as WitnessCase
use Rattle.fiber_witness.proofs.WitnessLaws.{FineRead, places_nil, places_cons, read_fine, Even, even_none, even_more, flatten_even, records_length, even_records, state_size}

-- ---- marks

-- a place before the first mark is not marked
marked_before : (bs : List Bool) (i k : ℕ) → k < i → member k (marked_from i bs) ≡ false
unfolding marked_from member
marked_before [] i k h = refl
marked_before (b ∷ bs) i k h = go b (marked_before bs (suc i) k (omega arith))
  where
    go : (t : Bool) → member k (marked_from (suc i) bs) ≡ false → member k (cond t (i ∷ marked_from (suc i) bs) (marked_from (suc i) bs)) ≡ false
    go true e = rw (ne_eqb k i (omega arith)) e
    go false e = e

-- the mark j places behind the first
marked_from_lem : (bs : List Bool) (i j : ℕ) → get_or bs j false ≡ member (i + j) (marked_from i bs)
unfolding marked_from member
marked_from_lem [] i j = refl
marked_from_lem (b ∷ bs) i zero = rw add-zero (go b)
  where
    go : (t : Bool) → t ≡ member i (cond t (i ∷ marked_from (suc i) bs) (marked_from (suc i) bs))
    go true = rw (eq-eqb i i refl)
    go false = sym (marked_before bs (suc i) i (omega arith))
marked_from_lem (b ∷ bs) i (suc j) =
    let e : i + suc j ≡ suc i + j = omega arith in
    rw e (go b (marked_from_lem bs (suc i) j))
  where
    go : (t : Bool) → get_or bs j false ≡ member (suc i + j) (marked_from (suc i) bs)
        → get_or bs j false ≡ member (suc i + j) (cond t (i ∷ marked_from (suc i) bs) (marked_from (suc i) bs))
    go true e = rw (ne_eqb (suc i + j) i (omega arith)) e
    go false e = e

-- the mark of a place, which is false behind the last
pub marked_lem : (marks : List Bool) (i : ℕ) → get_or marks i false ≡ member i (marked marks)
unfolding marked
marked_lem marks i = rw zero-add at (marked_from_lem marks 0 i)

-- marks say what the list of the marked places says
pub marks_marked : (marks : List Bool) → Marks marks (marked marks)
unfolding Marks
marks_marked marks i h = marked_lem marks i

-- a repeat of false has no true
none_marked : (m i : ℕ) → get_or (replicate m false) i false ≡ false
none_marked zero i = refl
none_marked (suc m) zero = refl
none_marked (suc m) (suc i) = none_marked m i

-- no mark is set, and no place is settled
pub marks_none : (m : ℕ) → Marks (replicate m false) []
unfolding Marks member
marks_none m i h = none_marked m i

-- those in front say the same of their places
pub marks_front : (n : ℕ) (marks : List Bool) (s : List ℕ) → Marks marks s → Marks (take n marks) s
unfolding Marks
marks_front n marks s m i h =
    let l = length-take n marks in
    get_or-take n marks i false (omega (arith, h, l)) ∙ m i (omega (arith, h, l))

-- as many of them as a byte says, and as many whatever is set since
pub marks_all : (n : ℕ) → n ≤ 255 → n ≡ length (take n (replicate 256 false))
marks_all n h = omega (arith, length-take n (replicate 256 false))

pub marks_long : (n : ℕ) (marks : List Bool) → n ≤ 255 → length marks ≡ length (take n (replicate 256 false)) → length marks ≡ n
marks_long n marks h e = e ∙ sym (marks_all n h)

-- one place more
pub marks_set : (marks : List Bool) (s : List ℕ) (b : ℕ) → Marks marks s → Marks (set marks b true) (b ∷ s)
unfolding Marks member
marks_set marks s b m i h = go (eqb i b) refl
  where
    below : i < length marks
    below = omega (arith, h, length-set marks b true)

    go : (t : Bool) → eqb i b ≡ t → get_or (set marks b true) i false ≡ (t || member i s)
    go true e = rw (eqb-true i b e) (get_or-set_same marks b true false (rw (eqb-true i b e) at below))
    go false e = get_or-set_other marks b i true false (eqb-false i b e) ∙ m i below

-- ---- the records that stand

-- of none, none is kept
pub keep_none : (s : List ℕ) (i : ℕ) → keep s i [] ≡ []
unfolding keep
keep_none s i = refl

-- the first is kept where its place is not settled
pub keep_more : (s : List ℕ) (i : ℕ) (r : List ℕ) (rs : List (List ℕ)) → keep s i (r ∷ rs) ≡ cond (member i s) (keep s (i + 1) rs) (r ∷ keep s (i + 1) rs)
unfolding keep
keep_more s i r rs = refl

-- what is kept depends on which of their places are settled, and not on the order
pub keep_same : (s t : List ℕ) (i : ℕ) (rs : List (List ℕ)) → ((j : ℕ) → j < i + length rs → member j s ≡ member j t) → keep s i rs ≡ keep t i rs
unfolding keep
keep_same s t i [] e = refl
keep_same s t i (r ∷ rs) e = rw (e i (omega arith), keep_same s t (i + 1) rs (λ j h. e j (omega (arith, h))))

-- so marks keep what the list of settled places keeps, of records whose places have a mark
pub keep_marked_from : (marks : List Bool) (s : List ℕ) → Marks marks s → (i : ℕ) (rs : List (List ℕ)) → i + length rs ≤ length marks → keep (marked marks) i rs ≡ keep s i rs
unfolding Marks
keep_marked_from marks s m i rs g = keep_same (marked marks) s i rs (λ j h. sym (marks_marked marks j (omega (arith, h, g))) ∙ m j (omega (arith, h, g)))

pub keep_marked : (marks : List Bool) (s : List ℕ) → Marks marks s → (rs : List (List ℕ)) → length rs ≤ length marks → keep (marked marks) 0 rs ≡ keep s 0 rs
keep_marked marks s m rs g = keep_marked_from marks s m 0 rs (omega (arith, g))

-- those kept from place i on, one place on
pub keep_cons : (s : List ℕ) (rs : List (List ℕ)) (i : ℕ) → i < length rs
    → keep s i (drop i rs) ≡ cond (member i s) (keep s (i + 1) (drop (i + 1) rs)) (get_or rs i [] ∷ keep s (i + 1) (drop (i + 1) rs))
unfolding keep
keep_cons s rs i h = rw (drop-cons rs i [] h, add-one)

-- what the marks behind the first keep, each one place further on
pub keep_behind : (b : Bool) (bs : List Bool) (i : ℕ) (rs : List (List ℕ)) → keep (marked (b ∷ bs)) (i + 1) rs ≡ keep (marked bs) i rs
unfolding keep
keep_behind b bs i [] = refl
keep_behind b bs i (r ∷ rs) =
    let m : member (i + 1) (marked (b ∷ bs)) ≡ member i (marked bs) = rw add-one (sym (marked_lem (b ∷ bs) (suc i)) ∙ marked_lem bs i) in
    rw (m, keep_behind b bs (i + 1) rs)

-- no more are kept than there are
pub keep_few : (s : List ℕ) (rs : List (List ℕ)) (i : ℕ) → length (keep s i rs) ≤ length rs
unfolding keep
keep_few s [] i = omega arith
keep_few s (r ∷ rs) i = go (member i s) (keep_few s rs (i + 1))
  where
    go : (b : Bool) → length (keep s (i + 1) rs) ≤ length rs → length (cond b (keep s (i + 1) rs) (r ∷ keep s (i + 1) rs)) ≤ suc (length rs)
    go true h = omega arith
    go false h = omega arith

-- those kept of records of k bytes have k bytes
pub even_keep : {k : ℕ} {rs : List (List ℕ)} (settled : List ℕ) (i : ℕ) → Even k rs → Even k (keep settled i rs)
unfolding keep
even_keep settled i even_none = even_none
even_keep {k} settled i (even_more {r = r} {rs = rs} e t) =
    let x = even_keep settled (i + 1) t in
    by_test (Even k) (member i settled) _ _ (λ _. x) (λ _. even_more e x)

-- kept records are as long as they are many
pub keep_length : (s m : ℕ) (l settled : List ℕ) (i : ℕ) → m * s ≤ length l
    → length (flatten (keep settled i (chunks s m l))) ≡ length (keep settled i (chunks s m l)) * s
keep_length s m l settled i h = flatten_even (even_keep settled i (even_records s m l h))

module _ (h : ℕ) (w : List ℕ) (n : ℕ) (settled : List ℕ) where
  -- no more than n stand
  pub standing_few : length (standing h w n settled) ≤ n
  unfolding standing
  standing_few = omega (arith, keep_few settled (chunks (record_len h) n (drop 2 w)) 0, records_length (record_len h) n (drop 2 w))

  -- where all n are whole
  pub standing_length : behind_tlcs h n ≤ length w → length (flatten (standing h w n settled)) ≡ length (standing h w n settled) * record_len h
  unfolding standing
  standing_length g = keep_length (record_len h) n (drop 2 w) settled 0 (simp length-drop (omega arith))

-- ---- the unlocks, one by one

-- without an unlock all is fine
pub unlocks_none : (n share_place : ℕ) (w : List ℕ) (t : Taken) → take_unlocks n share_place w t [] ≡ fine n share_place t
unfolding take_unlocks
unlocks_none n share_place w t = refl

-- with one, by its byte
pub unlocks_more : (n share_place : ℕ) (w : List ℕ) (t : Taken) (p : ℕ) (ps : List ℕ)
    → take_unlocks n share_place w t (p ∷ ps)
    ≡ cond (eqb (get_or w p 0) 255) (take_unlocks n share_place w (record { settled = t.settled; remote = t.remote; local = true }) ps)
    (cond (eqb (get_or w p 0) 254) (take_unlocks n share_place w (record { settled = t.settled; remote = true; local = t.local }) ps)
    (cond (ltb (get_or w p 0) n)
    (cond (member (get_or w p 0) t.settled) (faulty (SettledTwice p))
    (take_unlocks n share_place w (record { settled = get_or w p 0 ∷ t.settled; remote = t.remote; local = t.local }) ps))
    (faulty (UnlockUnknown p))))
unfolding take_unlocks
unlocks_more n share_place w t p ps = refl

-- unlocks are fine of the TLCs and the shares that they were taken of, or are turned down
pub data Comes (n share_place : ℕ) : Unlocked → Type 0 where
  comes_fine : (t : Taken) → Comes n share_place (fine n share_place t)
  comes_faulty : (r : Refusal) → Comes n share_place (faulty r)

pub unlocks_come : (n share_place : ℕ) (w : List ℕ) (t : Taken) (ps : List ℕ) → Comes n share_place (take_unlocks n share_place w t ps)
unfolding take_unlocks
unlocks_come n share_place w t [] = comes_fine t
unlocks_come n share_place w t (p ∷ ps) =
    by_test (Comes n share_place) (eqb (get_or w p 0) 255) _ _
    (λ _. unlocks_come n share_place w _ ps)
    (λ _. by_test (Comes n share_place) (eqb (get_or w p 0) 254) _ _
    (λ _. unlocks_come n share_place w _ ps)
    (λ _. by_test (Comes n share_place) (ltb (get_or w p 0) n) _ _
    (λ _. by_test (Comes n share_place) (member (get_or w p 0) t.settled) _ _ (λ _. comes_faulty (SettledTwice p)) (λ _. unlocks_come n share_place w _ ps))
    (λ _. comes_faulty (UnlockUnknown p))))

-- all are fine, and take this
abbrev pub Ends : Unlocked → Taken → Type 0
Ends (fine n share_place t) u = t ≡ u
Ends (faulty r) u = ⊥

-- unlocks that are all fine, with marks and shares that say what they took
pub record All (n share_place : ℕ) (marks : List Bool) (remote local : Bool) (x : Unlocked) : Type 0 where
  pub taken : Taken
  pub is : x ≡ fine n share_place taken
  pub says : Marks marks taken.settled
  pub remote_is : remote ≡ taken.remote
  pub local_is : local ≡ taken.local

-- what `take_unlocks` answers tells which it is
pub takes_all : {n share_place : ℕ} {x : Unlocked} (v : UnlockedShares) (marks : List Bool) → Comes n share_place x → TakesAs x (Ok v) marks → All n share_place marks v.remote v.local x
unfolding TakesAs
takes_all v marks (comes_fine t) j = record { taken = t; is = refl; says = j.0; remote_is = j.1.0; local_is = j.1.1 }
takes_all v marks (comes_faulty r) j = absurd j

pub takes_faulty : {n share_place : ℕ} {x : Unlocked} (r : Refusal) (marks : List Bool) → Comes n share_place x → TakesAs x (Err r) marks → x ≡ faulty r
unfolding TakesAs
takes_faulty r marks (comes_fine t) j = absurd j
takes_faulty r marks (comes_faulty q) j = ap faulty (sym j)

-- The loop over the unlocks, at place at: to take the rest, from what was taken, gives what taking all gives.
pub record Taking (n : ℕ) (w : List ℕ) (first : ℕ) (marks : List Bool) (remote local : Bool) (at : ℕ) : Type 0 where
  pub settled : List ℕ
  pub long : length marks ≡ n
  pub says : Marks marks settled
  pub rest : (share_place : ℕ) → take_unlocks n share_place w (record { settled = settled; remote = remote; local = local }) (places w at) ≡ take_unlocks n share_place w none (places w first)

-- before the first, nothing is taken
pub taking_start : (w : List ℕ) (first : ℕ) (marks : List Bool) → Marks marks [] → Taking (length marks) w first marks false false first
taking_start w first marks m = record { settled = []; long = refl; says = m; rest = λ share_place. refl }

module _ (n : ℕ) (w : List ℕ) (first : ℕ) (marks : List Bool) (remote local : Bool) (at : ℕ) (c : Taking n w first marks remote local at) where
  abbrev all : ℕ → Unlocked
  all share_place = take_unlocks n share_place w none (places w first)

  -- at the end every unlock is taken
  pub taking_end : length w ≤ at → (share_place : ℕ) → TakesAs (all share_place) (Ok (record { remote = remote; local = local })) marks
  unfolding take_unlocks TakesAs
  taking_end h share_place =
      subst (λ (x : Unlocked). TakesAs x (Ok (record { remote = remote; local = local })) marks) (rw (places_nil w at h) at (c.rest share_place)) (c.says, (refl, refl))

  -- turned down by a row
  turned : (r : Refusal) (share_place : ℕ) → faulty r ≡ all share_place → TakesAs (all share_place) (Err r) marks
  unfolding TakesAs
  turned r share_place f = subst (λ (x : Unlocked). TakesAs x (Err r) marks) f refl

  module _ (h : at < length w) where
    -- 0xFF
    pub taking_local : get_or w at 0 ≡ 255 → Taking n w first marks remote true (at + unlock_len w at)
    unfolding take_unlocks
    taking_local a = record { settled = c.settled; long = c.long; says = c.says; rest = λ share_place. rw (places_cons w at h, a) at (c.rest share_place) }

    module _ (a : get_or w at 0 ≡ 255 → ⊥) where
      -- 0xFE
      pub taking_remote : get_or w at 0 ≡ 254 → Taking n w first marks true local (at + unlock_len w at)
      unfolding take_unlocks
      taking_remote b = record { settled = c.settled; long = c.long; says = c.says; rest = λ share_place. rw (places_cons w at h, b) at (c.rest share_place) }

      module _ (b : get_or w at 0 ≡ 254 → ⊥) where
        -- row 5
        pub taking_beyond : n ≤ get_or w at 0 → (share_place : ℕ) → TakesAs (all share_place) (Err (UnlockUnknown at)) marks
        unfolding take_unlocks
        taking_beyond f share_place =
            turned (UnlockUnknown at) share_place
            (rw (places_cons w at h, ne_eqb (get_or w at 0) 255 a, ne_eqb (get_or w at 0) 254 b, le-ltb (get_or w at 0) n f) at (c.rest share_place))

        module _ (f : get_or w at 0 < n) where
          -- row 6
          pub taking_twice : get_or marks (get_or w at 0) false ≡ true → (share_place : ℕ) → TakesAs (all share_place) (Err (SettledTwice at)) marks
          unfolding take_unlocks Marks
          taking_twice d share_place =
              turned (SettledTwice at) share_place
              (rw (places_cons w at h, ne_eqb (get_or w at 0) 255 a, ne_eqb (get_or w at 0) 254 b, lt-ltb (get_or w at 0) n f, sym (c.says (get_or w at 0) (omega (arith, c.long))) ∙ d) at (c.rest share_place))

          -- a TLC
          pub taking_tlc : get_or marks (get_or w at 0) false ≡ false → Taking n w first (set marks (get_or w at 0) true) remote local (at + unlock_len w at)
          unfolding take_unlocks Marks
          taking_tlc d = record {
            settled = get_or w at 0 ∷ c.settled;
            long = length-set marks (get_or w at 0) true ∙ c.long;
            says = marks_set marks c.settled (get_or w at 0) c.says;
            rest = λ share_place. rw (places_cons w at h, ne_eqb (get_or w at 0) 255 a, ne_eqb (get_or w at 0) 254 b, lt-ltb (get_or w at 0) n f, sym (c.says (get_or w at 0) (omega (arith, c.long))) ∙ d) at (c.rest share_place);
          }

-- ---- counting the records that stand

-- those that are kept from place i on are as many as the marks there that are not set
counted_from : (marks : List Bool) (rs : List (List ℕ)) (i : ℕ) → i + length rs ≤ length marks → count_by not (take (length rs) (drop i marks)) ≡ length (keep (marked marks) i rs)
unfolding keep Marks
counted_from marks [] i h = refl
counted_from marks (r ∷ rs) i h =
    let m : drop i marks ≡ get_or marks i false ∷ drop (i + 1) marks = rw add-one (drop-cons marks i false (omega arith)) in
    let next : count_by not (take (length rs) (drop (i + 1) marks)) ≡ length (keep (marked marks) (i + 1) rs) = counted_from marks rs (i + 1) (omega arith) in
    rw (m, sym (marks_marked marks i (omega arith))) (go (get_or marks i false) (take (length rs) (drop (i + 1) marks)) (keep (marked marks) (i + 1) rs) next)
  where
    go : (b : Bool) (l : List Bool) (ks : List (List ℕ)) → count_by not l ≡ length ks → count_by not (b ∷ l) ≡ length (cond b ks (r ∷ ks))
    go true l ks e = sum_by-cons (λ x. cond (not x) 1 0) true l ∙ omega (arith, e)
    go false l ks e = sum_by-cons (λ x. cond (not x) 1 0) false l ∙ omega (arith, e)

pub counted_standing : (marks : List Bool) (rs : List (List ℕ)) → length rs ≡ length marks → count_by not marks ≡ length (keep (marked marks) 0 rs)
counted_standing marks rs e = ap (count_by not) (sym (take_all (length rs) marks (omega arith))) ∙ counted_from marks rs 0 (omega arith)

-- ---- stores to a part

-- stores behind an element
sets_cons : (vs l : List ℕ) (x i : ℕ) → x ∷ sets l i vs ≡ sets (x ∷ l) (suc i) vs
sets_cons [] l x i = refl
sets_cons (v ∷ vs) l x i = sets_cons vs (set l i v) x (suc i)

-- stores to what is behind the first a elements
sets_tail : (a : ℕ) (l vs : List ℕ) → a ≤ length l → take a l ++ sets (drop a l) 0 vs ≡ sets l a vs
sets_tail zero l vs h = refl
sets_tail (suc a) [] vs h = absurd (omega arith)
sets_tail (suc a) (x ∷ l) vs h = ap (λ (r : List ℕ). x ∷ r) (sets_tail a l vs (le_of_suc-le-suc h)) ∙ sets_cons vs l x a

-- what a callee that was lent `&mut l[a..]`, and stored vs from its front, leaves of the whole
pub sets_part : (l : List ℕ) (a : ℕ) (vs ys : List ℕ) → a ≤ length l → ys ≡ sets (take (length l - a) (drop a l)) 0 vs
    → take a l ++ (ys ++ drop (length l - a) (drop a l)) ≡ sets l a vs
sets_part l a vs ys h e =
    let whole : take (length l - a) (drop a l) ≡ drop a l = take_all (length l - a) (drop a l) (simp length-drop (omega arith)) in
    let past : length (drop a l) ≤ length l - a = simp length-drop (omega arith) in
    let nil : drop (length l - a) (drop a l) ≡ [] = drop_of_length-le (drop a l) past in
    simp (e, whole, nil, append-nil) (sets_tail a l vs h)

-- what is behind a place has room for what ends within the whole
pub rest_room : (l : List ℕ) (at r : ℕ) → at + r ≤ length l → r ≤ length (take (length l - at) (drop at l))
rest_room l at r g = omega (arith, length-take (length l - at) (drop at l), length-drop at l)

-- the part that a start and an end name
pub part_between : (w : List ℕ) (from s : ℕ) → take (from + s - from) (drop from w) ≡ part w from s
part_between w from s = ap (λ (k : ℕ). take k (drop from w)) (add-sub_cancel_left from s)

-- ---- the state left

-- a share that is not unlocked is kept, one that is becomes zeros
pub share_kept : (s : List ℕ) → share_left false s ≡ s
unfolding share_left
share_kept s = refl

pub share_taken : (s : List ℕ) → share_left true s ≡ replicate 36 0
unfolding share_left
share_taken s = refl

-- a share has 36 bytes, unlocked or not
pub left_length : (b : Bool) (s : List ℕ) → length s ≡ 36 → length (share_left b s) ≡ 36
unfolding share_left
left_length true s e = refl
left_length false s e = e

module _ (h : ℕ) (w : List ℕ) (n share_place : ℕ) (t : Taken) (g : share_place + 72 ≤ length w) where
  -- the count, the records that stand, and two shares
  pub state_length : length (state_left h w n share_place t) ≡ 73 + length (flatten (standing h w n t.settled))
  unfolding state_left state_after standing
  state_length =
      state_size _ _ _
      (left_length t.remote (part w share_place 36) (part_length w share_place 36 (omega arith)))
      (left_length t.local (part w (share_place + 36) 36) (part_length w (share_place + 36) 36 (omega arith)))

-- ---- the whole update

module _ (h : ℕ) (w out : List ℕ) where
  -- a witness that is not read
  pub updated_refused : (r : Refusal) → read_witness h w ≡ Err r → (Err r ≡ (updated h w out).answer) × (out ≡ (updated h w out).bytes)
  unfolding updated unlocked by_read written
  updated_refused r e = (rw e, rw e)

  module _ (l : WitnessLayout) (e : read_witness h w ≡ Ok l) where
    -- a witness that is read whole
    updated_read : updated h w out ≡ written h w out (take_unlocks l.n l.share_place w none (places w l.first_unlock))
    unfolding updated unlocked by_read
    updated_read = rw e

    -- and its unlocks: turned down, or the state left is written
    pub updated_turned : (r : Refusal) → take_unlocks l.n l.share_place w none (places w l.first_unlock) ≡ faulty r → (Err r ≡ (updated h w out).answer) × (out ≡ (updated h w out).bytes)
    unfolding written
    updated_turned r f = rw (updated_read, f) (refl, refl)

    pub updated_fine : (t : Taken) → take_unlocks l.n l.share_place w none (places w l.first_unlock) ≡ fine l.n l.share_place t → updated h w out ≡ outcome true (state_left h w l.n l.share_place t) out
    unfolding written
    updated_fine t f = rw (updated_read, f)

-- ---- what was read is there

-- of unlocks that are turned down nothing is said
abbrev pub Takes : ℕ → List ℕ → Unlocked → Type 0
Takes h w (fine n share_place t) = share_place + 72 ≤ length w
Takes h w (faulty r) = Unit {0}

-- where all are taken, the witness has both shares
pub unlocked_shares : (h : ℕ) (w : List ℕ) → Takes h w (unlocked h w)
unfolding unlocked by_read
unlocked_shares h w = go (read_witness h w) (WitnessCase.fine h w)
  where
    took : {n share_place : ℕ} → share_place + 72 ≤ length w → {x : Unlocked} → Comes n share_place x → Takes h w x
    took g (comes_fine t) = g
    took g (comes_faulty r) = tt

    go : (r : Result WitnessLayout Refusal) → FineRead h w r → Takes h w (by_read w r)
    go (Ok l) f = took f.shares (unlocks_come l.n l.share_place w none (places w l.first_unlock))
    go (Err q) f = tt
