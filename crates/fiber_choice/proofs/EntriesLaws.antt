-- Laws of `specs/Entries.antt`: equal bytes, one family of laws for every walk over a list of entries, of any size, and what is told pair by pair of two lists.
-- Assumes nothing.
use Prim.Native.Nat.{ℕ, zero, suc, ◌+◌, ◌-◌, ◌*◌, ◌/◌, ◌≤◌, ◌<◌}
use native.Mathlib.Nat.{div-eq_of_lt, zero-mul, suc-mul, mul-le-mul_right, zero-div, div-mul-le_self, add-mul-div_right}
use native.Mathlib.Numerals.{add-one}
use native.Mathlib.Omega.{arith}
use mathlib.Core.Path.{◌≡◌, refl, sym, ap, ◌∙◌}
use mathlib.Core.Bool.{Bool, true, false, ◌&&◌, and-eq-true_iff, false≢true}
use mathlib.Core.List.{List, [], ◌∷◌, ◌++◌, map}
use lib.Dec.{eqb}
use lib.ListN.{length, get_or, take, drop, length-append, length-drop, length-take}
use lib.Seq.{take_all, drop-cons, drop-drop, drop-nil, take_at, drop_at}
use borrow.Author.Tests.{eqb-true}
use Rattle.std.specs.List.{list_all, zip}
use Rattle.std.specs.Prelude.{Option, Some, None, Ok}
use Rattle.fiber_bytes.specs.Bytes.{part}
use Rattle.fiber_bytes.proofs.BytesLaws.{part_length}
use Rattle.fiber_types.specs.HashLen.{valid_hash_len}
use Rattle.fiber_types.specs.Records.{tlc_at, read_tlc}
use Rattle.fiber_types.proofs.RecordsLaws.{tlc_whole}
use Rattle.fiber_witness.specs.Witness.{chunks}
use Rattle.std.proofs.lemmas.List.{take-append-drop, map-id}
use Rattle.fiber_bytes.proofs.CaseLaws.{by_each}
use Rattle.fiber_choice.specs.Entries.{same, same_lists, entries, find_first, tracked_len, tracked_record, tracked_records}
use Rattle.fiber_witness.proofs.WitnessLaws.{Even, even_records, records_length, records_none, records_more}

-- ---- the records of a tracked list

-- a tracked TLC has one record
pub tracked_length : (es : List (List ℕ)) → length (tracked_records es) ≡ length es
unfolding tracked_records
tracked_length [] = refl
tracked_length (e ∷ es) = ap suc (tracked_length es)

-- as the code cuts it out: all that is behind the first 33 bytes
pub record_rest : (t : List ℕ) → take (length t - 33) (drop 33 t) ≡ tracked_record t
record_rest t = take_all (length t - 33) (drop 33 t) (omega (arith, length-drop 33 t))

pub record_part : (t : List ℕ) → part t 33 (length t) ≡ tracked_record t
record_part t = take_all (length t) (drop 33 t) (omega (arith, length-drop 33 t))

-- of a tracked TLC that is whole it is read
pub tracked_read : (h : ℕ) (t : List ℕ) → valid_hash_len h ≡ true → length t ≡ 98 + h → read_tlc h (tracked_record t) 0 ≡ Ok (tlc_at h (tracked_record t) 0)
tracked_read h t k e = tlc_whole h (tracked_record t) 0 k (omega (arith, length-drop 33 t))

-- behind 33 bytes of its entry
pub tracked_at : (es : List (List ℕ)) (i : ℕ) → get_or (tracked_records es) i [] ≡ tracked_record (get_or es i [])
unfolding tracked_records
tracked_at [] i = sym (drop-nil 33)
tracked_at (e ∷ es) zero = refl
tracked_at (e ∷ es) (suc i) = tracked_at es i

-- ---- equal lists

-- lists that are the same have one length
pub lists_length : (a b : List (List ℕ)) → same_lists a b ≡ true → length a ≡ length b
unfolding same_lists
lists_length [] [] e = refl
lists_length [] (y ∷ b) e = absurd (false≢true e)
lists_length (x ∷ a) [] e = absurd (false≢true e)
lists_length (x ∷ a) (y ∷ b) e = ap suc (lists_length a b ((and-eq-true_iff (same x y) (same_lists a b)).0 e).1)

-- so of other lengths they differ
pub lists_differ : (a b : List (List ℕ)) → (length a ≡ length b → ⊥) → false ≡ same_lists a b
lists_differ a b n = go (same_lists a b) refl
  where
    go : (x : Bool) → same_lists a b ≡ x → false ≡ x
    go true e = absurd (n (lists_length a b e))
    go false e = refl

-- of one length they are told pair by pair
pub lists_zip : {A B : Type 0} (f : A → List ℕ) (g : B → List ℕ) (xs : List A) (ys : List B) → length xs ≡ length ys
    → list_all (λ p. same (f p.0) (g p.1)) (zip xs ys) ≡ same_lists (map f xs) (map g ys)
unfolding same_lists
lists_zip f g [] [] e = refl
lists_zip f g [] (y ∷ ys) e = absurd (omega (arith, e))
lists_zip f g (x ∷ xs) [] e = absurd (omega (arith, e))
lists_zip f g (x ∷ xs) (y ∷ ys) e = ap (λ (r : Bool). same (f x) (g y) && r) (lists_zip f g xs ys (omega (arith, e)))

-- records and those of a tracked list, as many
pub records_paired : (rs ts : List (List ℕ)) → length rs ≡ length ts → list_all (λ p. same p.0 (tracked_record p.1)) (zip rs ts) ≡ same_lists rs (tracked_records ts)
unfolding tracked_records
records_paired rs ts e = lists_zip (λ x. x) tracked_record rs ts e ∙ ap (λ (l : List (List ℕ)). same_lists l (map tracked_record ts)) (map-id rs)

-- ---- entries

-- the record at a place of m
pub record_at : (size m : ℕ) (s : List ℕ) (i : ℕ) → i < m → get_or (chunks size m s) i [] ≡ part s (i * size) size
unfolding chunks
record_at size zero s i h = absurd (omega arith)
record_at size (suc m) s zero h = rw (zero-mul size)
record_at size (suc m) s (suc i) h =
    let e : size + i * size ≡ suc i * size = omega (arith, suc-mul i size) in
    record_at size m (drop size s) i (omega arith)
    ∙ ap (take size) (drop-drop (i * size) size s)
    ∙ ap (λ (k : ℕ). part s k size) e

module _ (size : ℕ) (s : List ℕ) where
  -- there are as many entries as there is room for
  pub entries_length : length (entries size s) ≡ length s / size
  unfolding entries
  entries_length = records_length size (length s / size) s

  -- of as many bytes each
  pub entries_even : Even size (entries size s)
  unfolding entries
  entries_even = even_records size (length s / size) s (div-mul-le_self (length s) size)

  module _ (i : ℕ) (h : i < length s / size) where
    -- the entry at a place
    pub entry_at : get_or (entries size s) i [] ≡ part s (i * size) size
    unfolding entries
    entry_at = record_at size (length s / size) s i h

    -- it is whole
    pub entry_room : i * size + size ≤ length s
    entry_room = omega (arith, suc-mul i size, mul-le-mul_right size h, div-mul-le_self (length s) size)

    -- it is the first of those from its place on
    pub entries_cons : drop i (entries size s) ≡ part s (i * size) size ∷ drop (i + 1) (entries size s)
    entries_cons = rw (drop-cons (entries size s) i [] (omega (arith, entries_length)), entry_at, add-one)

-- where some are left from place j on, the first of them is whole, and the others are left behind it
pub record EntryLeft (size : ℕ) (s : List ℕ) (j : ℕ) (t : List ℕ) (ts : List (List ℕ)) : Type 0 where
  pub below : j < length (entries size s)
  pub at : t ≡ get_or (entries size s) j []
  pub whole : length t ≡ size
  pub rest : ts ≡ drop (j + 1) (entries size s)

pub entry_left : (size : ℕ) (s : List ℕ) (j : ℕ) (es : List (List ℕ)) (t : List ℕ) (ts : List (List ℕ)) → es ≡ drop j (entries size s) → es ≡ t ∷ ts → EntryLeft size s j t ts
entry_left size s j es t ts e f = record {
  below = below;
  at = head g ∙ sym (entry_at size s j few);
  whole = ap length (head g) ∙ part_length s (j * size) size (entry_room size s j few);
  rest = tail g;
}
  where
    below : j < length (entries size s)
    below = omega (arith, ap length (sym f ∙ e), length-drop j (entries size s))

    few : j < length s / size
    few = omega (arith, below, entries_length size s)

    g : t ∷ ts ≡ part s (j * size) size ∷ drop (j + 1) (entries size s)
    g = sym f ∙ e ∙ entries_cons size s j few

    head : {x y : List ℕ} {a b : List (List ℕ)} → x ∷ a ≡ y ∷ b → x ≡ y
    head z = cc

    tail : {x y : List ℕ} {a b : List (List ℕ)} → x ∷ a ≡ y ∷ b → a ≡ b
    tail z = cc

-- no bytes hold no entry
pub entries_none : (size : ℕ) → entries size [] ≡ []
unfolding entries
entries_none size = ap (λ (m : ℕ). chunks size m []) (zero-div size) ∙ records_none size []

-- bytes of an entry in front are the first one
pub entries_append : (size : ℕ) (e s : List ℕ) → 0 < size → length e ≡ size → entries size (e ++ s) ≡ e ∷ entries size s
unfolding entries
entries_append size e s p n =
    let l : length (e ++ s) ≡ length s + 1 * size = omega (arith, length-append e s) in
    let q : length (e ++ s) / size ≡ suc (length s / size) = ap (λ (x : ℕ). x / size) l ∙ add-mul-div_right (length s) 1 p ∙ add-one (length s / size) in
    ap (λ (m : ℕ). chunks size m (e ++ s)) q
    ∙ records_more size (length s / size) (e ++ s)
    ∙ rw (take_at e s size n, drop_at e s size n)

-- a list with fewer bytes than an entry has none, and another is its first entry and those behind it
pub entries_few : (size : ℕ) (s : List ℕ) → length s < size → entries size s ≡ []
unfolding entries chunks
entries_few size s h = ap (λ (m : ℕ). chunks size m s) (div-eq_of_lt h) ∙ records_none size s

pub entries_split : (size : ℕ) (s : List ℕ) → 0 < size → size ≤ length s → entries size s ≡ take size s ∷ entries size (drop size s)
entries_split size s p h =
    let n : length (take size s) ≡ size = length-take size s ∙ omega arith in
    ap (entries size) (sym (take-append-drop size s)) ∙ entries_append size (take size s) (drop size s) p n

-- ---- the first that passes a test

-- what is found is among n
abbrev pub FoundBelow : ℕ → Option ℕ → Type 0
FoundBelow n (Some i) = i < n
FoundBelow n None = Unit {0}

-- only an entry of the list is found
pub found_below : (test : List ℕ → Bool) (es : List (List ℕ)) (i n : ℕ) → i + length es ≤ n → FoundBelow n (find_first test i es)
found_below test [] i n h = tt
found_below test (e ∷ es) i n h = by_each (FoundBelow n) (test e) _ _ (omega arith) (found_below test es (i + 1) n (omega arith))

-- as many tracked TLCs as the code counts
pub tracked_count : (h : ℕ) (s : List ℕ) → length (entries (tracked_len h) s) ≡ length s / (98 + h)
tracked_count h s =
    let z : tracked_len h ≡ 98 + h = omega arith in
    entries_length (tracked_len h) s ∙ ap (λ (m : ℕ). length s / m) z

-- ---- lists that are the same are equal

-- what a test of two lists, one element after the other, says yes to is equal
alike : {A : Type 0} (one : A → A → Bool) (test : List A → List A → Bool)
    → ((y : A) (b : List A) → test [] (y ∷ b) ≡ false) → ((x : A) (a : List A) → test (x ∷ a) [] ≡ false)
    → ((x y : A) (a b : List A) → test (x ∷ a) (y ∷ b) ≡ (one x y && test a b))
    → ((x y : A) → one x y ≡ true → x ≡ y)
    → (a b : List A) → test a b ≡ true → a ≡ b
alike one test f g h eq [] [] e = refl
alike one test f g h eq [] (y ∷ b) e = absurd (false≢true (sym (f y b) ∙ e))
alike one test f g h eq (x ∷ a) [] e = absurd (false≢true (sym (g x a) ∙ e))
alike one test f g h eq (x ∷ a) (y ∷ b) e =
    let s = (and-eq-true_iff (one x y) (test a b)).0 (sym (h x y a b) ∙ e) in
    rw (eq x y s.0, alike one test f g h eq a b s.1)

same_equal : (a b : List ℕ) → same a b ≡ true → a ≡ b
same_equal = alike eqb same (λ y b. refl) (λ x a. refl) (λ x y a b. refl) (λ x y e. eqb-true x y e)

pub lists_equal : (a b : List (List ℕ)) → same_lists a b ≡ true → a ≡ b
unfolding same_lists
lists_equal = alike same same_lists (λ y b. refl) (λ x a. refl) (λ x y a b. refl) same_equal
