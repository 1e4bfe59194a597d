-- Laws of `specs/Bytes.antt`: numbers in bytes by halves, and runs of stores.
-- Assumes nothing.
use mathlib.Core.Path.{◌≡◌, refl, sym, ap, ap₂, ◌∙◌}
use mathlib.Core.List.{List, [], ◌∷◌, ◌++◌, append-nil, append_assoc, flat_map}
use mathlib.Core.Logic.{⊎_elim}
use Prim.Native.Nat.{ℕ, zero, suc, min, ◌+◌, ◌-◌, ◌*◌, ◌/◌, ◌%◌, ◌^◌, ◌≤◌, ◌<◌}
use native.Mathlib.Nat.{add-zero, add-suc, suc-add, zero-add, mul_assoc, mul_comm, mul-zero, mul-suc, pow-zero, pow-suc, div-one, div-div-eq-div-mul, pow-le-pow_right}
use native.Mathlib.Numerals.{add-one}
use native.Mathlib.Omega.{arith}
use lib.ListN.{length, get_or, set, take, drop, replicate, drop_of_length-le, length-append, length-take, length-drop, take-append-drop}
use lib.Seq.{sets, length-sets, sets-eq, length-take-le, drop-cons, drop-drop, take-add, take-take, take_all, set_out}
use lib.Bits.{bit_or}
use Rattle.std.specs.List.{fold}
use Rattle.std.specs.Int.{Width, byte_len, byte_worth, sum_through, bytes_low_first, from_le_bytes, to_le_bytes}
use Rattle.std.proofs.Common.{reverse}
use Rattle.std.proofs.lemmas.Bool.{cases_lt}
use Rattle.std.proofs.lemmas.Nat.{or_shifted}
use Rattle.std.proofs.lemmas.List.{reverse-append}
use Rattle.std.proofs.lemmas.List.Sums.{fold-append}
use Rattle.fiber_bytes.specs.Bytes.{part, le, le_bytes, numbers}

-- ---- parts

pub part_add : (s : List ℕ) (at m n : ℕ) → part s at (m + n) ≡ part s at m ++ part s (at + m) n
part_add s at m n = take-add m n (drop at s) ∙ ap (λ (l : List ℕ). take m (drop at s) ++ take n l) (drop-drop m at s)

pub part_length : (s : List ℕ) (at n : ℕ) → at + n ≤ length s → length (part s at n) ≡ n
part_length s at n h = simp (length-take, length-drop) (omega arith)

pub part_one : (s : List ℕ) (at : ℕ) → at < length s → part s at 1 ≡ get_or s at 0 ∷ []
part_one s at h = rw (drop-cons s at 0)

pub part_none : (s : List ℕ) (at n : ℕ) → length s ≤ at → part s at n ≡ []
part_none s at zero h = refl
part_none s at (suc n) h = rw (drop_of_length-le s h)

-- all that is left, where that is no more than n bytes
pub part_rest : (s : List ℕ) (at n : ℕ) → length s - at ≤ n → take (length s - at) (drop at s) ≡ part s at n
part_rest s at n h =
    let e = length-drop at s in
    take_all (length s - at) (drop at s) (omega (arith, e)) ∙ sym (take_all n (drop at s) (omega (arith, e)))

-- taking from the front, cut before it
pub take_within : (k m n : ℕ) (l : List ℕ) → k + m ≤ n → take m (drop k (take n l)) ≡ take m (drop k l)
take_within zero m n l h = take-take m n l (omega arith)
take_within (suc k) m zero l h = absurd (omega arith)
take_within (suc k) m (suc n) [] h = refl
take_within (suc k) m (suc n) (x ∷ l) h = take_within k m n l (omega arith)

-- a part of a part
pub part_part : (s : List ℕ) (at n k m : ℕ) → k + m ≤ n → part (part s at n) k m ≡ part s (at + k) m
part_part s at n k m h = take_within k m n (drop at s) h ∙ ap (take m) (drop-drop k at s)

-- what is behind the first k bytes of a part
pub part_behind : (s : List ℕ) (at k m : ℕ) → drop k (part s at (k + m)) ≡ part s (at + k) m
part_behind s at k m =
    sym (take_all m (drop k (part s at (k + m))) (omega (arith, length-drop k (part s at (k + m)), length-take (k + m) (drop at s))))
    ∙ part_part s at (k + m) k m (omega arith)

-- ---- little-endian numbers

pub le_append : (xs ys : List ℕ) → le (xs ++ ys) ≡ le xs + 256 ^ length xs * le ys
unfolding le
le_append [] ys = omega (arith, pow-zero 256)
le_append (x ∷ xs) ys =
    let e : 256 ^ suc (length xs) * le ys ≡ 256 * (256 ^ length xs * le ys) =
    ap (λ (n : ℕ). n * le ys) (pow-suc 256 (length xs) ∙ mul_comm (256 ^ length xs) 256) ∙ mul_assoc 256 (256 ^ length xs) (le ys) in
    omega (arith, e, le_append xs ys)

-- a number in m + n bytes, by its first m and the others
pub le_add : (s : List ℕ) (at m n : ℕ) → at + m ≤ length s → le (part s at (m + n)) ≡ le (part s at m) + 256 ^ m * le (part s (at + m) n)
le_add s at m n h =
    ap le (part_add s at m n)
    ∙ le_append (part s at m) (part s (at + m) n)
    ∙ ap (λ (k : ℕ). le (part s at m) + 256 ^ k * le (part s (at + m) n)) (part_length s at m h)

pub le_none : (s : List ℕ) (at n : ℕ) → length s ≤ at → 0 ≡ le (part s at n)
unfolding le
le_none s at n h = rw (part_none s at n h)

-- zeros hold 0
pub le_zeros : (n : ℕ) → le (replicate n 0) ≡ 0
unfolding le
le_zeros zero = refl
le_zeros (suc n) = omega (arith, le_zeros n)

-- the number of the bytes from i on, by the byte at i
le_from : (s : List ℕ) (i : ℕ) → le (drop i s) ≡ get_or s i 0 + 256 * le (drop (suc i) s)
unfolding le
le_from [] zero = refl
le_from [] (suc i) = refl
le_from (x ∷ xs) zero = refl
le_from (x ∷ xs) (suc i) = le_from xs i

-- the bytes up to one, each by what it is worth there
le_through : (s : List ℕ) (k : ℕ) → k < length s → sum_through (λ i. byte_worth i (get_or s i 0)) k ≡ le (part s 0 (suc k))
unfolding le
le_through s zero h = rw (part_one s 0 h) (omega arith)
le_through s (suc k) h =
    let m : suc (suc k) ≡ suc k + 1 = omega arith in
    let o : 0 + suc k ≡ suc k = omega arith in
    let e : part s 0 (suc (suc k)) ≡ part s 0 (suc k) ++ get_or s (suc k) 0 ∷ [] =
    ap (part s 0) m
    ∙ part_add s 0 (suc k) 1
    ∙ ap (λ (i : ℕ). part s 0 (suc k) ++ part s i 1) o
    ∙ ap (λ (l : List ℕ). part s 0 (suc k) ++ l) (part_one s (suc k) h) in
    let n : length (part s 0 (suc k)) ≡ suc k = part_length s 0 (suc k) (omega arith) in
    let last : le (get_or s (suc k) 0 ∷ []) ≡ get_or s (suc k) 0 = omega arith in
    rw (e, le_append (part s 0 (suc k)) (get_or s (suc k) 0 ∷ []), n, last, le_through s k (omega arith), mul_comm (get_or s (suc k) 0) (256 ^ suc k)) refl

-- `from_le_bytes` at a width
pub le_wide : (w : Width) (s : List ℕ) → 0 < byte_len w → length s ≡ byte_len w → from_le_bytes w s ≡ le s
le_wide w s h n =
    let e : suc (byte_len w - 1) ≡ length s = omega arith in
    le_through s (byte_len w - 1) (omega arith) ∙ ap (λ (k : ℕ). le (part s 0 k)) e ∙ ap le (take_all (length s) s (omega arith))

le_below : (s : List ℕ) → ((i : ℕ) → get_or s i 0 < 2 ^ 8) → le s < 256 ^ length s
unfolding le
le_below [] h = omega (arith, pow-zero 256)
le_below (x ∷ xs) h = omega (arith, h 0, le_below xs (λ i. h (suc i)), pow-suc 256 (length xs))

-- from the last byte down, each put below the number so far
pub le_fold : (s : List ℕ) → length s < 8 → ((i : ℕ) → get_or s i 0 < 2 ^ 8) → fold (λ x b. bit_or (x * 2 ^ 8 % 2 ^ 64) b) 0 (reverse s) ≡ le s
unfolding le
le_fold [] n h = refl
le_fold (x ∷ xs) n h =
    let f : ℕ → ℕ → ℕ = λ x b. bit_or (x * 2 ^ 8 % 2 ^ 64) b in
    let k : length xs ≤ 7 = omega arith in
    let l : le xs < 2 ^ 56 = omega (arith, le_below xs (λ i. h (suc i)), pow-le-pow_right {n = 256} (omega arith) k) in
    let m : le xs * 2 ^ 8 % 2 ^ 64 ≡ le xs * 2 ^ 8 = omega arith in
    ap (fold f 0) (reverse-append (x ∷ []) xs)
    ∙ fold-append f 0 (reverse xs) (x ∷ [])
    ∙ ap (λ y. f y x) (le_fold xs (omega arith) (λ i. h (suc i)))
    ∙ ap (λ y. bit_or y x) m
    ∙ or_shifted (le xs) 8 x (h 0)
    ∙ omega arith

-- ---- runs of stores

pub sets_append : (a b l : List ℕ) (i : ℕ) → sets l i (a ++ b) ≡ sets (sets l i a) (i + length a) b
sets_append [] b l i = rw add-zero
sets_append (x ∷ a) b l i = sets_append a b (set l i x) (suc i) ∙ ap (λ (k : ℕ). sets (sets (set l i x) (suc i) a) k b) (simp (suc-add, add-suc))

-- a run of stores from the front, and another right behind it
pub sets_then : (o a b : List ℕ) (j : ℕ) {l₁ l₂ : List ℕ} → l₁ ≡ sets o 0 a → l₂ ≡ sets l₁ j b → j ≡ length a → l₂ ≡ sets o 0 (a ++ b)
sets_then o a b j e f g =
    f
    ∙ ap (λ (k : List ℕ). sets k j b) e
    ∙ ap (λ (n : ℕ). sets (sets o 0 a) n b) (g ∙ sym (zero-add (length a)))
    ∙ sym (sets_append a b o 0)

pub sets_out : (vs l : List ℕ) (i : ℕ) → length l ≤ i → sets l i vs ≡ l
sets_out [] l i h = refl
sets_out (v ∷ vs) l i h = rw (set_out l i v h) (sets_out vs l (suc i) (omega arith))

-- a place that stops at the end or behind it has no room either way
pub sets_capped : (vs l : List ℕ) (i m : ℕ) → length l ≤ m → sets l (min i m) vs ≡ sets l i vs
sets_capped vs l i m h = ⊎_elim
    (λ (g : m < i). sets_out vs l (min i m) (omega arith) ∙ sym (sets_out vs l i (omega arith)))
    (λ (g : i ≤ m). let e : min i m ≡ i = omega arith in ap (λ (k : ℕ). sets l k vs) e)
    (cases_lt m i)

-- a list that is filled from the front with as many as it has, or more
pub sets_fill : (l vs : List ℕ) → length l ≤ length vs → sets l 0 vs ≡ take (length l) vs
sets_fill l vs h =
    let n : length (take (length l) vs) ≡ length l = length-take-le (length l) vs h in
    ap (sets l 0) (sym (take-append-drop (length l) vs))
    ∙ sets_append (take (length l) vs) (drop (length l) vs) l 0
    ∙ sets_out (drop (length l) vs) (sets l 0 (take (length l) vs)) (0 + length (take (length l) vs)) (omega (arith, length-sets l 0 (take (length l) vs)))
    ∙ sets-eq (take (length l) vs) l 0 (omega arith)
    ∙ ap (λ (r : List ℕ). take (length l) vs ++ r) (drop_of_length-le l {i = 0 + length (take (length l) vs)} (omega arith))
    ∙ append-nil (take (length l) vs)

pub le_bytes_length : (n x : ℕ) → length (le_bytes n x) ≡ n
unfolding le_bytes
le_bytes_length zero x = refl
le_bytes_length (suc n) x = ap suc (le_bytes_length n (x / 256))

-- the lowest m + n bytes, by the first m and the others
pub le_bytes_add : (m n x : ℕ) → le_bytes (m + n) x ≡ le_bytes m x ++ le_bytes n (x / 256 ^ m)
unfolding le_bytes
le_bytes_add zero n x = ap₂ (λ (k y : ℕ). le_bytes k y) (zero-add n) (sym (ap (λ (d : ℕ). x / d) (pow-zero 256) ∙ div-one x))
le_bytes_add (suc m) n x =
    let e : x / 256 / 256 ^ m ≡ x / 256 ^ suc m = div-div-eq-div-mul x 256 (256 ^ m) ∙ ap (λ (d : ℕ). x / d) (mul_comm 256 (256 ^ m) ∙ sym (pow-suc 256 m)) in
    ap (λ (k : ℕ). le_bytes k x) (suc-add m n)
    ∙ ap (λ (l : List ℕ). x % 256 ∷ l) (le_bytes_add m n (x / 256) ∙ ap (λ (y : ℕ). le_bytes m (x / 256) ++ le_bytes n y) e)

-- the bytes from one on are those of what is left of the number
low_first : (i k x : ℕ) → bytes_low_first i k x ≡ le_bytes k (x / 256 ^ i)
unfolding le_bytes
low_first i zero x = refl
low_first zero (suc k) x =
    let one : x / 256 ^ 0 ≡ x = omega (arith, pow-zero 256) in
    rw one (ap (λ (l : List ℕ). x % 256 ∷ l) (low_first 1 k x))
low_first (suc i) (suc k) x =
    let next : x / 256 ^ suc i / 256 ≡ x / 256 ^ suc (suc i) = div-div-eq-div-mul x (256 ^ suc i) 256 ∙ ap (λ (n : ℕ). x / n) (sym (pow-suc 256 (suc i))) in
    rw next (ap (λ (l : List ℕ). x / 256 ^ suc i % 256 ∷ l) (low_first (suc (suc i)) k x))

-- `x.to_le_bytes()` at a width, where y is x in other words
pub le_bytes_wide : (w : Width) (x y : ℕ) {l : List ℕ} → l ≡ to_le_bytes w y → y ≡ x → l ≡ le_bytes (byte_len w) x
le_bytes_wide w x y e f =
    let one : x / 256 ^ 0 ≡ x = omega (arith, pow-zero 256) in
    e ∙ ap (to_le_bytes w) f ∙ low_first 0 (byte_len w) x ∙ ap (le_bytes (byte_len w)) one

-- A loop that stores one after the other: what is left to store, from here, gives what the whole gives.
pub put_more : (l src : List ℕ) (at i : ℕ) → i < length src → sets (set l (at + i) (get_or src i 0)) (at + (i + 1)) (drop (i + 1) src) ≡ sets l (at + i) (drop i src)
put_more l src at i h = rw (add-one, add-suc, drop-cons src i 0 h)

pub put_end : (l src : List ℕ) (at i : ℕ) → i ≡ min (length src) (length l - at) → l ≡ sets l (at + i) (drop i src)
put_end l src at i e = ⊎_elim (λ h. sym (sets_out (drop i src) l (at + i) (omega arith))) whole (cases_lt (length l - at) (length src))
  where
    whole : length src ≤ length l - at → l ≡ sets l (at + i) (drop i src)
    whole h =
        let g : length src ≤ i = omega arith in
        rw (drop_of_length-le src g)

-- all of vs, stored at once
pub stored_all : (l vs : List ℕ) (at : ℕ) {ys : List ℕ} {k : ℕ} → ys ≡ vs → k ≡ length vs → at + k ≤ length l → take at l ++ (ys ++ drop k (drop at l)) ≡ sets l at vs
stored_all l vs at {ys} {k} d e h =
    rw (d, drop-drop, e) (sym (append_assoc (take at l) vs (drop (at + length vs) l)) ∙ sym (sets-eq vs l at (omega arith)))

-- as many of src as have room
pub stored : (l src : List ℕ) (at : ℕ) {ys : List ℕ} {a n k : ℕ} → ys ≡ take n src → a ≡ min at (length l) → n ≡ min (length src) (length l - a) → k ≡ n
    → take a l ++ (ys ++ drop k (drop a l)) ≡ sets l at src
stored l src at {ys} {a} {n} {k} d e f g = ⊎_elim within past (cases_lt at (length l))
  where
    past : length l ≤ at → take a l ++ (ys ++ drop k (drop a l)) ≡ sets l at src
    past h =
        let m : n ≡ 0 = omega arith in
        let i : k ≡ 0 = omega arith in
        rw (d, m, i) (take-append-drop a l ∙ sym (sets_out src l at h))

    within : at < length l → take a l ++ (ys ++ drop k (drop a l)) ≡ sets l at src
    within h =
        let i : a ≡ at = omega arith in
        let m : length (take n src) ≡ n = length-take-le n src (omega arith) in
        let w = sets l at (take n src) in
        let o : w ≡ sets w (at + n) (drop n src) = put_end w src at n (omega (arith, length-sets l at (take n src))) in
        rw i (
        stored_all l (take n src) at d (omega arith) (omega arith)
        ∙ o
        ∙ ap (λ j. sets w (at + j) (drop n src)) (sym m)
        ∙ sym (sets_append (take n src) (drop n src) l at)
        ∙ ap (sets l at) (take-append-drop n src)
        )

-- what is left of m at i, one step on
pub one_less : (m i : ℕ) → i < m → m - i ≡ suc (m - (i + 1))
one_less m i h = omega arith

-- ---- numbers one behind the other, each written by f as k bytes

module _ (f : ℕ → List ℕ) (k : ℕ) (sized : (x : ℕ) → length (f x) ≡ k) where
  pub each_length : (l : List ℕ) → length (flat_map f l) ≡ k * length l
  unfolding flat_map
  each_length [] = sym (mul-zero k)
  each_length (x ∷ l) = length-append (f x) (flat_map f l) ∙ rw (sized, each_length l, mul-suc) (omega arith)

  -- a turn: one is written at the place that those that are left come to, and what is left to write gives what it gave
  pub left_more : (l ns : List ℕ) (i place next : ℕ) → i < length ns → next ≡ place + k
      → sets (sets l place (f (get_or ns i 0))) next (flat_map f (drop (i + 1) ns)) ≡ sets l place (flat_map f (drop i ns))
  unfolding flat_map
  left_more l ns i place next h n =
      let e : next ≡ place + length (f (get_or ns i 0)) = omega (arith, sized (get_or ns i 0)) in
      rw (drop-cons ns i 0 h, e, add-one) (sym (sets_append (f (get_or ns i 0)) (flat_map f (drop (suc i) ns)) l place))

  -- the last turn is done
  pub left_end : (l ns : List ℕ) (i place : ℕ) → length ns ≤ i → sets l place (flat_map f (drop i ns)) ≡ l
  unfolding flat_map
  left_end l ns i place h = rw (drop_of_length-le ns h)

  -- all are written where they fill the list
  pub each_fill : (l ns : List ℕ) → length l ≡ k * length ns → sets l 0 (flat_map f ns) ≡ flat_map f ns
  each_fill l ns h =
      let n : length l ≡ length (flat_map f ns) = h ∙ sym (each_length ns) in
      sets_fill l (flat_map f ns) (omega arith) ∙ take_all (length l) (flat_map f ns) (omega arith)

-- ---- numbers, eight bytes each

-- one alone
pub numbers_one : (x : ℕ) → numbers (x ∷ []) ≡ le_bytes 8 x
unfolding flat_map
numbers_one x = append-nil (le_bytes 8 x)

-- one more is written, where it has room: what is left to write gives what it gave
pub numbers_next : (l w ns : List ℕ) (at i place : ℕ) → length l < 2 ^ 64 → i < length ns → place ≡ min (at + 8 * i) (2 ^ 64 - 1) → w ≡ sets l place (le_bytes 8 (get_or ns i 0))
    → sets w (at + 8 * (i + 1)) (numbers (drop (i + 1) ns)) ≡ sets l (at + 8 * i) (numbers (drop i ns))
numbers_next l w ns at i place h g e f =
    let x = le_bytes 8 (get_or ns i 0) in
    ap (λ (o : List ℕ). sets o (at + 8 * (i + 1)) (numbers (drop (i + 1) ns))) (f ∙ ap (λ (j : ℕ). sets l j x) e ∙ sets_capped x l (at + 8 * i) (2 ^ 64 - 1) (omega arith))
    ∙ left_more (le_bytes 8) 8 (le_bytes_length 8) l ns i (at + 8 * i) (at + 8 * (i + 1)) g (omega arith)

-- all are
pub numbers_last : (l ns : List ℕ) (at i : ℕ) → length ns ≤ i → sets l (at + 8 * i) (numbers (drop i ns)) ≡ l
numbers_last l ns at i h = left_end (le_bytes 8) 8 (le_bytes_length 8) l ns i (at + 8 * i) h
