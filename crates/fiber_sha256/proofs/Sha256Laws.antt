-- What the proofs of `sha256` cite: rotations joined, sums that wrap, a turn of each loop, a block read in the message or in its padded end, and bytes written.
-- Assumes nothing.
use Rattle.std.proofs.Common.{◌≡◌, ℕ, zero, suc, ◌+◌, ◌-◌, ◌*◌, ◌/◌, ◌%◌, ◌^◌, ◌<◌, ◌≤◌, List, [], ◌∷◌, ◌++◌, length, get_or, take, drop, set, replicate, sym, refl, ap, ◌∙◌, ap₂, append_assoc, append-nil, suc-add, zero-add, add-one, arith, length-append, length-drop, take_all, drop-cons, get_or-set_other, drop-drop}
use mathlib.Core.List.{flat_map}
use lib.ListN.{length-replicate, replicate-append-replicate}
use lib.Seq.{sets, drop-append-le, take-append-le, append_snoc, set_at}
use Rattle.fiber_bytes.specs.Bytes.{part, be, be_bytes}
use Rattle.std.specs.Int.{w32, w64, to_be_bytes}
use native.Mathlib.Nat.{div-div-eq-div-mul}
use Rattle.std.proofs.Common.{subst, min}
use lib.Bits.{bit_or, bit_xor}
use Rattle.fiber_bytes.specs.Words.{rotated}
use Rattle.fiber_bytes.proofs.WordsLaws.{rotated_right}
use Rattle.fiber_bytes.proofs.ArraysLaws.{written}
use Rattle.fiber_bytes.proofs.BytesLaws.{take_within}
use Rattle.fiber_sha256.specs.Sha256.{constants, ch, maj, sum0, sum1, sig0, sig1, padded, loaded, extended, t1, t2, turned, turns, folded, compressed, absorbed, sha256}

-- what `x.rotate_right(k)` gives
abbrev pub right : ℕ → ℕ → ℕ
right k x = bit_or (x / 2 ^ (k % 32)) (x * 2 ^ ((32 - k % 32) % 32) % 2 ^ 32)

-- two rotations of a word, joined, with anything beside them; and three
pub rotated_two : (x a b y r s : ℕ) → x < 2 ^ 32 → 0 < a → a < 32 → 0 < b → b < 32 → r ≡ right a x → s ≡ right b x
    → bit_xor (bit_xor r s) y ≡ bit_xor (bit_xor (rotated 32 a x) (rotated 32 b x)) y
rotated_two x a b y r s l za la zb lb e f =
    ap (λ (z : ℕ). bit_xor z y) (ap₂ bit_xor (e ∙ rotated_right 32 x a l za la) (f ∙ rotated_right 32 x b l zb lb))

pub rotated_three : (x a b c r s t : ℕ) → x < 2 ^ 32 → 0 < a → a < 32 → 0 < b → b < 32 → 0 < c → c < 32
    → r ≡ right a x → s ≡ right b x → t ≡ right c x
    → bit_xor (bit_xor r s) t ≡ bit_xor (bit_xor (rotated 32 a x) (rotated 32 b x)) (rotated 32 c x)
rotated_three x a b c r s t l za la zb lb zc lc e f g =
    rotated_two x a b t r s l za la zb lb e f ∙ ap (bit_xor (bit_xor (rotated 32 a x) (rotated 32 b x))) (g ∙ rotated_right 32 x c l zc lc)

pub t1_by : (v : List ℕ) (k w b c r : ℕ) → b ≡ sum1 (get_or v 4 0) → c ≡ ch (get_or v 4 0) (get_or v 5 0) (get_or v 6 0)
    → r ≡ ((((get_or v 7 0 + b) % 2 ^ 32 + c) % 2 ^ 32 + k) % 2 ^ 32 + w) % 2 ^ 32 → r ≡ t1 v k w
unfolding t1
t1_by v k w b c r e f h =
    let d : r ≡ (get_or v 7 0 + b + c + k + w) % 2 ^ 32 = omega (arith, h) in
    rw (e, f) at d

pub t2_by : (v : List ℕ) (a b r : ℕ) → a ≡ sum0 (get_or v 0 0) → b ≡ maj (get_or v 0 0) (get_or v 1 0) (get_or v 2 0) → r ≡ (a + b) % 2 ^ 32 → r ≡ t2 v
unfolding t2
t2_by v a b r e f g = cc

pub turned_by : (k w v : List ℕ) (i a b x y : ℕ) → k ≡ constants → a ≡ t1 v (get_or k i 0) (get_or w i 0) → b ≡ t2 v → x ≡ (a + b) % 2 ^ 32 → y ≡ (get_or v 3 0 + a) % 2 ^ 32
    → x ∷ get_or v 0 0 ∷ get_or v 1 0 ∷ get_or v 2 0 ∷ y ∷ get_or v 4 0 ∷ get_or v 5 0 ∷ get_or v 6 0 ∷ [] ≡ turned v (get_or constants i 0) (get_or w i 0)
unfolding turned
turned_by k w v i a b x y d e f g h = cc

pub turns_more : (v₀ w v u : List ℕ) (i : ℕ) → u ≡ turned v (get_or constants i 0) (get_or w i 0) → v ≡ turns i v₀ w → u ≡ turns (i + 1) v₀ w
unfolding turns
turns_more v₀ w v u i e f = rw add-one (cc)

-- the schedule's words below i + 16 stay as they are when more are made
kept : (w : List ℕ) (i j m : ℕ) → j < i + 16 → get_or (extended (m + i) w) j 0 ≡ get_or (extended i w) j 0
unfolding extended
kept w i j zero h = rw zero-add
kept w i j (suc m) h =
    rw suc-add
    (get_or-set_other (extended (m + i) w) (m + i + 16) j _ 0 (λ e. omega arith) ∙ kept w i j m h)

-- a turn with a word of the schedule beside it
pub step_by : (v₀ w₀ v w w' u : List ℕ) (i a b r : ℕ) → i < 48 → a ≡ sig1 (get_or w (i + 14) 0) → b ≡ sig0 (get_or w (i + 1) 0)
    → r ≡ (((a + get_or w (i + 9) 0) % 2 ^ 32 + b) % 2 ^ 32 + get_or w i 0) % 2 ^ 32
    → w' ≡ set w (i + 16) r → u ≡ turned v (get_or constants i 0) (get_or w' i 0) → (w ≡ extended (min i 48) w₀) × (v ≡ turns i v₀ (extended 48 w₀))
    → (w' ≡ extended (min (i + 1) 48) w₀) × (u ≡ turns (i + 1) v₀ (extended 48 w₀))
unfolding extended
step_by v₀ w₀ v w w' u i a b r l e f g s t h =
    let n : 48 - (i + 1) + (i + 1) ≡ 48 = omega arith in
    let m : min i 48 ≡ i = omega arith in
    let o : min (i + 1) 48 ≡ suc i = omega arith in
    let p : w ≡ extended i w₀ = h.0 ∙ ap (λ (j : ℕ). extended j w₀) m in
    let q : r ≡ (a + get_or w (i + 9) 0 + b + get_or w i 0) % 2 ^ 32 = omega (arith, g) in
    let x : w' ≡ extended (suc i) w₀ = cc in
    let d : get_or (extended (48 - (i + 1) + (i + 1)) w₀) i 0 ≡ get_or (extended (i + 1) w₀) i 0 = kept w₀ (i + 1) i (48 - (i + 1)) (omega arith) in
    let k : get_or w' i 0 ≡ get_or (extended 48 w₀) i 0 = cc (add-one i) in
    (x ∙ ap (λ (j : ℕ). extended j w₀) (sym o), turns_more v₀ (extended 48 w₀) v u i (t ∙ ap (turned v (get_or constants i 0)) k) h.1)

-- a turn alone: all words are made
pub turn_by : (v₀ w₀ v w w' u : List ℕ) (i : ℕ) → 48 ≤ i → w' ≡ w → u ≡ turned v (get_or constants i 0) (get_or w' i 0) → (w ≡ extended (min i 48) w₀) × (v ≡ turns i v₀ (extended 48 w₀))
    → (w' ≡ extended (min (i + 1) 48) w₀) × (u ≡ turns (i + 1) v₀ (extended 48 w₀))
turn_by v₀ w₀ v w w' u i l s t h =
    let m : min i 48 ≡ 48 = omega arith in
    let o : min (i + 1) 48 ≡ 48 = omega arith in
    let p : w' ≡ extended 48 w₀ = s ∙ h.0 ∙ ap (λ (j : ℕ). extended j w₀) m in (
      p ∙ ap (λ (j : ℕ). extended j w₀) (sym o),
      turns_more v₀ (extended 48 w₀) v u i (t ∙ ap (λ (y : List ℕ). turned v (get_or constants i 0) (get_or y i 0)) p) h.1,
    )

-- eight steps of whatever a step keeps
pub eight_by : (P : ℕ → List ℕ → List ℕ → Type 0) (i : ℕ) {v₀ v₁ v₂ v₃ v₄ v₅ v₆ v₇ v₈ w₀ w₁ w₂ w₃ w₄ w₅ w₆ w₇ w₈ : List ℕ}
    → (P i v₀ w₀ → P (i + 1) v₁ w₁) → (P (i + 1) v₁ w₁ → P (i + 1 + 1) v₂ w₂) → (P (i + 2) v₂ w₂ → P (i + 2 + 1) v₃ w₃) → (P (i + 3) v₃ w₃ → P (i + 3 + 1) v₄ w₄)
    → (P (i + 4) v₄ w₄ → P (i + 4 + 1) v₅ w₅) → (P (i + 5) v₅ w₅ → P (i + 5 + 1) v₆ w₆) → (P (i + 6) v₆ w₆ → P (i + 6 + 1) v₇ w₇) → (P (i + 7) v₇ w₇ → P (i + 7 + 1) v₈ w₈)
    → P i v₀ w₀ → P (i + 8) v₈ w₈
eight_by P i s₁ s₂ s₃ s₄ s₅ s₆ s₇ s₈ p =
    next 7 (s₈ (next 6 (s₇ (next 5 (s₆ (next 4 (s₅ (next 3 (s₄ (next 2 (s₃ (next 1 (s₂ (s₁ p))))))))))))))
  where
    next : (k : ℕ) {v w : List ℕ} → P (i + k + 1) v w → P (i + (k + 1)) v w
    next k {v} {w} p =
        let e : i + k + 1 ≡ i + (k + 1) = omega arith in
        subst (λ (n : ℕ). P n v w) e p

pub folded_by : (r h v : List ℕ) → length r ≡ 8 → length h ≡ 8 → ((i : ℕ) → i < 8 → get_or r i 0 ≡ (get_or h i 0 + get_or v i 0) % 2 ^ 32) → r ≡ folded 8 h v
unfolding folded
folded_by r h v n m e =
    written r h (λ i x. (x + get_or v i 0) % 2 ^ 32) (λ i. folded i h v) refl (λ i. refl) (n ∙ sym m) (λ i l. e i (omega arith))
    ∙ ap (λ (k : ℕ). folded k h v) n

pub loaded_more : (p w : List ℕ) (at i r : ℕ) → w ≡ loaded i p at → r ≡ be (part p (at + 4 * i) 4) → set w i r ≡ loaded (i + 1) p at
unfolding loaded
loaded_more p w at i r e f = rw add-one (cc)

part_cons : (s : List ℕ) (at n m : ℕ) → at < length s → at + 1 ≡ m → part s at (suc n) ≡ get_or s at 0 ∷ part s m n
part_cons s at n m h e = ap (take (suc n)) (drop-cons s at 0 h) ∙ ap (λ (k : ℕ). get_or s at 0 ∷ part s k n) (sym (add-one at) ∙ e)

pub word_by : (s : List ℕ) (at : ℕ) → at + 4 ≤ length s
    → get_or s at 0 * 256 ^ 3 + get_or s (at + 1) 0 * 256 ^ 2 + get_or s (at + 2) 0 * 256 + get_or s (at + 3) 0 ≡ be (part s at 4)
unfolding be
word_by s at l =
    let e : part s at 4 ≡ get_or s at 0 ∷ get_or s (at + 1) 0 ∷ get_or s (at + 2) 0 ∷ get_or s (at + 3) 0 ∷ [] =
    cc (part_cons s at 3 (at + 1) (omega arith) refl, part_cons s (at + 1) 2 (at + 2) (omega arith) (omega arith), part_cons s (at + 2) 1 (at + 3) (omega arith) (omega arith), part_cons s (at + 3) 0 (at + 4) (omega arith) (omega arith)) in
    rw e (omega arith)

pub compressed_by : (h k p w v : List ℕ) (at : ℕ) → w ≡ loaded 16 p at → v ≡ turns 64 h (extended 48 w) → k ≡ folded 8 h v → k ≡ compressed h p at
unfolding compressed
compressed_by h k p w v at e f g = cc

-- what a block is made of is all that counts
block : (n : ℕ) (s t : List ℕ) (a b : ℕ) → part s a 64 ≡ part t b 64 → n ≤ 16 → loaded n s a ≡ loaded n t b
unfolding loaded
block zero s t a b e l = refl
block (suc n) s t a b e l =
    ap₂ (λ (w : List ℕ) (x : ℕ). set w n x) (block n s t a b e (omega arith))
    (ap be (word s a ∙ ap (λ (q : List ℕ). take 4 (drop (4 * n) q)) e ∙ sym (word t b)))
  where
    word : (s : List ℕ) (a : ℕ) → part s (a + 4 * n) 4 ≡ part (part s a 64) (4 * n) 4
    word s a = ap (take 4) (sym (drop-drop (4 * n) a s)) ∙ sym (take_within (4 * n) 4 64 (drop a s) (omega arith))

compressed_part : (h s t : List ℕ) (a b : ℕ) → part s a 64 ≡ part t b 64 → compressed h s a ≡ compressed h t b
unfolding compressed
compressed_part h s t a b e = ap (λ (w : List ℕ). folded 8 h (turns 64 h (extended 48 w))) (block 16 s t a b e (omega arith))

front : (s r : List ℕ) (a : ℕ) → a + 64 ≤ length s → part s a 64 ≡ part (s ++ r) a 64
front s r a h =
    let l : a ≤ length s = omega arith in
    let m : 64 ≤ length (drop a s) = rw length-drop (omega arith) in
    sym (ap (take 64) (drop-append-le a s r l) ∙ take-append-le 64 (drop a s) r m)

-- a block of the message is one of the padded message
pub absorbed_more : (s h k : List ℕ) (i : ℕ) → i * 64 + 64 ≤ length s → h ≡ absorbed i (padded s) → k ≡ compressed h s (i * 64) → k ≡ absorbed (i + 1) (padded s)
unfolding absorbed padded
absorbed_more s h k i l e f =
    let d : compressed h s (i * 64) ≡ compressed h (padded s) (i * 64) = compressed_part h s (padded s) (i * 64) (i * 64) (front s _ (i * 64) l) in
    rw add-one (cc)

-- and so is a block of its end, with anything after it
ended_more : (p z t h k : List ℕ) (q m a : ℕ) → q + a ≡ m * 64 → m * 64 + 64 ≤ length p → t ≡ drop q p ++ z → h ≡ absorbed m p → k ≡ compressed h t a → k ≡ absorbed (m + 1) p
unfolding absorbed
ended_more p z t h k q m a n l g e f =
    let o : a + 64 ≤ length (drop q p) = rw length-drop (omega arith) in
    let b : part (drop q p ++ z) a 64 ≡ part p (m * 64) 64 = sym (front (drop q p) z a o) ∙ ap (take 64) (drop-drop a q p) ∙ ap (λ (y : ℕ). part p y 64) n in
    let d : compressed h (drop q p ++ z) a ≡ compressed h p (m * 64) = compressed_part h (drop q p ++ z) p a (m * 64) b in
    rw add-one (cc)

padded_length : (s : List ℕ) → length (padded s) ≡ length s + 9 + (119 - length s % 64) % 64
unfolding padded be_bytes
padded_length s = simp (length-append, length-replicate) (omega arith)

module _ (s z t h k : List ℕ) (et : t ≡ drop (length s / 64 * 64) (padded s) ++ z) (eh : h ≡ absorbed (length s / 64) (padded s)) (ek : k ≡ compressed h t 0) where
  once : k ≡ absorbed (length s / 64 + 1) (padded s)
  once = ended_more (padded s) z t h k (length s / 64 * 64) (length s / 64) 0 (omega arith) (omega (arith, padded_length s)) et eh ek

  -- a message whose end is one block
  pub hash_one : (r : List ℕ) → length s % 64 < 56 → r ≡ flat_map (be_bytes 4) k → r ≡ sha256 s
  unfolding sha256
  hash_one r l e =
      let n : length s / 64 + 1 ≡ (length s + 8) / 64 + 1 = omega arith in
      cc once

  -- or two
  pub hash_two : (g r : List ℕ) → 56 ≤ length s % 64 → g ≡ compressed k t 64 → r ≡ flat_map (be_bytes 4) g → r ≡ sha256 s
  unfolding sha256
  hash_two g r l eg e =
      let n : length s / 64 + 1 + 1 ≡ (length s + 8) / 64 + 1 = omega arith in
      let f : g ≡ absorbed (length s / 64 + 1 + 1) (padded s) = ended_more (padded s) z t k g (length s / 64 * 64) (length s / 64 + 1) 64 (omega arith) (omega (arith, padded_length s)) et once eg in
      cc

-- `x.to_be_bytes()`
pub be_bytes_four : (x : ℕ) → to_be_bytes w32 x ≡ be_bytes 4 x
unfolding be_bytes
be_bytes_four x = simp div-div-eq-div-mul

pub be_bytes_eight : (x : ℕ) → to_be_bytes w64 x ≡ be_bytes 8 x
unfolding be_bytes
be_bytes_eight x = simp div-div-eq-div-mul

-- bytes written where zeros stand
filled : (vs p : List ℕ) (n k : ℕ) → length p ≡ n → sets (p ++ replicate (length vs + k) 0) n vs ≡ (p ++ vs) ++ replicate k 0
filled [] p n k e = rw (zero-add, append-nil)
filled (a ∷ vs) p n k e =
    rw suc-add
    (ap (λ (l : List ℕ). sets l (suc n) vs) (set_at p 0 (replicate (length vs + k) 0) a n e ∙ sym (append_snoc p a (replicate (length vs + k) 0)))
    ∙ filled vs (p ++ (a ∷ [])) (suc n) k (rw length-append (omega arith))
    ∙ ap (λ (l : List ℕ). l ++ replicate k 0) (append_snoc p a vs))

-- the same, by how many zeros stand there before and after
filled_to : (vs p : List ℕ) (n j k : ℕ) → length p ≡ n → j ≡ length vs + k → sets (p ++ replicate j 0) n vs ≡ (p ++ vs) ++ replicate k 0
filled_to vs p n j k e f = rw f (filled vs p n k e)

-- bytes copied to the front of 128 zeros
pub rest_copied : (s t : List ℕ) (at : ℕ) → at ≤ length s → length s < at + 64 → t ≡ sets (replicate 128 0) 0 (take (length s - at) (drop at s))
    → t ≡ drop at s ++ replicate (128 - (length s - at)) 0
rest_copied s t at h g e =
    let n = length-drop at s in
    e
    ∙ ap (sets (replicate 128 0) 0) (take_all (length s - at) (drop at s) (omega (arith, n)))
    ∙ filled_to (drop at s) [] 0 128 (128 - (length s - at)) refl (omega (arith, n))

pub word_length : (x : ℕ) → length (be_bytes 4 x) ≡ 4
unfolding be_bytes
word_length x = refl

-- bytes d, a one bit, z zeros, eight bytes and k zeros, written one after the other
ended : (d b t u v : List ℕ) (n z k e : ℕ) → length d ≡ n → length b ≡ 8 → e ≡ n + 1 + z
    → t ≡ d ++ replicate (9 + z + k) 0 → u ≡ set t n 128 → v ≡ sets u e b → v ≡ d ++ (128 ∷ (replicate z 0 ++ b)) ++ replicate k 0
ended d b t u v n z k e ld lb le et eu ev =
    let f : u ≡ d ++ (128 ∷ []) ++ replicate (z + (8 + k)) 0 =
    eu ∙ ap (λ (l : List ℕ). set l n 128) et ∙ filled_to (128 ∷ []) d n (9 + z + k) (z + (8 + k)) ld (omega arith) in
    let g : u ≡ d ++ (128 ∷ []) ++ replicate z 0 ++ replicate (8 + k) 0 =
    f ∙ ap (λ (l : List ℕ). d ++ (128 ∷ []) ++ l) (sym (replicate-append-replicate z (8 + k) 0)) ∙ sym (append_assoc (d ++ (128 ∷ [])) (replicate z 0) (replicate (8 + k) 0)) in
    let m : length (d ++ (128 ∷ []) ++ replicate z 0) ≡ e = simp (length-append, length-replicate) (omega arith) in
    let r : d ++ (128 ∷ []) ++ replicate z 0 ++ b ≡ d ++ (128 ∷ (replicate z 0 ++ b)) = simp append_assoc in
    ev ∙ ap (λ (l : List ℕ). sets l e b) g ∙ filled_to b (d ++ (128 ∷ []) ++ replicate z 0) e (8 + k) k m (omega arith) ∙ ap (λ (l : List ℕ). l ++ replicate k 0) r

pub tail_by : (s t u v : List ℕ) (q n e m : ℕ) → q ≡ length s / 64 * 64 → n ≡ length s % 64 → e ≡ (n + 8) / 64 * 64 + 56 → m ≡ length s * 8 % 2 ^ 64
    → t ≡ drop q s ++ replicate (128 - (length s - q)) 0 → u ≡ set t n 128 → v ≡ sets u e (to_be_bytes w64 m)
    → v ≡ drop q (padded s) ++ replicate ((119 - length s % 64) / 64 * 64) 0
unfolding padded
tail_by s t u v q n e m lq ln le lm et eu ev =
    let z = (119 - length s % 64) % 64 in
    let k = (119 - length s % 64) / 64 * 64 in
    let b : to_be_bytes w64 m ≡ be_bytes 8 (8 * length s % 2 ^ 64) = be_bytes_eight m ∙ ap (be_bytes 8) (omega arith) in
    let o : length (drop q s) ≡ n = rw length-drop (omega arith) in
    let r : 128 - (length s - q) ≡ 9 + z + k = omega arith in
    let a : v ≡ drop q s ++ (128 ∷ (replicate z 0 ++ to_be_bytes w64 m)) ++ replicate k 0 =
    ended (drop q s) (to_be_bytes w64 m) t u v n z k e o refl (omega arith) (et ∙ ap (λ (c : ℕ). drop q s ++ replicate c 0) r) eu ev in
    a ∙ ap (λ (c : List ℕ). c ++ replicate k 0) (ap (λ (c : List ℕ). drop q s ++ (128 ∷ (replicate z 0 ++ c))) b ∙ sym (drop-append-le q s _ (omega arith)))
