-- What the proofs of `blake2b` cite: straight-line code by what each call left, and a turn of each loop.
-- Assumes nothing.
use Rattle.std.proofs.Common.{◌≡◌, ℕ, zero, suc, ◌+◌, ◌-◌, ◌*◌, ◌/◌, ◌%◌, ◌^◌, ◌<◌, ◌≤◌, List, [], ◌∷◌, ◌++◌, length, get_or, take, set, sym, refl, ap, ◌∙◌, ap₂, add-one, arith, length-set, length-take, take_all}
use mathlib.Core.Bool.{Bool}
use lib.Dec.{ltb}
use Rattle.std.specs.List.{All, AllPass, list_all}
use Rattle.std.proofs.lemmas.Bool.{ltb-true}
use Rattle.std.proofs.lemmas.List.Sums.{AllPass-from_list_all}
use lib.Seq.{sets, take-suc}
use lib.Bits.{bit_xor}
use Rattle.fiber_bytes.specs.Bytes.{part, le, le_bytes, numbers}
use Rattle.fiber_bytes.specs.Words.{rotated}
use Rattle.fiber_blake2b.specs.Blake2b.{iv, sigma, added, turned, half, mixed, columns, diagonals, picked, round, rounds, start, folded, words, compressed, absorbed, hashed, params, initial, chain, blake2b, ckb_personal, ckb_hash}
use Rattle.fiber_bytes.proofs.ArraysLaws.{written}
use Rattle.fiber_bytes.proofs.BytesLaws.{le_bytes_length, each_length, sets_fill}

-- G
pub added_by : (v : List ℕ) (a b x p q : ℕ) → p ≡ (get_or v a 0 + get_or v b 0) % 2 ^ 64 → q ≡ (p + x) % 2 ^ 64 → set v a q ≡ added v a b x
unfolding added
added_by v a b x p q e f =
    let g : q ≡ (get_or v a 0 + get_or v b 0 + x) % 2 ^ 64 = omega arith in
    ap (λ (n : ℕ). set v a n) g

pub turned_by : (v : List ℕ) (d a k r : ℕ) → r ≡ rotated 64 k (bit_xor (get_or v d 0) (get_or v a 0)) → set v d r ≡ turned v d a k
unfolding turned
turned_by v d a k r e = ap (λ (n : ℕ). set v d n) e

pub half_by : (v v₁ v₂ v₃ v₄ : List ℕ) (a b c d x j k : ℕ) → v₁ ≡ added v a b x → v₂ ≡ turned v₁ d a j → v₃ ≡ added v₂ c d 0 → v₄ ≡ turned v₃ b c k → v₄ ≡ half v a b c d x j k
unfolding half
half_by v v₁ v₂ v₃ v₄ a b c d x j k e f g h = cc

pub mixed_by : (v u w : List ℕ) (a b c d x y : ℕ) → u ≡ half v a b c d x 32 24 → w ≡ half u a b c d y 16 63 → w ≡ mixed v a b c d x y
unfolding mixed
mixed_by v u w a b c d x y e f = cc

-- a round: its eight steps, in order
pub round_by : (v v₁ v₂ v₃ v₄ v₅ v₆ v₇ v₈ m s : List ℕ)
    → v₁ ≡ mixed v 0 4 8 12 (picked m s 0) (picked m s 1) → v₂ ≡ mixed v₁ 1 5 9 13 (picked m s 2) (picked m s 3)
    → v₃ ≡ mixed v₂ 2 6 10 14 (picked m s 4) (picked m s 5) → v₄ ≡ mixed v₃ 3 7 11 15 (picked m s 6) (picked m s 7)
    → v₅ ≡ mixed v₄ 0 5 10 15 (picked m s 8) (picked m s 9) → v₆ ≡ mixed v₅ 1 6 11 12 (picked m s 10) (picked m s 11)
    → v₇ ≡ mixed v₆ 2 7 8 13 (picked m s 12) (picked m s 13) → v₈ ≡ mixed v₇ 3 4 9 14 (picked m s 14) (picked m s 15)
    → v₈ ≡ round v m s
unfolding round columns diagonals
round_by v v₁ v₂ v₃ v₄ v₅ v₆ v₇ v₈ m s e₁ e₂ e₃ e₄ e₅ e₆ e₇ e₈ = cc

-- each row of the schedule names words of a block
pub places : (r : ℕ) → r < 10 → All (λ i. i < 16) (get_or sigma r [])
unfolding sigma
places r h k d l =
    let below : List ℕ → Bool = list_all (λ i. ltb i 16) in
    let rows : AllPass below sigma = AllPass-from_list_all below sigma refl in
    ltb-true _ _ (AllPass-from_list_all (λ i. ltb i 16) (get_or sigma r []) (rows r [] h) k d l)

pub rounds_by : (m v v₁ v₂ v₃ v₄ v₅ v₆ v₇ v₈ v₉ v₁₀ v₁₁ v₁₂ : List ℕ)
    → v₁ ≡ round v m (get_or sigma 0 []) → v₂ ≡ round v₁ m (get_or sigma 1 []) → v₃ ≡ round v₂ m (get_or sigma 2 [])
    → v₄ ≡ round v₃ m (get_or sigma 3 []) → v₅ ≡ round v₄ m (get_or sigma 4 []) → v₆ ≡ round v₅ m (get_or sigma 5 [])
    → v₇ ≡ round v₆ m (get_or sigma 6 []) → v₈ ≡ round v₇ m (get_or sigma 7 []) → v₉ ≡ round v₈ m (get_or sigma 8 [])
    → v₁₀ ≡ round v₉ m (get_or sigma 9 []) → v₁₁ ≡ round v₁₀ m (get_or sigma 0 []) → v₁₂ ≡ round v₁₁ m (get_or sigma 1 [])
    → v₁₂ ≡ rounds 12 v m
unfolding rounds
rounds_by m v v₁ v₂ v₃ v₄ v₅ v₆ v₇ v₈ v₉ v₁₀ v₁₁ v₁₂ e₁ e₂ e₃ e₄ e₅ e₆ e₇ e₈ e₉ e₁₀ e₁₁ e₁₂ = cc

-- a block
pub start_by : (h : List ℕ) (t f : ℕ) → t < 2 ^ 64
    → get_or h 0 0 ∷ get_or h 1 0 ∷ get_or h 2 0 ∷ get_or h 3 0 ∷ get_or h 4 0 ∷ get_or h 5 0 ∷ get_or h 6 0 ∷ get_or h 7 0
    ∷ 0x6a09_e667_f3bc_c908 ∷ 0xbb67_ae85_84ca_a73b ∷ 0x3c6e_f372_fe94_f82b ∷ 0xa54f_f53a_5f1d_36f1
    ∷ bit_xor t 0x510e_527f_ade6_82d1 ∷ 0x9b05_688c_2b3e_6c1f ∷ bit_xor f 0x1f83_d9ab_fb41_bd6b ∷ 0x5be0_cd19_137e_2179 ∷ []
    ≡ start h t f
unfolding start iv
start_by h t f l =
    let d : t % 2 ^ 64 ≡ t = omega arith in
    let e : t / 2 ^ 64 ≡ 0 = omega arith in
    rw (d, e)

pub folded_by : (r h v : List ℕ) → length r ≡ 8 → length h ≡ 8 → ((i : ℕ) → i < 8 → get_or r i 0 ≡ bit_xor (bit_xor (get_or h i 0) (get_or v i 0)) (get_or v (i + 8) 0)) → r ≡ folded 8 h v
unfolding folded
folded_by r h v n m e =
    written r h (λ i x. bit_xor (bit_xor x (get_or v i 0)) (get_or v (i + 8) 0)) (λ i. folded i h v) refl (λ i. refl) (n ∙ sym m) (λ i l. e i (omega arith))
    ∙ ap (λ (k : ℕ). folded k h v) n

words_from : (m s : List ℕ) (at n : ℕ) → n ≤ length m → ((i : ℕ) → i < length m → get_or m i 0 ≡ le (part s (at + 8 * i) 8)) → take n m ≡ words n s at
unfolding words
words_from m s at zero h e = refl
words_from m s at (suc n) h e =
    take-suc m n 0 (omega arith)
    ∙ ap₂ (λ (l : List ℕ) (x : ℕ). l ++ (x ∷ [])) (words_from m s at n (omega arith) e) (e n (omega arith))

pub words_by : (m s : List ℕ) (at : ℕ) → length m ≡ 16 → ((i : ℕ) → i < 16 → get_or m i 0 ≡ le (part s (at + 8 * i) 8)) → m ≡ words 16 s at
words_by m s at n e = sym (take_all 16 m (omega arith)) ∙ words_from m s at 16 (omega arith) (λ i h. e i (omega arith))

pub compressed_by : (h h₁ s m v w : List ℕ) (at t f : ℕ) → m ≡ words 16 s at → v ≡ start h t f → w ≡ rounds 12 v m → h₁ ≡ folded 8 h w → h₁ ≡ compressed h (words 16 s at) t f
unfolding compressed
compressed_by h h₁ s m v w at t f d e g k = cc

-- a message
pub absorbed_more : (h₀ s h k : List ℕ) (i : ℕ) → h ≡ absorbed i h₀ s → k ≡ compressed h (words 16 s (i * 128)) (i * 128 + 128) 0 → k ≡ absorbed (i + 1) h₀ s
unfolding absorbed
absorbed_more h₀ s h k i e f = rw add-one (cc)

pub hashed_by : (h₀ s h k : List ℕ) (n i : ℕ) → n ≡ (length s - 1) / 128 → i ≤ n → n ≤ i → h ≡ absorbed i h₀ s → k ≡ compressed h (words 16 s (n * 128)) (length s) 0xffff_ffff_ffff_ffff → k ≡ hashed h₀ s
unfolding hashed
hashed_by h₀ s h k n i e l g p q =
    let d : i ≡ (length s - 1) / 128 = omega arith in
    q ∙ ap₂ (λ (a : List ℕ) (b : ℕ). compressed a (words 16 s (b * 128)) (length s) 0xffff_ffff_ffff_ffff) (p ∙ ap (λ (b : ℕ). absorbed b h₀ s) d) e

-- the parameter block's words: 1 to 5 are 0, and the last two are the personalisation's
pub initial_by : (p : List ℕ) (d e x y : ℕ) → e ≡ d → x ≡ le (part p 0 8) → y ≡ le (part p 8 8)
    → bit_xor 0x6a09_e667_f3bc_c908 (e + 0x101_0000) ∷ 0xbb67_ae85_84ca_a73b ∷ 0x3c6e_f372_fe94_f82b ∷ 0xa54f_f53a_5f1d_36f1
    ∷ 0x510e_527f_ade6_82d1 ∷ 0x9b05_688c_2b3e_6c1f ∷ bit_xor 0x1f83_d9ab_fb41_bd6b x ∷ bit_xor 0x5be0_cd19_137e_2179 y ∷ []
    ≡ initial 8 (params d p)
unfolding initial params iv le
initial_by p d e x y g h i = rw (g, h, i)

-- every step keeps eight words
folded_length : (n : ℕ) (h v : List ℕ) → length (folded n h v) ≡ length h
unfolding folded
folded_length zero h v = refl
folded_length (suc n) h v = length-set (folded n h v) n _ ∙ folded_length n h v

compressed_length : (h m : List ℕ) (t f : ℕ) → length (compressed h m t f) ≡ length h
unfolding compressed
compressed_length h m t f = folded_length 8 h _

absorbed_length : (n : ℕ) (h s : List ℕ) → length (absorbed n h s) ≡ length h
unfolding absorbed
absorbed_length zero h s = refl
absorbed_length (suc n) h s = compressed_length (absorbed n h s) _ _ _ ∙ absorbed_length n h s

hashed_length : (h s : List ℕ) → length (hashed h s) ≡ length h
unfolding hashed
hashed_length h s = compressed_length _ _ _ _ ∙ absorbed_length _ h s

initial_length : (p : List ℕ) → length (initial 8 p) ≡ 8
unfolding initial
initial_length p = refl

chain_length : (p s : List ℕ) → length (chain p s) ≡ 64
unfolding chain
chain_length p s =
    let h = hashed (initial 8 p) s in
    omega (arith, each_length (le_bytes 8) 8 (le_bytes_length 8) h, hashed_length (initial 8 p) s, initial_length p)

-- a CKB hash has 32 bytes
pub ckb_length : (s : List ℕ) → length (ckb_hash s) ≡ 32
unfolding ckb_hash blake2b params
ckb_length s = length-take 32 (chain (params 32 ckb_personal) s) ∙ omega (arith, chain_length (params 32 ckb_personal) s)

-- the words' bytes, as many as an output has room for
pub digest_by : (p s h₀ h o r : List ℕ) → h₀ ≡ initial 8 p → h ≡ hashed h₀ s → length o ≤ 64 → r ≡ sets o 0 (numbers h) → r ≡ take (length o) (chain p s)
unfolding chain
digest_by p s h₀ h o r e f l g =
    let d : numbers h ≡ chain p s = ap numbers (f ∙ ap (λ (l : List ℕ). hashed l s) e) in
    g ∙ ap (sets o 0) d ∙ sets_fill o (chain p s) (omega (arith, chain_length p s))

-- all of them
pub chain_all : (p s : List ℕ) → take 64 (chain p s) ≡ chain p s
chain_all p s = take_all 64 (chain p s) (omega (arith, chain_length p s))
