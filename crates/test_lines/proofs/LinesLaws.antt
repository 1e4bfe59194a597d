-- Laws of `specs/Lines.antt`: each definition as the library's word for what an iterator chain gives.
-- Assumes nothing.
use Rattle.std.proofs.Common.{◌≡◌, ℕ, zero, suc, ◌+◌, ◌-◌, ◌*◌, ◌/◌, ◌%◌, ◌^◌, ◌<◌, ◌≤◌, Bool, true, false, cond, not, Option, ◌==◌, ◌||◌, ◌≢◌, eq-eqb, ne_eqb, List, [], ◌∷◌, length, map, get_or, drop, set, refl, sym, ap, ◌∙◌, add-one, inl, inr, min, length-drop, take_all, arith, drop_of_length-le, drop-cons}
use Rattle.std.proofs.lemmas.Bool.Decides.{same_from_decides, Decides-eqb, Decides-and, Decides-like}
use Rattle.std.specs.Bool.{Decides}
use Rattle.std.specs.List.{fold, position_or_len, range_with_len, AllWithin, HoldsAt, slice_range}
use Rattle.std.specs.Option.{MatchOption, unwrap_or}
use Rattle.std.proofs.lemmas.Iterator.{index_from_first}
use Rattle.std.proofs.Math.Seq.{sets, set_out}
use Rattle.std.proofs.lemmas.Bool.{cases_lt}
use Rattle.test_lines.specs.Lines.{digit, hex_at, hex_bytes, holds, agree, number_from, find_in}

-- ---- hexadecimal

module _ (s : List ℕ) where
  pub hex_bytes_is : (n i : ℕ) → map (λ k. hex_at s (2 * k)) (range_with_len i n) ≡ hex_bytes n s i
  unfolding hex_bytes
  hex_bytes_is zero i = refl
  hex_bytes_is (suc n) i = ap (λ bs. hex_at s (2 * i) ∷ bs) (hex_bytes_is n (i + 1))

  -- whether the n bytes from the i-th on are those in hexadecimal
  holds_decides : (bytes : List ℕ) (n i : ℕ) → Decides (holds n bytes s i) ((k : ℕ) → i ≤ k → k < i + n → get_or bytes k 0 ≡ hex_at s (2 * k))
  unfolding holds
  holds_decides bytes zero i = (λ _ k l h. absurd (omega arith), λ _. refl)
  holds_decides bytes (suc n) i =
      Decides-like _
      (λ h k l u. elim (cases_lt i k) [ inl g ↦ h.1 k (omega arith) (omega arith) | inr g ↦ let e : i ≡ k = omega arith in rw (← e) h.0 ])
      (λ h. (h i (omega arith) (omega arith), λ k l u. h k (omega arith) (omega arith)))
      (Decides-and _ _ (Decides-eqb (get_or bytes i 0) (hex_at s (2 * i))) (holds_decides bytes n (i + 1)))

  pub agree_is : (bytes : List ℕ) (r : Bool) → length s / 2 ≡ length bytes → Decides r ((k : ℕ) → k < length bytes → get_or bytes k 0 ≡ hex_at s (2 * k)) → r ≡ agree bytes s
  unfolding agree
  agree_is bytes r e h =
      rw (eq-eqb (length s / 2) (length bytes) e)
      (same_from_decides r (holds (length bytes) bytes s 0)
      (Decides-like r (λ f k _ u. f k (omega arith)) (λ f k u. f k (omega arith) (omega arith)) h)
      (holds_decides bytes (length bytes) 0))

  pub agree_not : (bytes : List ℕ) → (length s / 2 ≢ length bytes) → false ≡ agree bytes s
  unfolding agree
  agree_not bytes h = rw (ne_eqb (length s / 2) (length bytes) h)

sets_out : (vs l : List ℕ) (i : ℕ) → length l ≤ i → sets l i vs ≡ l
sets_out [] l i h = refl
sets_out (v ∷ vs) l i h = rw (set_out l i v h) (sets_out vs l (suc i) (omega arith))

module _ (s out : List ℕ) (n i : ℕ) where
  pub unhex_more : i < n → (p x : ℕ) → p ≡ 2 * i → x ≡ hex_at s p → sets (set out i x) (i + 1) (hex_bytes (n - (i + 1)) s (i + 1)) ≡ sets out i (hex_bytes (n - i) s i)
  unfolding hex_bytes
  unhex_more h p x q e =
      let less : n - i ≡ suc (n - (i + 1)) = omega arith in
      rw (less, e, q, add-one i)

  pub unhex_end : i ≡ min n (length out) → out ≡ sets out i (hex_bytes (n - i) s i)
  unfolding hex_bytes
  unhex_end h =
      elim (cases_lt n (length out)) [ inl g ↦ let none : n - i ≡ 0 = omega arith in rw none | inr g ↦ sym (sets_out (hex_bytes (n - i) s i) out i (omega arith)) ]

-- ---- numbers and places

pub number_is : (x : ℕ) (s : List ℕ) → fold (λ y b. (y * 10 % 2 ^ 64 + digit b) % 2 ^ 64) x s ≡ number_from x s
unfolding number_from
number_is x [] = refl
number_is x (b ∷ s) = number_is ((x * 10 % 2 ^ 64 + digit b) % 2 ^ 64) s ∙ ap (λ y. number_from y s) (wrapped x (digit b))
  where
    wrapped : (x d : ℕ) → (x * 10 % 2 ^ 64 + d) % 2 ^ 64 ≡ (10 * x + d) % 2 ^ 64
    wrapped x d = omega arith

-- what `get` gives from a place on
pub rest_is : (s rest : List ℕ) (from at : ℕ) → from ≡ at → rest ≡ slice_range s from (length s) → rest ≡ drop at s
rest_is s rest from at e h = h ∙ take_all (length s - from) (drop from s) (omega (arith, length-drop {A = ℕ})) ∙ ap (λ i. drop i s) e

-- how many bytes stand before the first that is b or ends the line
pub before : ℕ → List ℕ → ℕ
before b = position_or_len (λ x. x == b || x == 10)

module _ (b : ℕ) where
  abbrev pub Ends : Bool → ℕ → Type 0
  Ends t x = (x == b || x == 10) ≡ t

  pub before_is : (r : Option ℕ) (s : List ℕ)
      → MatchOption r (AllWithin (Ends false) s 0 (length s)) (λ i. (i < length s) × HoldsAt (Ends true) s i × AllWithin (Ends false) s 0 i)
      → before b s ≡ unwrap_or r (length s)
  unfolding before
  before_is r s h = index_from_first (before b) (Ends true) (Ends false) refl (λ x xs e. rw e) (λ x xs e. rw e (omega arith)) s r h

  pub find_is : (s : List ℕ) (n at : ℕ) → n + at ≡ length s → at + before b (drop at s) ≡ find_in n s at b
  unfolding find_in before
  find_is s zero at e = rw (drop_of_length-le s {i = at} (omega arith)) (omega arith)
  find_is s (suc n) at e =
      let rest = rw add-one at (find_is s n (at + 1) (omega arith)) in
      rw (add-one, drop-cons s at 0 (omega arith), ← rest) (by_test (get_or s at 0 == b || get_or s at 0 == 10) (before b (drop (suc at) s)))
    where
      by_test : (t : Bool) (k : ℕ) → at + cond (not t) (1 + k) 0 ≡ cond t at (suc at + k)
      by_test true k = omega arith
      by_test false k = omega arith

  pub find_past : (s : List ℕ) (at : ℕ) → length s ≤ at → at ≡ find_in (length s - at) s at b
  unfolding find_in
  find_past s at h = let none : length s - at ≡ 0 = omega arith in rw none
