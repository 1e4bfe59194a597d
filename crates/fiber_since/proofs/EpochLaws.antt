-- Laws of `specs/Epoch.antt`: checked products, and fractions compared by whole parts and rests.
-- Assumes nothing.
use Prim.Native.Nat.{ℕ, ◌+◌, ◌*◌, ◌/◌, ◌%◌, ◌^◌, ◌≤◌, ◌<◌}
use native.Mathlib.Nat.{mod-lt, div-add-mod', mul-le-mul_right, suc-mul, add-mul, mul_assoc, mul_comm, mul-pos, mul-le-mul_left, mul-lt-mul_of_pos_right, lt_of_le_of_lt, add_comm, add-mul-div_right, add-mul-mod_self_right, le-div_iff_mul-le, div-lt_iff_lt-mul}
use native.Mathlib.Omega.{arith}
use mathlib.Core.Path.{◌≡◌, refl, sym, ap, subst, ◌∙◌}
use mathlib.Core.Bool.{Bool, true, false, cond, ◌&&◌, ◌||◌, and-true, and_assoc, or-false, or_assoc}
use lib.Dec.{leb, ltb, lit<}
use borrow.Author.Tests.{le-leb, lt-leb, leb-true, leb-false, lt-ltb, le-ltb, ltb-true, ltb-false, ne_eqb}
use Rattle.fiber_since.specs.declared.epoch.Epoch.{Epoch}
use Rattle.std.proofs.lemmas.Bool.{and_parts, or_parts, eqb-false}
use Rattle.std.specs.Prelude.{Result, Ok, Err}
use Rattle.fiber_refusal.specs.declared.Refusal.{Refusal}
use Rattle.fiber_refusal.specs.declared.Refusal.TheVariants.{LengthZero, ScaledAbove, NotWell}
use Rattle.fiber_since.specs.Epoch.{epoch_of, within_bits, units, factor, normalized, scaled, Bounded, due, no_length, due_test}
use Rattle.fiber_since.specs.inner.Bounds.{product}

-- ---- fractions

-- x · k by the whole part and the rest of x / b
split : (x b k : ℕ) → x * k ≡ (x / b) * (b * k) + (x % b) * k
split x b k = ap (λ (n : ℕ). n * k) (sym (div-add-mod' x b)) ∙ add-mul (x / b * b) (x % b) k ∙ ap (λ (n : ℕ). n + (x % b) * k) (mul_assoc (x / b) b k)

rest_small : (x b k : ℕ) → 0 < b → (x % b) * k + k ≤ b * k
rest_small x b k p = omega (arith, mul-le-mul_right k (mod-lt x p), suc-mul (x % b) k)

step : (q p m : ℕ) → q < p → q * m + m ≤ p * m
step q p m h = omega (arith, mul-le-mul_right m h, suc-mul q m)

module _ (x b y l : ℕ) (pb : 0 < b) (pl : 0 < l) where
  pub frac_below : x / b < y / l → leb (x * l) (y * b) ≡ true
  frac_below h =
      le-leb (x * l) (y * b)
      (omega (arith, split x b l, split y l b, rest_small x b l pb, rest_small y l b pl, mul_comm b l, step (x / b) (y / l) (b * l) h, ap (λ (m : ℕ). (y / l) * m) (mul_comm b l)))

  pub frac_above : y / l < x / b → leb (x * l) (y * b) ≡ false
  frac_above h =
      lt-leb (x * l) (y * b)
      (omega (arith, pb, split x b l, split y l b, rest_small x b l pb, rest_small y l b pl, mul_comm b l, step (y / l) (x / b) (b * l) h, ap (λ (m : ℕ). (y / l) * m) (mul_comm b l)))

  pub frac_same : x / b ≡ y / l → leb ((x % b) * l) ((y % l) * b) ≡ leb (x * l) (y * b)
  frac_same e = go (leb ((x % b) * l) ((y % l) * b)) refl
    where
      eq : (x / b) * (b * l) ≡ (y / l) * (l * b)
      eq = ap (λ (q : ℕ). q * (b * l)) e ∙ ap (λ (m : ℕ). (y / l) * m) (mul_comm b l)

      go : (t : Bool) → leb ((x % b) * l) ((y % l) * b) ≡ t → leb ((x % b) * l) ((y % l) * b) ≡ leb (x * l) (y * b)
      go true t = t ∙ sym (le-leb (x * l) (y * b) (omega (arith, split x b l, split y l b, eq, leb-true ((x % b) * l) ((y % l) * b) t)))
      go false t = t ∙ sym (lt-leb (x * l) (y * b) (omega (arith, split x b l, split y l b, eq, leb-false ((x % b) * l) ((y % l) * b) t)))

-- n · l + i, over l, times k: the whole part and the rest of i / l
part : (n l i k : ℕ) → (n * l + i) * k ≡ (n + i / l) * (l * k) + (i % l) * k
part n l i k =
    ap (λ (j : ℕ). (n * l + j) * k) (sym (div-add-mod' i l))
    ∙ ap (λ (j : ℕ). j * k) (omega (arith, add-mul n (i / l) l))
    ∙ add-mul ((n + i / l) * l) (i % l) k
    ∙ ap (λ (j : ℕ). j + (i % l) * k) (mul_assoc (n + i / l) l k)

module _ (n₁ i₁ l₁ n₂ i₂ l₂ : ℕ) (p₁ : 0 < l₁) (p₂ : 0 < l₂) where
  abbrev rests : ℕ
  rests = (i₁ % l₁) * l₂ + (i₂ % l₂) * l₁

  sum_parts : (n₁ * l₁ + i₁) * l₂ + (n₂ * l₂ + i₂) * l₁ ≡ rests + (n₁ + i₁ / l₁ + (n₂ + i₂ / l₂)) * (l₁ * l₂)
  sum_parts =
      omega (
        arith,
        part n₁ l₁ i₁ l₂,
        part n₂ l₂ i₂ l₁,
        ap (λ (m : ℕ). (n₂ + i₂ / l₂) * m) (mul_comm l₂ l₁),
        add-mul (n₁ + i₁ / l₁) (n₂ + i₂ / l₂) (l₁ * l₂),
      )

  pub sum_whole : ((n₁ * l₁ + i₁) * l₂ + (n₂ * l₂ + i₂) * l₁) / (l₁ * l₂) ≡ n₁ + i₁ / l₁ + (n₂ + i₂ / l₂) + rests / (l₁ * l₂)
  sum_whole =
      ap (λ (x : ℕ). x / (l₁ * l₂)) sum_parts
      ∙ add-mul-div_right rests (n₁ + i₁ / l₁ + (n₂ + i₂ / l₂)) (mul-pos p₁ p₂)
      ∙ add_comm (rests / (l₁ * l₂)) (n₁ + i₁ / l₁ + (n₂ + i₂ / l₂))

  pub sum_rest : ((n₁ * l₁ + i₁) * l₂ + (n₂ * l₂ + i₂) * l₁) % (l₁ * l₂) ≡ rests % (l₁ * l₂)
  sum_rest = ap (λ (x : ℕ). x % (l₁ * l₂)) sum_parts ∙ add-mul-mod_self_right rests (n₁ + i₁ / l₁ + (n₂ + i₂ / l₂)) (l₁ * l₂)

pub one_whole : (n l i : ℕ) → 0 < l → (n * l + i) / l ≡ n + i / l
one_whole n l i p = ap (λ (x : ℕ). x / l) (add_comm (n * l) i) ∙ add-mul-div_right i n p ∙ add_comm (i / l) n

pub one_rest : (n l i : ℕ) → (n * l + i) % l ≡ i % l
one_rest n l i = ap (λ (x : ℕ). x % l) (add_comm (n * l) i) ∙ add-mul-mod_self_right i n l

-- a product below a product
pub product_below : (p q : ℕ) {x y : ℕ} → x < p → y ≤ q → 0 < q → x * y < p * q
product_below p q {x} {y} h g z = lt_of_le_of_lt (mul-le-mul_left x g) (mul-lt-mul_of_pos_right h z)

module _ {h d n : Epoch} (u : Bounded h) (v : Bounded d) (w : Bounded n) where
  abbrev whole : ℕ
  whole =
      h.number + h.index / h.length + (d.number + d.index / d.length)
      + ((h.index % h.length) * d.length + (d.index % d.length) * h.length) / (h.length * d.length)

  abbrev x_of : ℕ
  x_of = units h * d.length + units d * h.length

  some_b : 0 < h.length * d.length
  some_b = mul-pos u.some v.some

  same_whole : x_of / (h.length * d.length) ≡ whole
  unfolding units
  same_whole = sum_whole h.number h.index h.length d.number d.index d.length u.some v.some

  other_whole : units n / n.length ≡ n.number + n.index / n.length
  unfolding units
  other_whole = one_whole n.number n.length n.index w.some

  pub due_below : whole < n.number + n.index / n.length → true ≡ due h d n
  unfolding due units
  due_below g = sym (frac_below x_of (h.length * d.length) (units n) n.length some_b w.some (omega (arith, same_whole, other_whole)))

  pub due_above : n.number + n.index / n.length < whole → false ≡ due h d n
  unfolding due units
  due_above g = sym (frac_above x_of (h.length * d.length) (units n) n.length some_b w.some (omega (arith, same_whole, other_whole)))

  pub due_same : whole ≡ n.number + n.index / n.length
      → leb ((((h.index % h.length) * d.length + (d.index % d.length) * h.length) % (h.length * d.length)) * n.length) ((n.index % n.length) * (h.length * d.length)) ≡ due h d n
  unfolding due units
  due_same g =
      ap (λ (r : ℕ). leb (r * n.length) ((n.index % n.length) * (h.length * d.length)))
      (sym (sum_rest h.number h.index h.length d.number d.index d.length u.some v.some))
      ∙ ap (λ (r : ℕ). leb ((x_of % (h.length * d.length)) * n.length) (r * (h.length * d.length))) (sym (one_rest n.number n.length n.index))
      ∙ frac_same x_of (h.length * d.length) (units n) n.length some_b w.some (same_whole ∙ g ∙ sym other_whole)

-- ---- fields within their bits

pub record Bits (e : Epoch) : Type 0 where
  pub number : e.number < 2 ^ 24
  pub index : e.index < 2 ^ 16
  pub length : e.length < 2 ^ 16

pub bits : (e : Epoch) → within_bits e ≡ true → Bits e
unfolding within_bits
bits e h =
    let l = and_parts _ _ h in
    let i = and_parts _ _ l.0 in
    record { number = ltb-true _ _ i.0; index = ltb-true _ _ i.1; length = ltb-true _ _ l.1 }

pub bits_length : (e : Epoch) → e.number < 2 ^ 24 → e.index < 2 ^ 16 → ltb e.length (2 ^ 16) ≡ within_bits e
unfolding within_bits
bits_length e h g = rw (lt-ltb e.number (2 ^ 24) h, lt-ltb e.index (2 ^ 16) g)

-- an epoch within its bits, with some length, can be compared
pub within : (e : Epoch) → within_bits e ≡ true → (e.length ≡ 0 → ⊥) → Bounded e
within e h z =
    let b = bits e h in
    record { number = b.number; index = b.index; length = b.length; some = omega arith }

pub whole_below : (e : Epoch) → within_bits e ≡ true → e.number * e.length < 2 ^ 40
whole_below e h = let b = bits e h in product_below (2 ^ 24) (2 ^ 16) b.number (omega (arith, b.length)) (lit< tt)

pub units_below : (e : Epoch) → within_bits e ≡ true → e.number * e.length + e.index < 2 ^ 41
units_below e h = omega (arith, whole_below e h, (bits e h).index)

-- ---- fields of an epoch value

-- an epoch value's fields are within their bits
pub epoch_within : (v : ℕ) → within_bits (epoch_of v) ≡ true
unfolding within_bits epoch_of
epoch_within v =
    rw (
      lt-ltb (v % 2 ^ 24) (2 ^ 24) (mod-lt v (lit< tt)),
      lt-ltb (v / 2 ^ 24 % 2 ^ 16) (2 ^ 16) (mod-lt (v / 2 ^ 24) (lit< tt)),
      lt-ltb (v / 2 ^ 40 % 2 ^ 16) (2 ^ 16) (mod-lt (v / 2 ^ 40) (lit< tt)),
    )

-- ---- thirds of a delay

-- What a denominator is divided by is no more than it, and leaves no more than 1800 of it.
record Factor (d s : ℕ) : Type 0 where
  some : 0 < s
  most : s ≤ d
  cover : d < 1801 * s

factor_size : (d : ℕ) → 0 < d → Factor d (factor d)
unfolding factor
factor_size d h = go (ltb 1800 d) refl
  where
    go : (b : Bool) → ltb 1800 d ≡ b → Factor d (cond b (d / 1800 + 1) 1)
    go true e = let z : 1800 < d = ltb-true 1800 d e in record { some = omega arith; most = omega arith; cover = omega arith }
    go false e = let z : d ≤ 1800 = ltb-false 1800 d e in record { some = omega arith; most = omega arith; cover = omega arith }

-- a scaled delay that is not turned down, and can be compared
pub record Fraction (x : Result Epoch Refusal) : Type 0 where
  pub epoch : Epoch
  pub is_epoch : x ≡ Ok epoch
  pub within : Bounded epoch

-- a fraction whose whole part has 24 bits
normalized_within : (n d : ℕ) → 0 < d → n < 16777216 * d → Fraction (normalized n d)
unfolding normalized
normalized_within n d p h =
    let f = factor_size d p in
    let w : n / d < 16777216 = (div-lt_iff_lt-mul p).1 h in
    record {
      epoch = record { number = n / d; index = n % d / factor d; length = d / factor d };
      is_epoch = rw (ne_eqb d 0 (λ e. omega arith), le-ltb 16777215 (n / d) (omega arith));
      within = record {
        number = w;
        index = (div-lt_iff_lt-mul f.some).1 (omega (arith, f.cover, mod-lt n p));
        length = (div-lt_iff_lt-mul f.some).1 (omega (arith, f.cover));
        some = (le-div_iff_mul-le f.some).1 (omega (arith, f.most));
      };
    }

-- within its bits
bits_of : (e : Epoch) → Bounded e → within_bits e ≡ true
bits_of e w = sym (bits_length e w.number w.index) ∙ lt-ltb e.length (2 ^ 16) w.length

-- no third of a delay that can be compared is turned down, and it can be compared too
pub thirds_within : (e : Epoch) (k : ℕ) → k ≤ 2 → Bounded e → Fraction (scaled e k 3)
unfolding scaled units
thirds_within e k h w =
    let a : e.number * e.length ≤ 16777215 * e.length = mul-le-mul_right e.length (omega (arith, w.number)) in
    let b : k * (e.number * e.length + e.index) ≤ 2 * (e.number * e.length + e.index) = mul-le-mul_right (e.number * e.length + e.index) h in
    let i = w.index in
    let l = w.length in
    let s = w.some in
    rw (bits_of e w, lt-leb (2 ^ 64) (k * (e.number * e.length + e.index)) (omega arith), lt-leb (2 ^ 64) (3 * e.length) (omega arith))
    (normalized_within (k * (e.number * e.length + e.index)) (3 * e.length) (omega arith) (omega arith))

-- so what the code has as a third can be compared
pub third_within : (e : Epoch) (k : ℕ) → k ≤ 2 → Bounded e → (x : Result Epoch Refusal) (third : Epoch) → x ≡ scaled e k 3 → x ≡ Ok third → Bounded third
third_within e k h w x third f g = let z = thirds_within e k h w in subst Bounded (inside z.epoch third (sym z.is_epoch ∙ sym f ∙ g)) z.within
  where
    inside : (a b : Epoch) → ◌≡◌ {A = Result Epoch Refusal} (Ok a) (Ok b) → a ≡ b
    inside a b e = cc

-- and it has one
pub third_refused : (e : Epoch) (k : ℕ) → k ≤ 2 → Bounded e → (r : Refusal) → Err r ≡ scaled e k 3 → ⊥
third_refused e k h w r f =
    let t = sym (thirds_within e k h w).is_epoch ∙ sym f in
    let z : ◌≡◌ {A = ℕ} 0 1 = cc in
    omega arith

-- ---- scaling, by its tests

-- a product by its test
over : (a b : ℕ) (r : Refusal) → Err r ≡ product a b → (leb (2 ^ 64) (a * b) ≡ true) × (r ≡ ScaledAbove)
unfolding product
over a b r e = go (ltb (a * b) (2 ^ 64)) refl e
  where
    go : (t : Bool) → ltb (a * b) (2 ^ 64) ≡ t → Err r ≡ cond t (Ok (a * b)) (Err ScaledAbove) → (leb (2 ^ 64) (a * b) ≡ true) × (r ≡ ScaledAbove)
    go true p h = let z : ◌≡◌ {A = ℕ} 0 1 = cc in absurd (omega arith)
    go false p h = (le-leb (2 ^ 64) (a * b) (ltb-false (a * b) (2 ^ 64) p), cc)

fits : (a b n : ℕ) → Ok n ≡ product a b → (leb (2 ^ 64) (a * b) ≡ false) × (n ≡ a * b)
unfolding product
fits a b n e = go (ltb (a * b) (2 ^ 64)) refl e
  where
    go : (t : Bool) → ltb (a * b) (2 ^ 64) ≡ t → Ok n ≡ cond t (Ok (a * b)) (Err ScaledAbove) → (leb (2 ^ 64) (a * b) ≡ false) × (n ≡ a * b)
    go true p h = (lt-leb (2 ^ 64) (a * b) (ltb-true (a * b) (2 ^ 64) p), cc)
    go false p h = let z : ◌≡◌ {A = ℕ} 0 1 = cc in absurd (omega arith)

module _ (e : Epoch) (a b : ℕ) where
  pub scaled_bits : within_bits e ≡ false → Err NotWell ≡ scaled e a b
  unfolding scaled
  scaled_bits h = rw h

  module _ (h : within_bits e ≡ true) where
    pub scaled_over : (r : Refusal) → Err r ≡ product a (units e) → Err r ≡ scaled e a b
    unfolding scaled
    scaled_over r f = rw (h, (over a (units e) r f).0, (over a (units e) r f).1)

    module _ (n : ℕ) (f : Ok n ≡ product a (units e)) where
      pub scaled_over_2 : (r : Refusal) → Err r ≡ product b e.length → Err r ≡ scaled e a b
      unfolding scaled
      scaled_over_2 r g = rw (h, (fits a (units e) n f).0, (over b e.length r g).0, (over b e.length r g).1)

      pub scaled_fits : (d : ℕ) → Ok d ≡ product b e.length → normalized n d ≡ scaled e a b
      unfolding scaled
      scaled_fits d g = rw (h, (fits a (units e) n f).0, (fits b e.length d g).0, (fits a (units e) n f).1, (fits b e.length d g).1)

-- ---- the due test, by its tests

-- a list of three tests, as the code has them
and_three : (a b d : Bool) → (a && (b && (d && true))) ≡ (a && b && d)
and_three a b d = simp (and-true, and_assoc)

or_three : (a b d : Bool) → (a || (b || (d || false))) ≡ (a || b || d)
or_three a b d = simp (or-false, or_assoc)

module _ (h d n : Epoch) where
  abbrev all_bits : Bool
  all_bits = within_bits h && (within_bits d && (within_bits n && true))

  abbrev some_zero : Bool
  some_zero = no_length h || (no_length d || (no_length n || false))

  pub test_bits : false ≡ all_bits → Err NotWell ≡ due_test h d n
  unfolding due_test
  test_bits e = rw (← and_three (within_bits h) (within_bits d) (within_bits n), ← e)

  module _ (e : true ≡ all_bits) where
    pub test_zero : true ≡ some_zero → Err LengthZero ≡ due_test h d n
    unfolding due_test
    test_zero z = rw (← and_three (within_bits h) (within_bits d) (within_bits n), ← e, ← or_three (no_length h) (no_length d) (no_length n), ← z)

    pub test_due : false ≡ some_zero → (t : Bool) → t ≡ due h d n → Ok t ≡ due_test h d n
    unfolding due_test
    test_due z t u = rw (← and_three (within_bits h) (within_bits d) (within_bits n), ← e, ← or_three (no_length h) (no_length d) (no_length n), ← z, u)

    -- each of the three can be compared
    pub three_within : false ≡ some_zero → Bounded h × (Bounded d × Bounded n)
    three_within z =
        let b = and_parts _ _ (sym e) in
        let b' = and_parts _ _ b.1 in
        let o = or_parts _ _ (sym z) in
        let o' = or_parts _ _ o.1 in
        (within h b.0 (eqb-false _ _ o.0), (within d b'.0 (eqb-false _ _ o'.0), within n (and_parts _ _ b'.1).0 (eqb-false _ _ (or_parts _ _ o'.1).0)))
