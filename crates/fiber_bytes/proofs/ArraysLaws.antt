-- What `array::from_fn` leaves, and that a list is what writes at one index after the other make.
-- Assumes nothing.
use Rattle.std.proofs.Common.{◌≡◌, ℕ, zero, suc, ◌+◌, ◌≤◌, ◌<◌, List, ◌∷◌, ◌++◌, length, get_or, set, take, drop, ap, ap₂, ◌∙◌, sym, arith, subst, append-nil, take_all}
use lib.ListN.{drop_of_length-le}
use lib.Seq.{take-suc, drop-cons, length-take-le, get_or-append_seam, append_snoc, set_at}
use mathlib.Core.Logic.{⊎_elim}
use denote.Param.Members.{Mut}
use Rattle.std.specs.Fn.{Called}
use Rattle.std.specs.Array.{IsFromFnResult, IsFromFnResultFrom}
use Rattle.std.proofs.lemmas.Bool.{cases_lt}

-- each element is the function's value at its index, where the calls leave what they hold as it is
from_fn_from : {F : Type 0} (g : Mut F (ℕ × Unit {0}) ℕ) (h : ℕ → ℕ) (f : F) → ((i y : ℕ) (q : F) → Called g f (i, tt) y q → (y ≡ h i) × (q ≡ f))
    → (ys : List ℕ) (n i : ℕ) → IsFromFnResultFrom g f ys i n → (k : ℕ) → i ≤ k → k < i + n → get_or ys k 0 ≡ h k
from_fn_from g h f s ys zero i e k a b = absurd (omega arith)
from_fn_from {F} g h f s ys (suc n) i e k a b =
    let c = s i e.1 e.0 e.3 in
    let here : k ≤ i → get_or ys k 0 ≡ h k = λ l.
    let j : k ≡ i = omega arith in
    ap (λ m. get_or ys m 0) j ∙ e.2.1 0 ∙ c.0 ∙ ap h (sym j) in
    let behind : i < k → get_or ys k 0 ≡ h k = λ l.
    from_fn_from g h f s ys n (i + 1) (subst (λ (p : F). IsFromFnResultFrom g p ys (i + 1) n) c.1 e.4) k (omega arith) (omega arith) in
    ⊎_elim behind here (cases_lt i k)

pub from_fn_at : {F : Type 0} (g : Mut F (ℕ × Unit {0}) ℕ) {f : F} {ys : List ℕ} {n : ℕ} → IsFromFnResult g f ys n → (h : ℕ → ℕ)
    → ((i y : ℕ) (q : F) → Called g f (i, tt) y q → (y ≡ h i) × (q ≡ f)) → (i : ℕ) → i < n → get_or ys i 0 ≡ h i
from_fn_at g {f} {ys} {n} m h s i l = from_fn_from g h f s ys n 0 m.each i (omega arith) (omega arith)

-- A list w after w is made by writing at one index after the other, from h on, and r has at each index what is written there.
module _ (r h : List ℕ) (g : ℕ → ℕ → ℕ) (w : ℕ → List ℕ) (start : w 0 ≡ h) (step : (i : ℕ) → w (suc i) ≡ set (w i) i (g i (get_or (w i) i 0)))
    (same : length r ≡ length h) (each : (i : ℕ) → i < length r → get_or r i 0 ≡ g i (get_or h i 0)) where
  front : (n : ℕ) → n ≤ length r → take n r ++ drop n h ≡ w n
  front zero l = sym start
  front (suc n) l =
      let t : length (take n r) ≡ n = length-take-le n r (omega arith) in
      let f : w n ≡ take n r ++ (get_or h n 0 ∷ drop (suc n) h) = sym (front n (omega arith)) ∙ ap (λ (k : List ℕ). take n r ++ k) (drop-cons h n 0 (omega arith)) in
      let old : get_or (w n) n 0 ≡ get_or h n 0 = ap (λ (k : List ℕ). get_or k n 0) f ∙ rw t at (get_or-append_seam (take n r) (get_or h n 0) (drop (suc n) h) 0) in
      ap (λ (k : List ℕ). k ++ drop (suc n) h) (take-suc r n 0 (omega arith))
      ∙ append_snoc (take n r) (get_or r n 0) (drop (suc n) h)
      ∙ sym (set_at (take n r) (get_or h n 0) (drop (suc n) h) (get_or r n 0) n t)
      ∙ ap₂ (λ (k : List ℕ) (y : ℕ). set k n y) (sym f) (each n (omega arith) ∙ ap (g n) (sym old))
      ∙ sym (step n)

  pub written : r ≡ w (length r)
  written =
      sym (append-nil r)
      ∙ ap₂ (λ (a b : List ℕ). a ++ b) (sym (take_all (length r) r (omega arith))) (sym (drop_of_length-le h {i = length r} (omega arith)))
      ∙ front (length r) (omega arith)
