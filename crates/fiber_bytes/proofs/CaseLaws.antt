-- A claim of what goes by a test holds where it holds in each case.
-- Assumes nothing.
use mathlib.Core.Path.{◌≡◌, refl}
use mathlib.Core.Bool.{Bool, true, false, cond}

-- one, two or three things that go by one test
pub by_test : {A : Type 0} (P : A → Type 0) (b : Bool) (x y : A) → (b ≡ true → P x) → (b ≡ false → P y) → P (cond b x y)
by_test P true x y f g = f refl
by_test P false x y f g = g refl

-- where it does not matter how the test went
pub by_each : {A : Type 0} (P : A → Type 0) (b : Bool) (x y : A) → P x → P y → P (cond b x y)
by_each P b x y f g = by_test P b x y (λ _. f) (λ _. g)

pub by_test₂ : {A B : Type 0} (P : A → B → Type 0) (b : Bool) (x y : A) (x' y' : B) → (b ≡ true → P x x') → (b ≡ false → P y y') → P (cond b x y) (cond b x' y')
by_test₂ P true x y x' y' f g = f refl
by_test₂ P false x y x' y' f g = g refl
