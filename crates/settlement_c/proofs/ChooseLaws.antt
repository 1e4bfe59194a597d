-- Laws of `specs/Choose.antt`: the numbers of a key and of a delay.
-- Assumes nothing.
use mathlib.Core.Path.{◌≡◌, refl}
use mathlib.Core.Bool.{Bool, true, false}
use mathlib.Core.List.{List, [], ◌∷◌}
use Rattle.std.proofs.Common.{ℕ, Bor}
use Rattle.std.specs.Prelude.{Option, Some, None, is_some, unwrap_or, option_copied}
use Rattle.std.specs.Bool.{then_some}
use lib.ListN.{get_or}
use Rattle.fiber_choice.specs.declared.kinds.Key.{Key}
use Rattle.fiber_choice.specs.declared.kinds.Key.TheVariants as KeyCase
use Rattle.fiber_since.specs.declared.epoch.Epoch.{Epoch}
use Rattle.fiber_choice.specs.Request.{Request}
use Rattle.fiber_choice.specs.Choice.{choice_of}
use Rattle.fiber_choice.proofs.ChoiceLaws.{choice_unseen}
use Rattle.settlement_c.specs.Choose.{key_numbers, delay_numbers}

-- each number where it stands
pub key_two : (k : Key) → key_numbers k ≡ get_or (key_numbers k) 0 0 ∷ (get_or (key_numbers k) 1 0 ∷ [])
unfolding key_numbers
key_two KeyCase.Settlement = refl
key_two (KeyCase.Tlc place) = refl

pub delay_four : (d : Option Epoch) → delay_numbers d ≡ get_or (delay_numbers d) 0 0 ∷ (get_or (delay_numbers d) 1 0 ∷ (get_or (delay_numbers d) 2 0 ∷ (get_or (delay_numbers d) 3 0 ∷ [])))
unfolding delay_numbers
delay_four None = refl
delay_four (Some e) = refl

-- a choice whose witness is handed on with the flag alone
pub choice_flagged : (q : Request) (is_later : Bool) (w : Bor (List ℕ)) (out : List ℕ)
    → choice_of q (is_some (then_some is_later w)) (unwrap_or (option_copied (then_some is_later w)) []) out ≡ choice_of q is_later w.now out
choice_flagged q true w out = refl
choice_flagged q false w out = choice_unseen q [] w.now out
