-- The three of the seventeen numbers that say what the choice is.
use Rattle.std.specs.Prelude.{ℕ, List, [], ◌∷◌}
use Rattle.fiber_choice.specs.declared.kinds.Choice.{Choice}
use Rattle.fiber_choice.specs.HandedOut.{choice_byte}
use Rattle.settlement_c.specs.Choose.{kind_number, pair_number}

unfoldable pub choice_numbers : Choice → List ℕ
choice_numbers choice = kind_number choice ∷ (choice_byte choice ∷ (pair_number choice ∷ []))
