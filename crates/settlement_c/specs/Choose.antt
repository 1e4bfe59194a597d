-- The choice over the C interface: the answer's size and fields, and the call on the C parameters in their order.
use Rattle.std.specs.Prelude.{ℕ, Bool, cond, ◌&&◌, List, [], ◌∷◌, ◌++◌, eqb, Option, Some, None, Ok, Err}
use Rattle.fiber_refusal.specs.Rows.{number_of, place_of}
use Rattle.fiber_since.specs.declared.epoch.Epoch.{Epoch}
use Rattle.fiber_choice.specs.declared.kinds.Way.TheVariants as WayCase
use Rattle.fiber_choice.specs.declared.kinds.Choice.{Choice}
use Rattle.fiber_choice.specs.declared.kinds.Choice.TheVariants as ChoiceCase
use Rattle.fiber_choice.specs.declared.kinds.Key.{Key}
use Rattle.fiber_choice.specs.declared.kinds.Key.TheVariants as KeyCase
use Rattle.fiber_choice.specs.declared.kinds.Decision.{Decision}
use Rattle.fiber_choice.specs.declared.kinds.NoChoice.TheVariants as NoChoiceCase
use Rattle.fiber_choice.specs.Answered.{Answer as Chooses}
use Rattle.fiber_bytes.specs.Bytes.{numbers}
use Rattle.fiber_choice.specs.HandedOut.{choice_byte}
use Rattle.fiber_choice.specs.Waits.{wait_number, wait_place}
use Rattle.fiber_choice.specs.Choice.{choice_of}
use Rattle.c_answer.specs.Answers.{Answer, row, fields, OutCall, is_flag, flag_call}

-- ---- seventeen numbers

-- 0 for a share, 1 for a TLC by timeout, 2 for a TLC by a preimage
unfoldable pub kind_number : Choice → ℕ
kind_number (ChoiceCase.Share side) = 0
kind_number (ChoiceCase.Tlc place WayCase.Timeout) = 1
kind_number (ChoiceCase.Tlc place (WayCase.Preimage pair_place)) = 2

-- the place of the preimage's pair
unfoldable pub pair_number : Choice → ℕ
pair_number (ChoiceCase.Share side) = 0
pair_number (ChoiceCase.Tlc place WayCase.Timeout) = 0
pair_number (ChoiceCase.Tlc place (WayCase.Preimage pair_place)) = pair_place

-- 0 and 0 for our settlement key, 1 and a place for that of a settlement TLC
unfoldable pub key_numbers : Key → List ℕ
key_numbers KeyCase.Settlement = 0 ∷ (0 ∷ [])
key_numbers (KeyCase.Tlc place) = 1 ∷ (place ∷ [])

-- 0 for none, or 1 and number, index, length
unfoldable pub delay_numbers : Option Epoch → List ℕ
delay_numbers None = 0 ∷ (0 ∷ (0 ∷ (0 ∷ [])))
delay_numbers (Some e) = 1 ∷ (e.number ∷ (e.index ∷ (e.length ∷ [])))

-- 1 for true
unfoldable pub flag_number : Bool → ℕ
flag_number flag = cond flag 1 0

-- choice, byte, amount, key, delay, the record's place and length, the lengths of the three parts of the output, the pair, whether it is the last
-- settlement
unfoldable pub decision_numbers : Decision → List ℕ
decision_numbers d =
    (kind_number d.choice ∷ (choice_byte d.choice ∷ (d.amount.low ∷ (d.amount.high ∷ []))))
    ++ key_numbers d.key
    ++ delay_numbers d.delay
    ++ (d.place ∷ (d.len ∷ (d.unlock_len ∷ (d.state_len ∷ (d.args_len ∷ (pair_number d.choice ∷ (flag_number d.last ∷ [])))))))

-- ---- the call

-- 152 bytes: behind the front the seventeen numbers
unfoldable pub choose_answer : Chooses → Answer
choose_answer (Ok d) = fields (numbers (decision_numbers d))
choose_answer (Err (NoChoiceCase.Wait wait)) = row (wait_number wait) (wait_place wait)
choose_answer (Err (NoChoiceCase.Refused r)) = row (number_of r) (place_of r)

unfoldable pub choose_call : ℕ → ℕ → ℕ → ℕ → ℕ → ℕ → ℕ → ℕ → ℕ → ℕ → ℕ → ℕ → ℕ → ℕ
    → List ℕ → List ℕ → List ℕ → List ℕ → List ℕ → List ℕ → List ℕ → List ℕ → List ℕ → OutCall
choose_call h for_remote is_later time header_number header_index header_length current_number current_index current_length local_low local_high remote_low remote_high
    args tlcs local_key remote_key tracked preimages witness out buffer =
    let o = choice_of (record {
      h = h;
      for_remote = eqb for_remote 1;
      time = time;
      header = record { number = header_number; index = header_index; length = header_length };
      current = record { number = current_number; index = current_index; length = current_length };
      args = args;
      settlement = record {
        tlcs = tlcs;
        local_amount = record { low = local_low; high = local_high };
        remote_amount = record { low = remote_low; high = remote_high };
        local_key = local_key;
        remote_key = remote_key;
      };
      tracked = tracked;
      preimages = preimages;
    }) (eqb is_later 1) witness out in
    flag_call (is_flag for_remote && is_flag is_later) 152 (choose_answer o.answer) o.bytes out buffer
