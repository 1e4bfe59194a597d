-- The settlement operations over the C interface: each answer's size and fields, and the call on the C parameters in their order.
use Rattle.std.specs.Prelude.{ℕ, List, [], ◌∷◌, eqb, Result, Ok, Err}
use Rattle.fiber_refusal.specs.declared.Refusal.{Refusal}
use Rattle.fiber_refusal.specs.Rows.{number_of, place_of}
use Rattle.fiber_bytes.specs.Bytes.{numbers}
use Rattle.fiber_types.specs.Records.{Outcome}
use Rattle.fiber_witness.specs.declared.witness.WitnessLayout.{WitnessLayout}
use Rattle.fiber_witness.specs.Witness.{read_witness}
use Rattle.fiber_witness.specs.Update.{updated}
use Rattle.fiber_choice.specs.FirstRecords.{wrote_first_tlc, wrote_first}
use Rattle.c_answer.specs.Answers.{Answer, row, fields, call, is_flag, flag_call}
pub use Rattle.c_answer.specs.Answers.{OutCall}

-- ---- the reader

-- 48 bytes: behind the front n, the number of unlocks, the places of the share part and of the first unlock
unfoldable pub read_answer : Result WitnessLayout Refusal → Answer
read_answer (Ok l) = fields (numbers (l.n ∷ (l.unlock_count ∷ (l.share_place ∷ (l.first_unlock ∷ [])))))
read_answer (Err r) = row (number_of r) (place_of r)

unfoldable pub read_call : ℕ → List ℕ → List ℕ → OutCall
read_call h w buffer = call 48 (read_answer (read_witness h w)) [] [] buffer

-- ---- the writers: update, and first records

-- 24 bytes: behind the front the length that was written
unfoldable pub written_answer : Result ℕ Refusal → Answer
written_answer (Ok len) = fields (numbers (len ∷ []))
written_answer (Err r) = row (number_of r) (place_of r)

unfoldable pub written_call : Outcome (Result ℕ Refusal) → List ℕ → List ℕ → OutCall
written_call o out buffer = call 24 (written_answer o.answer) o.bytes out buffer

unfoldable pub update_call : ℕ → List ℕ → List ℕ → List ℕ → OutCall
update_call h w out buffer = written_call (updated h w out) out buffer

-- a writer's call with the flag for_remote
unfoldable pub flagged_call : ℕ → Outcome (Result ℕ Refusal) → List ℕ → List ℕ → OutCall
flagged_call for_remote o out buffer = flag_call (is_flag for_remote) 24 (written_answer o.answer) o.bytes out buffer

unfoldable pub tlc_record_call : ℕ → ℕ → List ℕ → List ℕ → List ℕ → OutCall
tlc_record_call h for_remote tlc out buffer = flagged_call for_remote (wrote_first_tlc h (eqb for_remote 1) tlc out) out buffer

unfoldable pub first_state_call : ℕ → ℕ → ℕ → ℕ → ℕ → ℕ → List ℕ → List ℕ → List ℕ → List ℕ → List ℕ → OutCall
first_state_call h for_remote local_low local_high remote_low remote_high tlcs local_key remote_key out buffer =
    flagged_call for_remote (wrote_first h (eqb for_remote 1) (record {
      tlcs = tlcs;
      local_amount = record { low = local_low; high = local_high };
      remote_amount = record { low = remote_low; high = remote_high };
      local_key = local_key;
      remote_key = remote_key;
    }) out) out buffer
