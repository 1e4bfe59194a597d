-- The lower face over the C interface: each answer's size and fields, and the call on the C parameters in their order.
use Rattle.std.specs.Prelude.{ℕ, Bool, true, false, List, [], ◌∷◌, Option, Some, None, Result, Ok, Err}
use Rattle.fiber_refusal.specs.declared.Refusal.{Refusal}
use Rattle.fiber_refusal.specs.Rows.{number_of, place_of}
use Rattle.fiber_since.specs.declared.epoch.Epoch.{Epoch}
use Rattle.fiber_since.specs.Epoch.{epoch, scaled, due_test}
use Rattle.fiber_since.specs.Since.{absolute_expiry}
use Rattle.fiber_types.specs.Key.{key_hash}
use Rattle.fiber_bytes.specs.Bytes.{numbers}
use Rattle.c_answer.specs.Answers.{Answer, row, fields, OutCall, call}

-- the interface as a whole: it goes up with each change of a signature or of a layout
unfoldable pub abi : ℕ
abi = 1

-- 40 bytes: behind the front number, index, length
unfoldable pub scale_answer : Result Epoch Refusal → Answer
scale_answer (Ok e) = fields (numbers (e.number ∷ (e.index ∷ (e.length ∷ []))))
scale_answer (Err r) = row (number_of r) (place_of r)

unfoldable pub scale_call : ℕ → ℕ → ℕ → ℕ → ℕ → List ℕ → OutCall
scale_call number index length numerator denominator buffer = call 40 (scale_answer (scaled (epoch number index length) numerator denominator)) [] [] buffer

-- 24 bytes: behind the front 1 where it is due, else 0
unfoldable pub is_due_answer : Result Bool Refusal → Answer
is_due_answer (Ok true) = fields (numbers (1 ∷ []))
is_due_answer (Ok false) = fields (numbers (0 ∷ []))
is_due_answer (Err r) = row (number_of r) (place_of r)

unfoldable pub is_due_call : ℕ → ℕ → ℕ → ℕ → ℕ → ℕ → ℕ → ℕ → ℕ → List ℕ → OutCall
is_due_call header_number header_index header_length delay_number delay_index delay_length current_number current_index current_length buffer =
    call 24 (is_due_answer (due_test (epoch header_number header_index header_length) (epoch delay_number delay_index delay_length)
    (epoch current_number current_index current_length))) [] [] buffer

-- 32 bytes: behind the front 1 and the expiry in milliseconds, or 0 and 0
unfoldable pub expiry_answer : Option ℕ → Answer
expiry_answer (Some ms) = fields (numbers (1 ∷ (ms ∷ [])))
expiry_answer None = fields (numbers (0 ∷ (0 ∷ [])))

unfoldable pub expiry_call : ℕ → List ℕ → OutCall
expiry_call since buffer = call 32 (expiry_answer (absolute_expiry since)) [] [] buffer

-- 36 bytes: behind the front the 20 bytes of the hash
unfoldable pub key_hash_answer : Result (List ℕ) Refusal → Answer
key_hash_answer (Ok hash) = fields hash
key_hash_answer (Err r) = row (number_of r) (place_of r)

unfoldable pub key_hash_call : List ℕ → List ℕ → OutCall
key_hash_call key buffer = call 36 (key_hash_answer (key_hash key)) [] [] buffer
