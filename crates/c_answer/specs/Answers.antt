-- Answers over the C interface, and what a call leaves. An answer buffer holds a front, number 8 and place 8, then the operation's fields,
-- little-endian. The return value is the number, 0 for success.
use Rattle.std.specs.Prelude.{ℕ, ◌≡◌, Bool, cond, List, ◌++◌, length, leb, ltb}
use Rattle.std.proofs.lemmas.List.Edits.{sets}
use Rattle.fiber_bytes.specs.Bytes.{le_bytes}

-- an operation's answer: a row of document 01's table, by number and place, or its fields
pub data Answer : Type 0 where
  row : ℕ → ℕ → Answer
  fields : List ℕ → Answer

-- what a call leaves: the return value, the output, the answer buffer
pub record OutCall : Type 0 where
  pub status : ℕ
  pub out : List ℕ
  pub answer : List ℕ

-- an answer given, beside an output
unfoldable pub answered : Answer → List ℕ → List ℕ → OutCall
answered (row number place) out buffer = record { status = number; out = out; answer = sets buffer 0 (le_bytes 8 number ++ le_bytes 8 place) }
answered (fields bytes) out buffer = record { status = 0; out = out; answer = sets buffer 0 ((le_bytes 8 0 ++ le_bytes 8 0) ++ bytes) }

-- A call of an operation that makes `written` of the output; one without an output has empty lists there. A buffer shorter than the answer
-- is 14, by the return value alone, before anything is looked at.
unfoldable pub call : ℕ → Answer → List ℕ → List ℕ → List ℕ → OutCall
call size a written out buffer = cond (ltb (length buffer) size) (record { status = 14; out = out; answer = buffer }) (answered a written buffer)

-- a call leaves this return value, this output and this answer buffer
abbrev pub Leaves : OutCall → ℕ → List ℕ → List ℕ → Type 0
Leaves c r out buffer = c ≡ record { status = r; out = out; answer = buffer }

-- ---- flags

-- a flag is 0 or 1
unfoldable pub is_flag : ℕ → Bool
is_flag flag = leb flag 1

-- a call with flags: where one is no flag, 14 at 0, behind the test of the buffer
unfoldable pub flag_call : Bool → ℕ → Answer → List ℕ → List ℕ → List ℕ → OutCall
flag_call are_flags size a written out buffer = cond are_flags (call size a written out buffer) (call size (row 14 0) out out buffer)
