-- The choice of an unlock, one operation for a first and a later settlement; docs/SCOPE.md, "The choice" and the order of the rows.
use Rattle.std.specs.Prelude.{ℕ, Bool, cond, List, Result, Ok, Err}
use Rattle.fiber_bytes.specs.Bytes.{part}
use Rattle.fiber_since.specs.declared.epoch.Epoch.{Epoch}
use Rattle.fiber_refusal.specs.declared.Refusal.{Refusal}
use Rattle.fiber_refusal.specs.declared.Refusal.TheVariants.{NotWell}
use Rattle.fiber_choice.specs.Answered.{Answer, refused}
use Rattle.fiber_choice.specs.Request.{Request, valid_request, delay_of}
use Rattle.fiber_types.specs.Records.{Outcome, unwritten}
use Rattle.fiber_choice.specs.Settlements.{later, first}

unfoldable pub after_delay : Request → Bool → List ℕ → List ℕ → Result Epoch Refusal → Outcome Answer
after_delay q is_later w out (Ok full) = cond is_later (later q w out) (first q full out)
after_delay q is_later w out (Err r) = unwritten (refused r) out

-- 14, 10, 11, then reading and the rest of the rows in their order, 13 last
unfoldable pub choice_of : Request → Bool → List ℕ → List ℕ → Outcome Answer
choice_of q is_later w out = cond (valid_request q) (after_delay q is_later w out (delay_of q.args)) (unwritten (refused NotWell) out)

-- a record, as a part of the witness or of the tracked list
unfoldable pub record_part : Bool → ℕ → ℕ → List ℕ → List ℕ → List ℕ
record_part is_later place len w tracked = part (cond is_later w tracked) place len

-- the record of the TLC that was chosen; the empty part for a share, a wait or a refusal
unfoldable pub record_of : Bool → Answer → List ℕ → List ℕ → List ℕ
record_of is_later (Ok d) w tracked = record_part is_later d.place d.len w tracked
record_of is_later (Err why) w tracked = record_part is_later 0 0 w tracked
