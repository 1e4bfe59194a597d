-- Laws of `specs/Settlement.antt`: a writer's call by what the writer answers, byte for byte; for the book.
-- Assumes nothing.
use Prim.Native.Nat.{ℕ, ◌≤◌, ◌<◌}
use mathlib.Core.Path.{◌≡◌, refl}
use mathlib.Core.List.{List, [], ◌∷◌, ◌++◌}
use Rattle.std.specs.Prelude.{Result, Ok, Err}
use lib.ListN.{length}
use lib.Seq.{sets}
use Rattle.fiber_bytes.specs.Bytes.{le_bytes, numbers}
use Rattle.fiber_bytes.proofs.BytesLaws.{numbers_one}
use Rattle.fiber_refusal.specs.declared.Refusal.{Refusal}
use Rattle.fiber_refusal.specs.Rows.{number_of, place_of}
use Rattle.fiber_types.specs.Records.{Outcome}
use Rattle.fiber_witness.specs.Update.{updated}
use Rattle.c_answer.specs.Answers.{Leaves}
use Rattle.c_answer.proofs.AnswersLaws.{refused_by, fields_by, call_short, call_by}
use Rattle.settlement_c.specs.Settlement.{OutCall, written_answer, written_call, update_call}

-- a call is what it leaves
pub called : {c : OutCall} {r : ℕ} {out buffer : List ℕ} → Leaves c r out buffer → c ≡ record { status = r; out = out; answer = buffer }
called e = e

-- an update is called as a writer is
pub update_written : (h : ℕ) (w out answer : List ℕ) → update_call h w out answer ≡ written_call (updated h w out) out answer
unfolding update_call
update_written h w out answer = refl

module _ (w : Outcome (Result ℕ Refusal)) (out answer : List ℕ) where
  pub written_short : length answer < 24 → Leaves (written_call w out answer) 14 out answer
  unfolding written_call
  written_short f = call_short 24 (written_answer w.answer) w.bytes out answer f

  module _ (f : 24 ≤ length answer) (o : List ℕ) (e : o ≡ w.bytes) where
    pub written_refused : (r : Refusal) → Err r ≡ w.answer → (a : List ℕ) → a ≡ sets answer 0 (le_bytes 8 (number_of r) ++ le_bytes 8 (place_of r))
        → Leaves (written_call w out answer) (number_of r) o a
    unfolding written_call written_answer
    written_refused r g a s =
        call_by 24 written_answer w.answer w.bytes out answer f (Err r) g (refused_by (number_of r) (place_of r) answer s) e

    pub written_bytes : (len : ℕ) → Ok len ≡ w.answer → (a : List ℕ) → a ≡ sets answer 0 ((le_bytes 8 0 ++ le_bytes 8 0) ++ le_bytes 8 len)
        → Leaves (written_call w out answer) 0 o a
    unfolding written_call written_answer
    written_bytes len g a s =
        call_by 24 written_answer w.answer w.bytes out answer f (Ok len) g (fields_by (numbers (len ∷ [])) answer (rw numbers_one s)) e
