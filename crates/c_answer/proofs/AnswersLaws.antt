-- Laws of `specs/Answers.antt`: numbers one behind the other, and a call by its answer.
-- Assumes nothing.
use Prim.Native.Nat.{ℕ, ◌≤◌, ◌<◌}
use native.Mathlib.Omega.{arith}
use mathlib.Core.Path.{◌≡◌, refl, sym}
use mathlib.Core.List.{List, [], ◌∷◌, ◌++◌, append-nil, flat_map}
use lib.ListN.{length, length-append}
use lib.Seq.{sets}
use borrow.Author.Tests.{lt-ltb, le-ltb}
use Rattle.fiber_bytes.specs.Bytes.{le_bytes, numbers}
use Rattle.fiber_bytes.proofs.BytesLaws.{le_bytes_length, sets_then}
use Rattle.c_answer.specs.Answers.{Answer, row, fields, answered, call, Leaves}

-- ---- one number behind the other

pub pair_length : (a b : ℕ) → length (le_bytes 8 a ++ le_bytes 8 b) ≡ 16
pair_length a b = omega (arith, length-append (le_bytes 8 a) (le_bytes 8 b), le_bytes_length 8 a, le_bytes_length 8 b)

pub front_is : (number place : ℕ) → numbers (number ∷ place ∷ []) ≡ le_bytes 8 number ++ le_bytes 8 place
unfolding flat_map
front_is number place = rw append-nil

-- fields right behind the front
pub behind : (o bytes : List ℕ) {o₁ o₂ : List ℕ} → o₁ ≡ sets o 0 (le_bytes 8 0 ++ le_bytes 8 0) → o₂ ≡ sets o₁ 16 bytes
    → o₂ ≡ sets o 0 ((le_bytes 8 0 ++ le_bytes 8 0) ++ bytes)
behind o bytes e f = sets_then o (le_bytes 8 0 ++ le_bytes 8 0) bytes 16 e f (sym (pair_length 0 0))

-- ---- an answer given

pub refused_by : (number place : ℕ) (buffer : List ℕ) {b : List ℕ} → b ≡ sets buffer 0 (le_bytes 8 number ++ le_bytes 8 place)
    → Leaves (answered (row number place) [] buffer) number [] b
unfolding answered
refused_by number place buffer e = rw e

pub fields_by : (bytes buffer : List ℕ) {b : List ℕ} → b ≡ sets buffer 0 ((le_bytes 8 0 ++ le_bytes 8 0) ++ bytes) → Leaves (answered (fields bytes) [] buffer) 0 [] b
unfolding answered
fields_by bytes buffer e = rw e

-- an output beside it changes nothing else
pub answered_out : (a : Answer) (out buffer : List ℕ) → answered a out buffer ≡ record { status = (answered a [] buffer).status; out = out; answer = (answered a [] buffer).answer }
unfolding answered
answered_out (row number place) out buffer = refl
answered_out (fields bytes) out buffer = refl

-- ---- a call

pub call_short : (size : ℕ) (a : Answer) (written out buffer : List ℕ) → length buffer < size → Leaves (call size a written out buffer) 14 out buffer
unfolding call
call_short size a written out buffer h = rw (lt-ltb (length buffer) size h)

-- the operation came to x, its answer was given, and the output is the operation's
pub call_by : {X : Type 0} (size : ℕ) (answer : X → Answer) (x : X) (written out buffer : List ℕ) → size ≤ length buffer → (y : X) → y ≡ x
    → {r : ℕ} {o b : List ℕ} → Leaves (answered (answer y) [] buffer) r [] b → o ≡ written → Leaves (call size (answer x) written out buffer) r o b
unfolding call
call_by size answer x written out buffer h y e g f = rw (le-ltb (length buffer) size h, ← e, answered_out (answer y) written buffer, g, f)
