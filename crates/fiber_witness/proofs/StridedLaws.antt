-- Laws of `specs/inner/Strided.antt`: the records of a witness are an instance, and writing a state from such records.
-- Assumes nothing.
use Prim.Native.Nat.{ℕ, zero, suc, ◌+◌, ◌-◌, ◌*◌, ◌≤◌, ◌<◌}
use native.Mathlib.Nat.{sub-zero, suc-mul}
use native.Mathlib.Numerals.{add-one}
use native.Mathlib.Omega.{arith}
use mathlib.Core.Path.{◌≡◌, refl, sym, ap, ◌∙◌}
use mathlib.Core.Bool.{Bool, true, false, cond}
use mathlib.Core.List.{List, [], ◌∷◌, ◌++◌, append_assoc, flatten}
use lib.ListN.{length, get_or, take, drop, set, length-append, length-drop}
use lib.Seq.{sets, length-sets, drop-cons, drop-drop}
use Rattle.fiber_bytes.specs.Bytes.{part}
use Rattle.fiber_bytes.proofs.BytesLaws.{part_length, sets_append, sets_then, one_less}
use Rattle.fiber_witness.specs.Witness.{record_len, chunks, state_bytes}
use Rattle.fiber_witness.specs.Update.{keep, standing}
use Rattle.std.specs.Prelude.{Some, None, count_by, not}
use Rattle.fiber_witness.specs.inner.Marks.{Marks, marked, listed}
use Rattle.fiber_witness.specs.inner.Strided.{strided, unmarked}
use Rattle.fiber_witness.proofs.UpdateLaws.{sets_part, part_between, marked_lem, keep_behind, marks_set, keep_few, counted_standing}

-- ---- the records

-- none, and one more
pub strided_none : (size stride : ℕ) (s : List ℕ) (from : ℕ) → strided size stride zero s from ≡ []
unfolding strided
strided_none size stride s from = refl

pub strided_more : (size stride m : ℕ) (s : List ℕ) (from : ℕ) → strided size stride (suc m) s from ≡ part s from size ∷ strided size stride m s (from + stride)
unfolding strided
strided_more size stride m s from = refl

-- m records are m
pub strided_length : (size stride m : ℕ) (s : List ℕ) (from : ℕ) → length (strided size stride m s from) ≡ m
unfolding strided
strided_length size stride zero s from = refl
strided_length size stride (suc m) s from = ap suc (strided_length size stride m s (from + stride))

-- those that follow one another, as in a witness
strided_records : (size m : ℕ) (s : List ℕ) (from : ℕ) → strided size size m s from ≡ chunks size m (drop from s)
unfolding strided chunks
strided_records size zero s from = refl
strided_records size (suc m) s from =
    ap (λ (rs : List (List ℕ)). part s from size ∷ rs) (strided_records size m s (from + size) ∙ ap (chunks size m) (sym (drop-drop size from s)))

-- Of none, none stands; one that is marked is passed, and another is the first that stands.
module _ (h : ℕ) (s : List ℕ) (from stride : ℕ) (marks : List Bool) where
  pub unmarked_none : length marks ≡ 0 → unmarked h s from stride (length marks) marks ≡ []
  unfolding unmarked keep strided
  unmarked_none e = rw e

  module _ (b : Bool) (bs : List Bool) (e : marks ≡ b ∷ bs) where
    abbrev next : List (List ℕ)
    next = unmarked h s (from + stride) stride (length bs) bs

    unmarked_cons : unmarked h s from stride (length marks) marks ≡ cond b next (part s from (record_len h) ∷ next)
    unfolding unmarked keep strided
    unmarked_cons = rw (e, sym (marked_lem (b ∷ bs) 0), keep_behind b bs 0 (strided (record_len h) stride (length bs) s (from + stride)))

    pub unmarked_gone : b ≡ true → next ≡ unmarked h s from stride (length marks) marks
    unmarked_gone f = sym (rw f at unmarked_cons)

    pub unmarked_kept : b ≡ false → unmarked h s from stride (length marks) marks ≡ part s from (record_len h) ∷ next
    unmarked_kept f = rw f at unmarked_cons

-- the TLCs of a witness that are not marked are those that stand
pub unmarked_standing : (h : ℕ) (w : List ℕ) (n : ℕ) (marks : List Bool) → unmarked h w 2 (record_len h) n marks ≡ standing h w n (marked marks)
unfolding unmarked standing
unmarked_standing h w n marks = ap (keep (marked marks) 0) (strided_records (record_len h) n w 2)

module _ (h : ℕ) (s : List ℕ) (from stride n : ℕ) (marks : List Bool) where
  -- no more than n are not marked
  pub unmarked_few : length (unmarked h s from stride n marks) ≤ n
  unfolding unmarked
  unmarked_few = omega (arith, keep_few (marked marks) (strided (record_len h) stride n s from) 0, strided_length (record_len h) stride n s from)

-- and the count of the marks that are not set is theirs
pub unmarked_count : (h : ℕ) (s : List ℕ) (from stride : ℕ) (marks : List Bool) → count_by not marks ≡ length (unmarked h s from stride (length marks) marks)
unfolding unmarked
unmarked_count h s from stride marks = counted_standing marks (strided (record_len h) stride (length marks) s from) (strided_length (record_len h) stride (length marks) s from)

-- one mark alone, and none
pub marks_one : (marks : List Bool) (place : ℕ) → Marks marks [] → Marks (set marks place true) (listed (Some place))
unfolding listed
marks_one marks place m = marks_set marks [] place m

pub marks_listed : (marks : List Bool) → Marks marks [] → Marks marks (listed None)
unfolding listed
marks_listed marks m = m

-- ---- writing records, one behind the other

-- The loop that writes them from byte 1 on: to write those that are left, from here, gives what the whole gives.
pub record Writing (whole out₀ : List ℕ) (rs : List (List ℕ)) (out : List ℕ) (at : ℕ) : Type 0 where
  pub same : length out ≡ length out₀
  pub ends : at + length (flatten rs) ≡ 1 + length whole
  pub writes : sets out at (flatten rs) ≡ sets out₀ 1 whole

-- before the first, all are left
pub writing_start : (rs : List (List ℕ)) (out : List ℕ) → Writing (flatten rs) out rs out 1
writing_start rs out = record { same = refl; ends = refl; writes = refl }

module _ {whole out₀ : List ℕ} {rs : List (List ℕ)} {out : List ℕ} {at : ℕ} (c : Writing whole out₀ rs out at) where
  -- where none is left, all are written
  pub writing_end : rs ≡ [] → (at ≡ 1 + length whole) × (out ≡ sets out₀ 1 whole)
  unfolding flatten
  writing_end e = (omega (arith, rw e at c.ends), rw e at c.writes)

  module _ {r : List ℕ} {next : List (List ℕ)} (e : rs ≡ r ∷ next) where
    more : at + length r + length (flatten next) ≡ 1 + length whole
    unfolding flatten
    more = omega (arith, length-append r (flatten next), rw e at c.ends)

    -- there is room for another
    pub writing_room : at + length r ≤ 1 + length whole
    writing_room = omega (arith, more)

    -- it is written, by a callee that is lent the output from its place on, and those that are left go behind it
    pub writing_next : at ≤ length out → (ys : List ℕ) → ys ≡ sets (take (length out - at) (drop at out)) 0 r
        → Writing whole out₀ next (take at out ++ (ys ++ drop (length out - at) (drop at out))) (at + length r)
    unfolding flatten
    writing_next f ys d =
        let all = sets_part out at r ys f d in
        record {
          same = ap length all ∙ length-sets out at r ∙ c.same;
          ends = more;
          writes = ap (λ (o : List ℕ). sets o (at + length r) (flatten next)) all ∙ sym (sets_append r (flatten next) out at) ∙ rw e at c.writes;
        }

-- the loop that writes those of a list that stand, at the mark of place i
module _ (h : ℕ) (s : List ℕ) (stride : ℕ) (marks : List Bool) where
  pub record Putting (whole out₀ out : List ℕ) (from at i : ℕ) : Type 0 where
    pub low : i ≤ length marks
    pub room : from + (length marks - i) * stride + record_len h ≤ length s + stride
    pub writing : Writing whole out₀ (unmarked h s from stride (length (drop i marks)) (drop i marks)) out at

  pub putting_start : (from : ℕ) (out : List ℕ) → from + length marks * stride + record_len h ≤ length s + stride
      → Putting (flatten (unmarked h s from stride (length marks) marks)) out out from 1 0
  putting_start from out g = record { low = omega arith; room = rw sub-zero g; writing = writing_start (unmarked h s from stride (length marks) marks) out }

  module _ {whole out₀ out : List ℕ} {from at i : ℕ} (c : Putting whole out₀ out from at i) where
    pub putting_end : length marks ≤ i → (at ≡ 1 + length whole) × (out ≡ sets out₀ 1 whole)
    putting_end g = writing_end c.writing (unmarked_none h s from stride (drop i marks) (omega (arith, length-drop i marks)))

    module _ (g : i < length marks) where
      room_next : from + stride + (length marks - (i + 1)) * stride + record_len h ≤ length s + stride
      room_next = omega (arith, c.room, ap (λ (m : ℕ). m * stride) (one_less (length marks) i g), suc-mul (length marks - (i + 1)) stride)

      marks_cons : drop i marks ≡ get_or marks i false ∷ drop (i + 1) marks
      marks_cons = rw add-one (drop-cons marks i false g)

      -- a record that is marked is passed
      pub putting_gone : get_or marks i false ≡ true → Putting whole out₀ out (from + stride) at (i + 1)
      putting_gone m = record { low = omega arith; room = room_next; writing = rw (unmarked_gone h s from stride (drop i marks) _ _ marks_cons m) c.writing }

      -- another is written
      pub putting_kept : get_or marks i false ≡ false → (size : ℕ) → size ≡ record_len h → at ≤ length out
          → (ys : List ℕ) → ys ≡ sets (take (length out - at) (drop at out)) 0 (take (from + size - from) (drop from s))
          → Putting whole out₀ (take at out ++ (ys ++ drop (length out - at) (drop at out))) (from + stride) (at + size) (i + 1)
      putting_kept m size e f ys d =
          let n : length (part s from (record_len h)) ≡ record_len h = part_length s from (record_len h) (omega (arith, room_next)) in
          let p : take (from + size - from) (drop from s) ≡ part s from (record_len h) = part_between s from size ∙ ap (part s from) e in
          rw e
          (record {
            low = omega arith;
            room = room_next;
            writing = rw n at (writing_next c.writing (unmarked_kept h s from stride (drop i marks) _ _ marks_cons m) f ys (rw p at d));
          })

-- ---- a state

module _ (rs : List (List ℕ)) (remote local : List ℕ) (e : length remote ≡ 36) (f : length local ≡ 36) where
  -- the four writes of a state are one
  pub state_puts : (k at : ℕ) (out o₁ o₂ o₃ : List ℕ) → k ≡ length rs → at ≡ 1 + length (flatten rs)
      → o₁ ≡ sets (set out 0 k) 1 (flatten rs)
      → o₂ ≡ sets o₁ at remote
      → o₃ ≡ sets o₂ (at + 36) local
      → o₃ ≡ sets out 0 (state_bytes rs remote local)
  unfolding state_bytes
  state_puts k at out o₁ o₂ o₃ ek ea e₁ e₂ e₃ =
      let F : List ℕ = k ∷ flatten rs in
      let a : at ≡ length F = omega arith in
      let b : at + 36 ≡ length (F ++ remote) = omega (arith, length-append F remote) in
      sets_then out (F ++ remote) local (at + 36) (sets_then out F remote at e₁ e₂ a) e₃ b
      ∙ ap (sets out 0) (append_assoc F remote local)
      ∙ ap (λ (j : ℕ). sets out 0 (j ∷ (flatten rs ++ (remote ++ local)))) ek
