-- Laws for the loops over a chain of 62 bytes each: how many entries it has, and their bytes.
-- Assumes nothing.
use Prim.Native.Nat.{ℕ, suc, ◌+◌, ◌-◌, ◌*◌, ◌≤◌, ◌<◌}
use native.Mathlib.Omega.{arith}
use mathlib.Core.Path.{◌≡◌, refl, sym, ap, ◌∙◌}
use mathlib.Core.Bool.{true, false}
use mathlib.Core.List.{List, ◌++◌}
use mathlib.Core.Logic.{⊎_elim, inl, inr}
use lib.ListN.{length, length-append, take, drop, length-take, length-drop, take-append-drop}
use Rattle.std.specs.Prelude.{◌&&◌, ◌⊎◌, eqb, Result, Ok, Err}
use Rattle.std.proofs.lemmas.Bool.{eq-eqb, ne_eqb, eqb-true, cases_lt, cases_eq, and_parts, and_right}
use Rattle.journal.specs.Chain.{pointer_of, own_length, points_back, is_right, newer, back, Right}
use Rattle.journal.specs.Journal.{is_entry_len, entries_of}
use Rattle.journal.specs.declared.refusal.JournalRefusal.{JournalRefusal}
use Rattle.journal.specs.declared.refusal.JournalRefusal.TheVariants.{Broken}
use Rattle.journal.specs.inner.Counted.{counted}
use Rattle.journal.proofs.ChainLaws.{pointer_behind, own_behind, back_none, back_right, back_wrong, points_parts, chain_back, chain_short}

-- a pointer is right: the entry before has 62 bytes, or there is none
points_62 : (start pointer : ℕ) → points_back is_entry_len start pointer ≡ true → (start ≡ 0) ⊎ ((start - pointer ≡ 62) × (62 ≤ start))
points_62 start pointer p = ⊎_elim some (λ h. inl (omega arith)) (cases_lt 0 start)
  where
    some : 0 < start → (start ≡ 0) ⊎ ((start - pointer ≡ 62) × (62 ≤ start))
    some h =
        let d = eqb-true (start - pointer) 62 (points_parts is_entry_len start pointer p h).1 in
        inr (d, omega (arith, d))

-- ---- the entry at the end

module _ (journal older entry : List ℕ) (h : 62 ≤ length journal) (o : older ≡ take (length journal - 62) journal) (e : entry ≡ drop (length journal - 62) journal) where
  pub joined : journal ≡ older ++ entry
  joined = rw (o, e) (sym (take-append-drop (length journal - 62) journal))

  older_length : length older ≡ length journal - 62
  older_length = rw o (omega (arith, length-take (length journal - 62) journal))

  pub entry_length : length entry ≡ 62
  entry_length = rw e (omega (arith, length-drop (length journal - 62) journal))

  -- right: it says 62, and points back
  module _ (s : own_length entry ≡ 62) (p : points_back is_entry_len (length older) (pointer_of entry) ≡ true) where
    right : Right is_entry_len is_entry_len older entry
    right = record { room = omega (arith, entry_length); fit = eq-eqb _ _ entry_length; says = s ∙ sym entry_length; points = p }

    split : (length older ≡ 0) ⊎ ((length older - pointer_of entry ≡ 62) × (62 ≤ length older))
    split = points_62 (length older) (pointer_of entry) p

    -- what is left is whole
    pub older_whole : (length older ≡ 0) ⊎ (62 ≤ length older)
    older_whole = ⊎_elim (λ z. inl z) (λ b. inr b.1) split

    -- the older ones may have 62 bytes as well, and no other length
    older_same : (fuel : ℕ) → back is_entry_len fuel (λ n. eqb n (length older - pointer_of entry)) older ≡ back is_entry_len fuel is_entry_len older
    older_same fuel = ⊎_elim
        (λ z. back_none is_entry_len fuel (λ n. eqb n (length older - pointer_of entry)) older z ∙ sym (back_none is_entry_len fuel is_entry_len older z))
        (λ b. ap (λ (k : ℕ). back is_entry_len fuel (λ n. eqb n k) older) b.0)
        split

    pub back_one : (fuel : ℕ) → back is_entry_len (suc fuel) is_entry_len journal ≡ newer entry (back is_entry_len fuel is_entry_len older)
    back_one fuel =
        ap (back is_entry_len (suc fuel) is_entry_len) joined
        ∙ back_right is_entry_len is_entry_len older entry right fuel
        ∙ ap (newer entry) (older_same fuel)

  -- wrong
  module _ (w : (eqb (own_length entry) 62 && points_back is_entry_len (length older) (pointer_of entry)) ≡ false) where
    not_right : is_right is_entry_len is_entry_len journal ≡ false
    unfolding is_right
    not_right =
        let n = entry_length in
        rw (joined, own_behind older entry (omega (arith, n)), pointer_behind older entry (omega (arith, n)))
        (⊎_elim
        (λ (d : own_length entry ≡ 62).
        let l : length (older ++ entry) - 62 ≡ length older = omega (arith, length-append older entry, n) in
        let p : points_back is_entry_len (length older) (pointer_of entry) ≡ false = rw d at w in
        rw (d, l, p) (and_right _ _ refl))
        (λ (d : own_length entry ≡ 62 → ⊥). rw (ne_eqb (own_length entry) 62 d) refl)
        (cases_eq (own_length entry) 62))

    pub back_broken : (fuel : ℕ) → back is_entry_len (suc fuel) is_entry_len journal ≡ Err (length older + 50)
    back_broken fuel =
        let e : length journal - 12 ≡ length older + 50 = omega (arith, older_length) in
        back_wrong is_entry_len fuel is_entry_len journal (omega arith) not_right ∙ ap Err e

-- ---- how many entries

-- so many more
unfoldable pub plus : ℕ → Result ℕ JournalRefusal → Result ℕ JournalRefusal
plus k (Ok n) = Ok (k + n)
plus k (Err r) = Err r

plus_newer : (k : ℕ) (entry : List ℕ) (r : Result (List (List ℕ)) ℕ) → plus k (counted (newer entry r)) ≡ plus (k + 1) (counted r)
unfolding plus counted newer
plus_newer k entry (Ok older) = ap Ok (omega arith)
plus_newer k entry (Err place) = refl

plus_none : (r : Result ℕ JournalRefusal) → plus 0 r ≡ r
unfolding plus
plus_none (Ok n) = let e : 0 + n ≡ n = omega arith in ap Ok e
plus_none (Err r) = refl

pub entries_short : (journal : List ℕ) → 0 < length journal → length journal < 62 → Err (Broken 0) ≡ counted (entries_of journal)
unfolding entries_of counted
entries_short journal h g = sym (ap counted (chain_short is_entry_len 62 journal h g))

-- some entries are passed, and a rest is left
pub record Counting (journal rest : List ℕ) (count : ℕ) : Type 0 where
  pub size : length rest + 62 * count ≡ length journal
  pub whole : (length rest ≡ 0) ⊎ (62 ≤ length rest)
  pub same : plus count (counted (back is_entry_len (length journal - count) is_entry_len rest)) ≡ counted (entries_of journal)

pub counting_start : (journal : List ℕ) → (length journal ≡ 0) ⊎ (62 ≤ length journal) → Counting journal journal 0
unfolding entries_of
counting_start journal w =
    let s : length journal - 0 ≡ length journal = omega arith in
    record {
      size = omega arith;
      whole = w;
      same = rw s (plus_none (counted (back is_entry_len (length journal) is_entry_len journal)) ∙ sym (ap counted (chain_back is_entry_len 62 journal w)));
    }

module _ (journal rest : List ℕ) (count : ℕ) (c : Counting journal rest count) where
  pub counting_end : length rest < 62 → Ok count ≡ counted (entries_of journal)
  unfolding plus counted
  counting_end h =
      let z : length rest ≡ 0 = ⊎_elim (λ z. z) (λ g. absurd (omega (arith, g))) c.whole in
      sym (sym c.same ∙ rw (back_none is_entry_len (length journal - count) is_entry_len rest z) (ap Ok (omega arith)))

  module _ (older entry : List ℕ) (h : 62 ≤ length rest) (o : older ≡ take (length rest - 62) rest) (e : entry ≡ drop (length rest - 62) rest) where
    fuel : length journal - count ≡ suc (length journal - (count + 1))
    fuel = omega (arith, c.size)

    pub counting_one : (eqb (own_length entry) 62 && points_back is_entry_len (length older) (pointer_of entry)) ≡ true → Counting journal older (count + 1)
    counting_one t =
        let both = and_parts (eqb (own_length entry) 62) (points_back is_entry_len (length older) (pointer_of entry)) t in
        let s = eqb-true (own_length entry) 62 both.0 in
        record {
          size = omega (arith, c.size, older_length rest older entry h o e);
          whole = older_whole rest older entry h o e s both.1;
          same =
              sym (plus_newer count entry (back is_entry_len (length journal - (count + 1)) is_entry_len older))
              ∙ ap (λ r. plus count (counted r)) (sym (back_one rest older entry h o e s both.1 (length journal - (count + 1))) ∙ ap (λ (f : ℕ). back is_entry_len f is_entry_len rest) (sym fuel))
              ∙ c.same;
        }

    pub counting_broken : (eqb (own_length entry) 62 && points_back is_entry_len (length older) (pointer_of entry)) ≡ false
        → Err (Broken (length older + 50)) ≡ counted (entries_of journal)
    unfolding plus counted
    counting_broken w =
        sym (sym c.same
        ∙ ap (λ (f : ℕ). plus count (counted (back is_entry_len f is_entry_len rest))) fuel
        ∙ rw (back_broken rest older entry h o e w (length journal - (count + 1))) refl)
