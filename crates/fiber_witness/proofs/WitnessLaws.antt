-- Laws of `specs/Witness.antt`: each case of a definition from the facts that pick it, and what a witness that is read whole has.
-- Assumes nothing.
use Prim.Native.Nat.{ℕ, zero, suc, ◌+◌, ◌-◌, ◌*◌, ◌/◌, ◌≤◌, ◌<◌}
use native.Mathlib.Nat.{add-zero, zero-add, zero-mul, suc-mul, mul-le-mul, mul-le-mul_right, div-mul-le_self, lt-div-mul-add}
use native.Mathlib.Omega.{arith}
use mathlib.Core.Path.{◌≡◌, refl, sym, ap, subst, ◌∙◌}
use mathlib.Core.Bool.{true, false, cond, ◌||◌}
use mathlib.Core.List.{List, [], ◌∷◌, ◌++◌, append_assoc, flatten}
use mathlib.Core.Logic.{⊎_elim}
use lib.Dec.{ltb, leb, eqb}
use lib.ListN.{length, get_or, take, drop, length-append, length-drop, take-append-drop}
use lib.Seq.{drop-drop, take_at, drop_at}
use borrow.Author.Tests.{lt-ltb, le-ltb, le-leb, lt-leb, leb-true}
use Rattle.fiber_bytes.proofs.BytesLaws.{part_length}
use Rattle.fiber_bytes.proofs.CaseLaws.{by_test, by_test₂}
use Rattle.fiber_types.specs.declared.unlock.Unlock.{Unlock}
use Rattle.std.proofs.lemmas.Bool.{cases_lt}
use Rattle.std.specs.Prelude.{Result, Ok, Err}
use Rattle.fiber_refusal.specs.declared.Refusal.{Refusal}
use Rattle.fiber_refusal.specs.declared.Refusal.TheVariants.{WitnessShort, TlcCut, SharesCut, NotWell}
use Rattle.fiber_types.specs.HashLen.{valid_hash_len}
use Rattle.fiber_types.specs.Records.{witness_len, read_unlock}
use Rattle.fiber_types.proofs.RecordsLaws.{hash_len_small, at_least}
use Rattle.fiber_types.proofs.RoundTrips.{unlock_read, unlock_refused}
use Rattle.fiber_witness.specs.declared.witness.WitnessLayout.{WitnessLayout}
use Rattle.fiber_witness.specs.Witness.{record_len, unlock_len, chunks, state_bytes, member, places_within, places, unless_cut, read_unlocks, read_shares, read_tlcs, read_witness, whole, cut_at}
use Rattle.fiber_witness.specs.inner.Strided.{behind_tlcs}

-- ---- the places of the unlocks

-- an unlock has at least 67 bytes
pub unlock_long : (w : List ℕ) (at : ℕ) → 67 ≤ unlock_len w at
unlock_long w at = at_least (eqb (get_or w (at + 1) 0) 1)

-- fuel beyond what is left of the witness changes nothing
within : (f g : ℕ) (w : List ℕ) (at : ℕ) → length w ≤ at + f → length w ≤ at + g → places_within f w at ≡ places_within g w at
unfolding places_within
within zero zero w at h k = refl
within zero (suc g) w at h k = simp (le-ltb at (length w) (omega arith))
within (suc f) zero w at h k = simp (le-ltb at (length w) (omega arith))
within (suc f) (suc g) w at h k =
    ap (λ (ps : List ℕ). cond (ltb at (length w)) (at ∷ ps) [])
    (within f g w (at + unlock_len w at) (omega (arith, unlock_long w at)) (omega (arith, unlock_long w at)))

module _ (w : List ℕ) (at : ℕ) where
  -- at the end there is no unlock
  pub places_nil : length w ≤ at → places w at ≡ []
  unfolding places places_within
  places_nil h = go (length w)
    where
      go : (f : ℕ) → places_within f w at ≡ []
      go zero = refl
      go (suc f) = simp (le-ltb _ _ h)

  -- before it, one and those behind it
  pub places_cons : at < length w → places w at ≡ at ∷ places w (at + unlock_len w at)
  unfolding places places_within
  places_cons h = go (length w) refl
    where
      go : (f : ℕ) → length w ≡ f → places_within f w at ≡ at ∷ places_within f w (at + unlock_len w at)
      go zero e = absurd (omega arith)
      go (suc f) e = (simp (lt-ltb _ _ h)) ∙ ap (λ (ps : List ℕ). at ∷ ps) (within f (suc f) w (at + unlock_len w at) (omega (arith, unlock_long w at)) (omega arith))

-- ---- places

-- no place is among none
pub member_none : (i : ℕ) → member i [] ≡ false
unfolding member
member_none i = refl

-- it is the first place, or among the others
pub member_more : (i p : ℕ) (ps : List ℕ) → member i (p ∷ ps) ≡ (eqb i p || member i ps)
unfolding member
member_more i p ps = refl

-- ---- reading the unlocks

-- no unlock is left, the first is whole, or it is cut short
module _ {A : Type 0} (w : List ℕ) (cut : ℕ → A) (whole : A) where
  pub cut_none : unless_cut w [] cut whole ≡ whole
  unfolding unless_cut
  cut_none = refl

  pub cut_passed : (p : ℕ) (ps : List ℕ) → p + unlock_len w p ≤ length w → unless_cut w (p ∷ ps) cut whole ≡ unless_cut w ps cut whole
  unfolding unless_cut
  cut_passed p ps h = rw (le-leb (p + unlock_len w p) (length w) h)

  pub cut_short : (p : ℕ) (ps : List ℕ) → length w < p + unlock_len w p → unless_cut w (p ∷ ps) cut whole ≡ cut p
  unfolding unless_cut
  cut_short p ps h = rw (lt-leb (p + unlock_len w p) (length w) h)

-- a claim of two things that go by the same unlocks holds where it holds of each that may be cut short, and of the whole
pub by_cut : {A B : Type 0} (P : A → B → Type 0) (w ps : List ℕ) (c : ℕ → A) (c' : ℕ → B) (x : A) (x' : B)
    → ((p : ℕ) → P (c p) (c' p)) → P x x' → P (unless_cut w ps c x) (unless_cut w ps c' x')
unfolding unless_cut
by_cut P w [] c c' x x' f g = g
by_cut P w (p ∷ ps) c c' x x' f g =
    let r = by_cut P w ps c c' x x' f g in
    by_test₂ P (leb (p + unlock_len w p) (length w)) _ _ _ _ (λ _. r) (λ _. f p)

-- an unlock that is read has the length that the reader says, and ends within the witness
pub unlock_whole : (w : List ℕ) (at : ℕ) (u : Unlock) (len : ℕ) → read_unlock w at ≡ Ok u → len ≡ witness_len u.flag
    → (len ≡ unlock_len w at) × (at + unlock_len w at ≤ length w)
unlock_whole w at u len e g =
    let r = unlock_read w at u e in
    let f : len ≡ unlock_len w at = g ∙ ap (λ (v : Unlock). witness_len v.flag) r.1 in
    (f, omega (arith, r.0))

-- The loop over the unlocks, k before place at: what it finds from here is what the whole finds.
pub record Reading (w : List ℕ) (n share_place at k : ℕ) : Type 0 where
  pub few : k ≤ at
  pub room : at ≤ length w
  pub rest : unless_cut w (places w at) cut_at (whole n (k + length (places w at)) share_place (share_place + 72)) ≡ read_unlocks w n share_place

-- before the first, all of them are left
pub reading_start : (w : List ℕ) (n share_place : ℕ) → share_place + 72 ≤ length w → Reading w n share_place (share_place + 72) 0
unfolding read_unlocks
reading_start w n share_place h = record { few = omega arith; room = h; rest = rw zero-add }

module _ (w : List ℕ) (n share_place at k : ℕ) (c : Reading w n share_place at k) where
  -- at the end none is left
  pub reading_end : length w ≤ at → whole n k share_place (share_place + 72) ≡ read_unlocks w n share_place
  reading_end h = rw (places_nil w at h, cut_none, add-zero) at c.rest

  module _ (h : at < length w) where
    module _ (u : Unlock) (len : ℕ) (e : read_unlock w at ≡ Ok u) (g : len ≡ witness_len u.flag) where
      -- what is left of the witness falls
      pub reading_less : length w - (at + len) < length w - at
      reading_less = omega (arith, at_least u.flag)

      -- an unlock that is whole is passed
      pub reading_more : Reading w n share_place (at + len) (k + 1)
      reading_more =
          let r = unlock_whole w at u len e g in
          let m : k + suc (length (places w (at + unlock_len w at))) ≡ k + 1 + length (places w (at + unlock_len w at)) = omega arith in
          record {
            few = omega (arith, c.few, r.0, unlock_long w at);
            room = omega (arith, r.0, r.1);
            rest = rw r.0 (rw (places_cons w at h, cut_passed w cut_at _ at (places w (at + unlock_len w at)) r.1, m) at c.rest);
          }

    -- one that is not is what the whole finds
    pub reading_cut : (r : Refusal) → read_unlock w at ≡ Err r → Err r ≡ read_unlocks w n share_place
    reading_cut q e =
        let r = unlock_refused w at q e in
        rw r.1 (rw (places_cons w at h, cut_short w cut_at _ at (places w (at + unlock_len w at)) r.0) at c.rest)

-- ---- reading the TLCs and the shares

module _ (h : ℕ) (w : List ℕ) (n : ℕ) where
  -- only q of m records are whole
  pub tlcs_cut : (m at q : ℕ) → q < m → at + q * record_len h ≤ length w → length w < at + q * record_len h + record_len h → Err (TlcCut (at + q * record_len h)) ≡ read_tlcs m h w n at
  unfolding read_tlcs
  tlcs_cut zero at q f g l = absurd (omega arith)
  tlcs_cut (suc m) at zero f g l =
      let z : at + 0 * record_len h ≡ at = omega (arith, zero-mul (record_len h)) in
      rw (lt-leb (at + record_len h) (length w) (omega arith), z)
  tlcs_cut (suc m) at (suc q) f g l =
      let s : at + suc q * record_len h ≡ at + record_len h + q * record_len h = omega (arith, suc-mul q (record_len h)) in
      rw (le-leb (at + record_len h) (length w) (omega arith), s) (tlcs_cut m (at + record_len h) q (omega arith) (omega arith) (omega arith))

  -- all m are whole
  pub tlcs_whole : (m at : ℕ) → at + m * record_len h ≤ length w → read_tlcs m h w n at ≡ read_shares w n (at + m * record_len h)
  unfolding read_tlcs
  tlcs_whole zero at f = ap (read_shares w n) (omega (arith, zero-mul (record_len h)))
  tlcs_whole (suc m) at f =
      let s : at + suc m * record_len h ≡ at + record_len h + m * record_len h = omega (arith, suc-mul m (record_len h)) in
      rw (le-leb (at + record_len h) (length w) (omega arith), s) (tlcs_whole m (at + record_len h) (omega arith))

  -- no share part begins later than this
  pub share_small : n ≤ 255 → h ≤ 32 → n * record_len h ≤ 255 * 97
  share_small f g =
      let s : record_len h ≤ 97 = omega arith in
      mul-le-mul f s

  -- where a division tells how many are whole
  module _ (q : ℕ) (e : q ≡ (length w - 2) / record_len h) (l : 2 ≤ length w) where
    -- those are within the witness
    pub whole_room : 2 + q * record_len h ≤ length w
    whole_room = omega (arith, ap (λ (k : ℕ). k * record_len h) e, div-mul-le_self (length w - 2) (record_len h))

    -- the witness ends before the share part: they are fewer than n
    whole_few : length w < behind_tlcs h n → q < n
    whole_few f = ⊎_elim (λ g. g) (λ g. absurd (omega (arith, whole_room, mul-le-mul_right (record_len h) g))) (cases_lt q n)

    -- and the one behind them is cut short
    pub whole_cut : length w < behind_tlcs h n → Err (TlcCut (2 + q * record_len h)) ≡ read_tlcs n h w n 2
    whole_cut f =
        let p : 0 < record_len h = omega arith in
        tlcs_cut n 2 q (whole_few f) whole_room (omega (arith, ap (λ (k : ℕ). k * record_len h) e, lt-div-mul-add {a = length w - 2} p))

  module _ (f : behind_tlcs h n ≤ length w) where
    -- the share part is cut short
    pub shares_cut : length w < behind_tlcs h n + 72 → Err (SharesCut (behind_tlcs h n)) ≡ read_tlcs n h w n 2
    unfolding read_shares
    shares_cut g = rw (tlcs_whole n 2 f, lt-leb (behind_tlcs h n + 72) (length w) g)

    -- it is whole, and the unlocks follow
    pub shares_whole : behind_tlcs h n + 72 ≤ length w → read_unlocks w n (behind_tlcs h n) ≡ read_tlcs n h w n 2
    unfolding read_shares
    shares_whole g = rw (tlcs_whole n 2 f, le-leb (behind_tlcs h n + 72) (length w) g)

-- ---- reading a witness

module _ (h : ℕ) (w : List ℕ) where
  -- row 14
  pub witness_unknown : valid_hash_len h ≡ false → Err NotWell ≡ read_witness h w
  unfolding read_witness
  witness_unknown k = rw k

  module _ (k : valid_hash_len h ≡ true) where
    -- row 1
    pub witness_short : length w < 2 → Err (WitnessShort (length w)) ≡ read_witness h w
    unfolding read_witness
    witness_short f = rw (k, lt-leb 2 (length w) f)

    -- the TLCs follow the two counts
    pub witness_tlcs : 2 ≤ length w → read_tlcs (get_or w 1 0) h w (get_or w 1 0) 2 ≡ read_witness h w
    unfolding read_witness
    witness_tlcs f = rw (k, le-leb 2 (length w) f)

-- ---- what a witness that is read whole has

-- its hash length, its TLC count, and where its parts begin
pub record Fine (h : ℕ) (w : List ℕ) (n share_place first : ℕ) : Type 0 where
  pub hash : valid_hash_len h ≡ true
  pub small : h ≤ 32
  pub count : n ≡ get_or w 1 0
  pub tlcs : share_place ≡ behind_tlcs h n
  pub shares : share_place + 72 ≤ length w
  pub unlocks : first ≡ share_place + 72

-- of a reading that turned the witness down, nothing is said
abbrev pub FineRead : ℕ → List ℕ → Result WitnessLayout Refusal → Type 0
FineRead h w (Ok l) = Fine h w l.n l.share_place l.first_unlock
FineRead h w (Err r) = Unit {0}

module _ (h : ℕ) (w : List ℕ) (n : ℕ) (s : valid_hash_len h ≡ true) (c : n ≡ get_or w 1 0) where
  fine_shares : (share_place : ℕ) → share_place ≡ behind_tlcs h n → FineRead h w (read_shares w n share_place)
  unfolding read_shares read_unlocks
  fine_shares share_place e =
      by_test (FineRead h w) (leb (share_place + 72) (length w)) _ _
      (λ t. by_cut (λ r _. FineRead h w r) w (places w (share_place + 72)) cut_at (λ p. p) _ 0
      (λ p. tt)
      (record { hash = s; small = hash_len_small h s; count = c; tlcs = e; shares = leb-true _ _ t; unlocks = refl }))
      (λ _. tt)

  fine_tlcs : (m at : ℕ) → at + m * record_len h ≡ behind_tlcs h n → FineRead h w (read_tlcs m h w n at)
  unfolding read_tlcs
  fine_tlcs zero at e = fine_shares at (omega (arith, e, zero-mul (record_len h)))
  fine_tlcs (suc m) at e =
      by_test (FineRead h w) (leb (at + record_len h) (length w)) _ _
      (λ _. fine_tlcs m (at + record_len h) (omega (arith, e, suc-mul m (record_len h))))
      (λ _. tt)

-- every reading of a witness is fine
pub fine : (h : ℕ) (w : List ℕ) → FineRead h w (read_witness h w)
unfolding read_witness
fine h w =
    by_test (FineRead h w) (valid_hash_len h) _ _
    (λ t. by_test (FineRead h w) (leb 2 (length w)) _ _ (λ _. fine_tlcs h w (get_or w 1 0) t refl (get_or w 1 0) 2 refl) (λ _. tt))
    (λ _. tt)

-- the same, of a reading that is known to be whole
pub read_fine : (h : ℕ) (w : List ℕ) (l : WitnessLayout) → read_witness h w ≡ Ok l → Fine h w l.n l.share_place l.first_unlock
read_fine h w l e = subst (FineRead h w) e (fine h w)

-- ---- records

-- none, and one more
pub records_none : (size : ℕ) (l : List ℕ) → chunks size zero l ≡ []
unfolding chunks
records_none size l = refl

pub records_more : (size m : ℕ) (l : List ℕ) → chunks size (suc m) l ≡ take size l ∷ chunks size m (drop size l)
unfolding chunks
records_more size m l = refl

-- records of k bytes each
pub data Even (k : ℕ) : List (List ℕ) → Type 0 where
  even_none : Even k []
  even_more : {r : List ℕ} {rs : List (List ℕ)} → length r ≡ k → Even k rs → Even k (r ∷ rs)

-- the first of records of k bytes, and those behind it
module _ {k : ℕ} {r : List ℕ} {rs : List (List ℕ)} where
  pub even_here : Even k (r ∷ rs) → length r ≡ k
  even_here (even_more e t) = e

  pub even_next : Even k (r ∷ rs) → Even k rs
  even_next (even_more e t) = t

-- one of records of k bytes
pub even_at : {k : ℕ} {rs : List (List ℕ)} → Even k rs → (i : ℕ) → i < length rs → length (get_or rs i []) ≡ k
even_at even_none i g = absurd (omega arith)
even_at (even_more e t) zero g = e
even_at (even_more e t) (suc i) g = even_at t i (omega arith)

-- their bytes in all
pub flatten_even : {k : ℕ} {rs : List (List ℕ)} → Even k rs → length (flatten rs) ≡ length rs * k
unfolding flatten
flatten_even {k} even_none = sym (zero-mul k)
flatten_even {k} (even_more {r = r} {rs = rs} e t) = omega (arith, flatten_even t, e, length-append r (flatten rs), suc-mul (length rs) k)

-- one behind the other they are read back
pub records_even : {k : ℕ} {rs : List (List ℕ)} → Even k rs → (t : List ℕ) → chunks k (length rs) (flatten rs ++ t) ≡ rs
unfolding flatten chunks
records_even even_none t = refl
records_even {k} (even_more {r = r} {rs = rs} e x) t =
    simp (append_assoc, take_at r (flatten rs ++ t) k e, drop_at r (flatten rs ++ t) k e, records_even x t)

-- m records are m
pub records_length : (s m : ℕ) (l : List ℕ) → length (chunks s m l) ≡ m
unfolding chunks
records_length s zero l = refl
records_length s (suc m) l = ap suc (records_length s m (drop s l))

-- read from a list that has them, they have k bytes each
pub even_records : (k m : ℕ) (l : List ℕ) → m * k ≤ length l → Even k (chunks k m l)
unfolding chunks
even_records k zero l f = even_none
even_records k (suc m) l f =
    even_more (part_length l 0 k (omega (arith, suc-mul m k))) (even_records k m (drop k l) (simp length-drop (omega (arith, suc-mul m k))))

-- with what is behind them they are the list
pub flatten_records : (k m : ℕ) (l : List ℕ) → flatten (chunks k m l) ++ drop (m * k) l ≡ l
unfolding chunks flatten
flatten_records k zero l = ap (λ (i : ℕ). drop i l) (zero-mul k)
flatten_records k (suc m) l =
    let e : suc m * k ≡ k + m * k = omega (arith, suc-mul m k) in
    append_assoc (take k l) (flatten (chunks k m (drop k l))) (drop (suc m * k) l)
    ∙ ap (λ (r : List ℕ). take k l ++ (flatten (chunks k m (drop k l)) ++ r)) (ap (λ (i : ℕ). drop i l) e ∙ sym (drop-drop (m * k) k l))
    ∙ ap (λ (r : List ℕ). take k l ++ r) (flatten_records k m (drop k l))
    ∙ take-append-drop k l

-- a state has a count, its records and two shares
pub state_size : (rs : List (List ℕ)) (remote local : List ℕ) → length remote ≡ 36 → length local ≡ 36 → length (state_bytes rs remote local) ≡ 73 + length (flatten rs)
unfolding state_bytes
state_size rs remote local e f = omega (arith, length-append (flatten rs) (remote ++ local), length-append remote local)
