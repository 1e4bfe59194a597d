-- The chains that the test takes are those that are made of what stands in front of trailers: a trailer that is right is the one that linking writes.
-- Assumes nothing.
use Prim.Native.Nat.{ℕ, ◌+◌, ◌-◌, ◌^◌, ◌≤◌, ◌<◌}
use native.Mathlib.Omega.{arith}
use mathlib.Core.Path.{◌≡◌, refl, sym, ap, ◌∙◌}
use mathlib.Core.Bool.{Bool, true, false}
use mathlib.Core.List.{List, [], ◌∷◌, ◌++◌}
use lib.ListN.{length, take, drop, length-append, length-take, length-drop, take-append-drop}
use lib.Seq.{take_all}
use Rattle.std.specs.Prelude.{⊤, eqb}
use Rattle.std.proofs.Math.Seq.{drop-append_seam, take-append_seam}
use Rattle.std.proofs.lemmas.Bool.{eq-eqb, ne_eqb, eqb-true, lt-ltb}
use Rattle.fiber_bytes.specs.Bytes.{part, le, le_bytes}
use Rattle.fiber_bytes.proofs.BytesLaws.{part_add, part_length, le_bytes_length}
use Rattle.fiber_types.proofs.RoundTrips.{Bytes, le_le_bytes, le_bytes_le, part_bytes}
use Rattle.journal.specs.Chain.{no_entry, trailer, pointer_of, own_length, journal_bytes, newest_start, linked, chained, points_back, Right, Behind, none, one, Bodies, nothing, another}
use Rattle.journal.proofs.ChainLaws.{pointer_behind, own_behind, points_parts, Proper, next_proper}
use Rattle.journal.proofs.TestLaws.{right_bytes}

-- ---- what linking writes is what a trailer says

trailer_length : (pointer len : ℕ) → length (trailer pointer len) ≡ 12
unfolding trailer
trailer_length pointer len = omega (arith, length-append (le_bytes 8 pointer) (le_bytes 4 len), le_bytes_length 8 pointer, le_bytes_length 4 len)

pub linked_length : (body : List ℕ) (older : List (List ℕ)) → length (linked body older) ≡ length body + 12
unfolding linked
linked_length body older = length-append body (trailer (newest_start older) (length body + 12)) ∙ omega (arith, trailer_length (newest_start older) (length body + 12))

trailer_pointer : (pointer len : ℕ) → pointer < 2 ^ 64 → pointer_of (trailer pointer len) ≡ pointer
unfolding pointer_of trailer
trailer_pointer pointer len h =
    let n : length (le_bytes 8 pointer ++ le_bytes 4 len) ≡ 12 = omega (arith, length-append (le_bytes 8 pointer) (le_bytes 4 len), le_bytes_length 8 pointer, le_bytes_length 4 len) in
    let k : 8 ≡ length (le_bytes 8 pointer) = sym (le_bytes_length 8 pointer) in
    rw n (ap (λ (i : ℕ). le (take i (le_bytes 8 pointer ++ le_bytes 4 len))) k ∙ ap le (take-append_seam (le_bytes 8 pointer) (le_bytes 4 len)) ∙ le_le_bytes 8 pointer h)

trailer_own : (pointer len : ℕ) → len < 2 ^ 32 → own_length (trailer pointer len) ≡ len
unfolding own_length trailer
trailer_own pointer len h =
    let n : length (le_bytes 8 pointer ++ le_bytes 4 len) ≡ 12 = omega (arith, length-append (le_bytes 8 pointer) (le_bytes 4 len), le_bytes_length 8 pointer, le_bytes_length 4 len) in
    let k : 8 ≡ length (le_bytes 8 pointer) = sym (le_bytes_length 8 pointer) in
    rw n (ap (λ (i : ℕ). le (take 4 (drop i (le_bytes 8 pointer ++ le_bytes 4 len)))) k
    ∙ ap (λ (l : List ℕ). le (take 4 l)) (drop-append_seam (le_bytes 8 pointer) (le_bytes 4 len))
    ∙ ap le (take_all 4 (le_bytes 4 len) (omega (arith, le_bytes_length 4 len)))
    ∙ le_le_bytes 4 len h)

module _ (body : List ℕ) (older : List (List ℕ)) where
  linked_pointer : newest_start older < 2 ^ 64 → pointer_of (linked body older) ≡ newest_start older
  unfolding linked
  linked_pointer h =
      let t = trailer (newest_start older) (length body + 12) in
      pointer_behind body t (omega (arith, trailer_length (newest_start older) (length body + 12))) ∙ trailer_pointer (newest_start older) (length body + 12) h

  linked_own : length body + 12 < 2 ^ 32 → own_length (linked body older) ≡ length body + 12
  unfolding linked
  linked_own h =
      let t = trailer (newest_start older) (length body + 12) in
      own_behind body t (omega (arith, trailer_length (newest_start older) (length body + 12))) ∙ trailer_own (newest_start older) (length body + 12) h

-- ---- a trailer of bytes is what linking writes of what it says

trailer_back : (entry : List ℕ) → Bytes entry → 12 ≤ length entry → drop (length entry - 12) entry ≡ trailer (pointer_of entry) (own_length entry)
unfolding trailer pointer_of own_length
trailer_back entry b h =
    let at = length entry - 12 in
    let n₁ : length (part entry at 8) ≡ 8 = part_length entry at 8 (omega arith) in
    let n₂ : length (part entry (at + 8) 4) ≡ 4 = part_length entry (at + 8) 4 (omega arith) in
    let e : at + 8 ≡ length entry - 4 = omega arith in
    let p : part entry at 8 ≡ le_bytes 8 (le (part entry at 8)) = sym (le_bytes_le (part entry at 8) (part_bytes entry at 8 b)) ∙ ap (λ (i : ℕ). le_bytes i (le (part entry at 8))) n₁ in
    let q : part entry (at + 8) 4 ≡ le_bytes 4 (le (part entry (at + 8) 4)) =
    sym (le_bytes_le (part entry (at + 8) 4) (part_bytes entry (at + 8) 4 b)) ∙ ap (λ (i : ℕ). le_bytes i (le (part entry (at + 8) 4))) n₂ in
    sym (take_all 12 (drop at entry) (omega (arith, length-drop at entry)))
    ∙ part_add entry at 8 4
    ∙ ap (λ (l : List ℕ). part entry at 8 ++ l) (q ∙ ap (λ (i : ℕ). le_bytes 4 (le (part entry i 4))) e)
    ∙ ap (λ (l : List ℕ). l ++ le_bytes 4 (le (part entry (length entry - 4) 4))) p

-- ---- what is linked is taken

module _ (is_length : ℕ → Bool) (long : (n : ℕ) → is_length n ≡ true → 12 ≤ n) (fine : (n : ℕ) → is_length n ≡ true → n < 2 ^ 32) where
  -- the newest entry has a length that fits, if there is one
  abbrev NewestFits : (ℕ → Bool) → List (List ℕ) → Type 0
  NewestFits fits [] = ⊤
  NewestFits fits (body ∷ older) = fits (length body + 12) ≡ true

  -- an entry points back to where the newest of the older ones starts
  linked_points : (body : List ℕ) (older : List (List ℕ)) → Bodies is_length older → length (journal_bytes (chained older)) < 2 ^ 64
      → points_back is_length (length (journal_bytes (chained older))) (newest_start (chained older)) ≡ true
  unfolding points_back chained journal_bytes newest_start
  linked_points body [] b h = refl
  linked_points body (newest ∷ older) (another f b) h =
      let start = length (journal_bytes (chained older)) in
      let n : length (journal_bytes (chained older) ++ linked newest (chained older)) ≡ start + (length newest + 12) =
      length-append (journal_bytes (chained older)) (linked newest (chained older)) ∙ omega (arith, linked_length newest (chained older)) in
      let z : eqb (start + (length newest + 12)) 0 ≡ false = ne_eqb _ _ (λ q. omega (arith, q)) in
      let d : start + (length newest + 12) - start ≡ length newest + 12 = omega arith in
      rw (n, z, lt-ltb start (start + (length newest + 12)) (omega arith), d) f

  start_small : (older : List (List ℕ)) → length (journal_bytes (chained older)) < 2 ^ 64 → newest_start (chained older) < 2 ^ 64
  unfolding newest_start chained journal_bytes
  start_small [] h = omega arith
  start_small (newest ∷ older) h = omega (arith, length-append (journal_bytes (chained older)) (linked newest (chained older)))

  module _ (body : List ℕ) (older : List (List ℕ)) (f : is_length (length body + 12) ≡ true) (b : Bodies is_length older)
      (h : length (journal_bytes (chained older)) < 2 ^ 64) where
    linked_right : (fits : ℕ → Bool) → fits (length body + 12) ≡ true → Right is_length fits (journal_bytes (chained older)) (linked body (chained older))
    linked_right fits g =
        let n = linked_length body (chained older) in
        record {
          room = omega (arith, n);
          fit = ap fits n ∙ g;
          says = linked_own body (chained older) (fine _ f) ∙ sym n;
          points = ap (points_back is_length (length (journal_bytes (chained older)))) (linked_pointer body (chained older) (start_small older h)) ∙ linked_points body older b h;
        }

  -- and the older ones have the length that is left
  next_newest : (older : List (List ℕ)) → NewestFits (λ n. eqb n (length (journal_bytes (chained older)) - newest_start (chained older))) older
  unfolding chained journal_bytes newest_start
  next_newest [] = tt
  next_newest (newest ∷ older) =
      eq-eqb _ _ (omega (arith, length-append (journal_bytes (chained older)) (linked newest (chained older)), linked_length newest (chained older)))

  pub all_linked : (bodies : List (List ℕ)) → Bodies is_length bodies → length (journal_bytes (chained bodies)) < 2 ^ 64 → (fits : ℕ → Bool) → NewestFits fits bodies
      → (left : ℕ → Bool) × Behind is_length fits (journal_bytes (chained bodies)) (chained bodies) left []
  unfolding chained journal_bytes
  all_linked [] b h fits g = (fits, none)
  all_linked (body ∷ older) (another f b) h fits g =
      let size = length-append (journal_bytes (chained older)) (linked body (chained older)) in
      let small : length (journal_bytes (chained older)) < 2 ^ 64 = omega (arith, size) in
      let p = linked_pointer body (chained older) (start_small older small) in
      let next : NewestFits (λ n. eqb n (length (journal_bytes (chained older)) - pointer_of (linked body (chained older)))) older = rw p (next_newest older) in
      let rest = all_linked older b small (λ n. eqb n (length (journal_bytes (chained older)) - pointer_of (linked body (chained older)))) next in
      (rest.0, one (linked_right body older f b small fits g) rest.1)

  -- ---- and what is taken is linked

  -- a pointer that is right is where the newest of the older ones starts
  pointer_start : {fits : ℕ → Bool} (older entry : List ℕ) (entries : List (List ℕ)) {left : ℕ → Bool} → Right is_length fits older entry
      → Behind is_length (λ n. eqb n (length older - pointer_of entry)) older entries left [] → pointer_of entry ≡ newest_start entries
  unfolding points_back newest_start
  pointer_start older entry entries r none = eqb-true (pointer_of entry) no_entry r.points
  pointer_start older entry entries r (one {older = oldest} {entry = e} {entries = es} s b) =
      let n : length (oldest ++ e) ≡ length oldest + length e = length-append oldest e in
      let p = points_parts is_length (length (oldest ++ e)) (pointer_of entry) r.points (omega (arith, n, s.room)) in
      let d = eqb-true (length e) (length (oldest ++ e) - pointer_of entry) s.fit in
      let w : length oldest ≡ length (journal_bytes es) = ap length (sym (right_bytes is_length long b)) in
      omega (arith, n, p.0, d, w)

  pub record Linked (entries : List (List ℕ)) : Type 0 where
    pub bodies : List (List ℕ)
    pub proper : Bodies is_length bodies
    pub same : entries ≡ chained bodies

  one_linked : (entry : List ℕ) (entries : List (List ℕ)) → Bytes entry → 12 ≤ length entry → is_length (length entry) ≡ true → own_length entry ≡ length entry
      → pointer_of entry ≡ newest_start entries → Linked entries → Linked (entry ∷ entries)
  unfolding linked chained
  one_linked entry entries b h f s p l =
      let body = take (length entry - 12) entry in
      let n : length body + 12 ≡ length entry = omega (arith, length-take (length entry - 12) entry) in
      let e : entry ≡ linked body entries =
      sym (take-append-drop (length entry - 12) entry)
      ∙ ap (λ (t : List ℕ). body ++ t) (trailer_back entry b h ∙ ap (λ (i : ℕ). trailer i (own_length entry)) p ∙ ap (trailer (newest_start entries)) (s ∙ sym n)) in
      record {
        bodies = body ∷ l.bodies;
        proper = another (ap is_length n ∙ f) l.proper;
        same = ap (λ (x : List ℕ). x ∷ entries) e ∙ ap (λ (es : List (List ℕ)). linked body es ∷ es) l.same;
      }

  pub all_formed : {fits : ℕ → Bool} {journal : List ℕ} {entries : List (List ℕ)} {left : ℕ → Bool} → Behind is_length fits journal entries left []
      → Bytes journal → Proper is_length fits journal → Linked entries
  unfolding chained
  all_formed none b f = record { bodies = []; proper = nothing; same = refl }
  all_formed (one {older = older} {entry = entry} {entries = entries} r more) b f =
      let e : part (older ++ entry) (length older) (length entry) ≡ entry =
      ap (take (length entry)) (drop-append_seam older entry) ∙ take_all (length entry) entry (omega arith) in
      let o : part (older ++ entry) 0 (length older) ≡ older = take-append_seam older entry in
      let be : Bytes entry = rw e at (part_bytes (older ++ entry) (length older) (length entry) b) in
      let bo : Bytes older = rw o at (part_bytes (older ++ entry) 0 (length older) b) in
      let rest = all_formed more bo (next_proper is_length older entry r) in
      one_linked entry entries be r.room (f (length entry) r.fit (omega (arith, length-append older entry, r.room))) r.says (pointer_start older entry entries r more) rest
