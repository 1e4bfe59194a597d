-- What the test of a chain comes to, without its recursion: entries that are right down to the first byte, or down to one that is not.
-- Assumes nothing.
use Prim.Native.Nat.{ℕ, zero, suc, ◌+◌, ◌-◌, ◌≤◌, ◌<◌}
use native.Mathlib.Omega.{arith}
use mathlib.Core.Path.{◌≡◌, refl, sym, ap, ◌∙◌}
use mathlib.Core.Bool.{Bool, true, false}
use mathlib.Core.List.{List, [], ◌∷◌, ◌++◌, append-nil, append_assoc}
use mathlib.Core.Logic.{⊎_elim, inl, inr}
use lib.ListN.{length, take, drop, length-append, length-take, length-drop, take-append-drop}
use Rattle.std.specs.Prelude.{◌&&◌, ◌⊎◌, eqb, leb, Result, Ok, Err, is_ok}
use Rattle.std.proofs.lemmas.Bool.{false≢true, leb-true, both_ways, cases_lt, cases_Bool, and_parts}
use Rattle.journal.specs.Chain.{pointer_of, own_length, points_back, is_right, journal_bytes, newer, back, chain, Right, Behind, none, one, Tested, whole, broken, short}
use Rattle.journal.proofs.ChainLaws.{pointer_behind, own_behind, back_none, right_test, back_right, back_wrong, points_parts, Proper, next_proper, Whole, chain_back, chain_short}

module _ (is_length : ℕ → Bool) (long : (n : ℕ) → is_length n ≡ true → 12 ≤ n) where
  -- ---- a trailer that is right parts a journal

  record Parts (fits : ℕ → Bool) (journal : List ℕ) : Type 0 where
    older : List ℕ
    entry : List ℕ
    joined : journal ≡ older ++ entry
    right : Right is_length fits older entry

  parts : (fits : ℕ → Bool) (journal : List ℕ) → Proper is_length fits journal → 0 < length journal → is_right is_length fits journal ≡ true → Parts fits journal
  unfolding is_right
  parts fits journal f h t =
      let len = own_length journal in
      let start = length journal - len in
      let a = and_parts (fits len && leb len (length journal)) (points_back is_length start (pointer_of journal)) t in
      let b = and_parts (fits len) (leb len (length journal)) a.0 in
      let fit : 12 ≤ len = long len (f len b.0 h) in
      let within : len ≤ length journal = leb-true _ _ b.1 in
      let whole : journal ≡ take start journal ++ drop start journal = sym (take-append-drop start journal) in
      let n : length (drop start journal) ≡ len = omega (arith, length-drop start journal) in
      let s : length (take start journal) ≡ start = omega (arith, length-take start journal) in
      let room : 12 ≤ length (drop start journal) = omega arith in
      let own : own_length (drop start journal) ≡ len = sym (own_behind (take start journal) (drop start journal) room) ∙ ap own_length (sym whole) in
      let back_to : pointer_of (drop start journal) ≡ pointer_of journal = sym (pointer_behind (take start journal) (drop start journal) room) ∙ ap pointer_of (sym whole) in
      record {
        older = take start journal;
        entry = drop start journal;
        joined = whole;
        right = record { room = room; fit = ap fits n ∙ b.0; says = own ∙ sym n; points = rw (s, back_to) a.1 };
      }

  -- ---- the test parts a journal into entries that are right and what is left in front of them

  data Ends (left : ℕ → Bool) (entries : List (List ℕ)) : List ℕ → Result (List (List ℕ)) ℕ → Type 0 where
    ends_whole : Ends left entries [] (Ok entries)
    ends_broken : {front : List ℕ} → 0 < length front → is_right is_length left front ≡ false → Proper is_length left front → Ends left entries front (Err (length front - 12))

  record Passed (fits : ℕ → Bool) (journal : List ℕ) (r : Result (List (List ℕ)) ℕ) : Type 0 where
    entries : List (List ℕ)
    left : ℕ → Bool
    front : List ℕ
    behind : Behind is_length fits journal entries left front
    ends : Ends left entries front r

  one_more : (fits : ℕ → Bool) (older entry : List ℕ) (r : Result (List (List ℕ)) ℕ) → Right is_length fits older entry
      → Passed (λ n. eqb n (length older - pointer_of entry)) older r → Passed fits (older ++ entry) (newer entry r)
  unfolding newer
  one_more fits older entry r right p =
      record { entries = entry ∷ p.entries; left = p.left; front = p.front; behind = one right p.behind; ends = go p.front r p.ends }
    where
      go : (front : List ℕ) (r : Result (List (List ℕ)) ℕ) → Ends p.left p.entries front r → Ends p.left (entry ∷ p.entries) front (newer entry r)
      go front r ends_whole = ends_whole
      go front r (ends_broken h w f) = ends_broken h w f

  pass_right : (fuel : ℕ) (fits : ℕ → Bool) (journal older entry : List ℕ) → journal ≡ older ++ entry → Right is_length fits older entry
      → Passed (λ n. eqb n (length older - pointer_of entry)) older (back is_length fuel (λ n. eqb n (length older - pointer_of entry)) older)
      → Passed fits journal (back is_length (suc fuel) fits journal)
  pass_right fuel fits journal older entry e right rest = rw (e, back_right is_length fits older entry right fuel) (one_more fits older entry _ right rest)

  pass_wrong : (fuel : ℕ) (fits : ℕ → Bool) (journal : List ℕ) → Proper is_length fits journal → 0 < length journal → is_right is_length fits journal ≡ false
      → Passed fits journal (back is_length (suc fuel) fits journal)
  pass_wrong fuel fits journal f h w =
      rw (back_wrong is_length fuel fits journal h w) (record { entries = []; left = fits; front = journal; behind = none; ends = ends_broken h w f })

  -- nothing is left
  pass_none : (fuel : ℕ) (fits : ℕ → Bool) → Passed fits [] (back is_length fuel fits [])
  pass_none fuel fits = rw (back_none is_length fuel fits [] refl) (record { entries = []; left = fits; front = []; behind = none; ends = ends_whole })

  -- of a journal that has bytes, what a test of fewer comes to
  abbrev Again : ℕ → Type 0
  Again fuel = (fits : ℕ → Bool) (older : List ℕ) → length older ≤ fuel → Proper is_length fits older → Passed fits older (back is_length fuel fits older)

  pass_some : (fuel : ℕ) → Again fuel → (fits : ℕ → Bool) (journal : List ℕ) → length journal ≤ suc fuel → Proper is_length fits journal → 0 < length journal
      → Passed fits journal (back is_length (suc fuel) fits journal)
  pass_some fuel again fits journal h f g = ⊎_elim right (pass_wrong fuel fits journal f g) (cases_Bool (is_right is_length fits journal))
    where
      right : is_right is_length fits journal ≡ true → Passed fits journal (back is_length (suc fuel) fits journal)
      right t =
          let p = parts fits journal f g t in
          let n : length journal ≡ length p.older + length p.entry = ap length p.joined ∙ length-append p.older p.entry in
          pass_right fuel fits journal p.older p.entry p.joined p.right
          (again (λ n. eqb n (length p.older - pointer_of p.entry)) p.older (omega (arith, p.right.room)) (next_proper is_length p.older p.entry p.right))

  passed : (fuel : ℕ) → Again fuel
  passed fuel fits [] h f = pass_none fuel fits
  passed zero fits (x ∷ xs) h f = absurd (omega arith)
  passed (suc fuel) fits (x ∷ xs) h f = pass_some fuel (passed fuel) fits (x ∷ xs) h f (omega arith)

  -- ---- the other way round: what is left in front of right entries decides

  onto : List (List ℕ) → Result (List (List ℕ)) ℕ → Result (List (List ℕ)) ℕ
  onto entries (Ok older) = Ok (entries ++ older)
  onto entries (Err place) = Err place

  onto_none : (r : Result (List (List ℕ)) ℕ) → r ≡ onto [] r
  unfolding onto
  onto_none (Ok older) = refl
  onto_none (Err place) = refl

  onto_one : (entry : List ℕ) (entries : List (List ℕ)) (r : Result (List (List ℕ)) ℕ) → newer entry (onto entries r) ≡ onto (entry ∷ entries) r
  unfolding onto newer
  onto_one entry entries (Ok older) = refl
  onto_one entry entries (Err place) = refl

  decided : {fits : ℕ → Bool} {journal : List ℕ} {entries : List (List ℕ)} {left : ℕ → Bool} {front : List ℕ} → Behind is_length fits journal entries left front
      → (r : Result (List (List ℕ)) ℕ) → ((fuel : ℕ) → length front ≤ fuel → back is_length fuel left front ≡ r)
      → (fuel : ℕ) → length journal ≤ fuel → back is_length fuel fits journal ≡ onto entries r
  decided none r d fuel h = d fuel h ∙ onto_none r
  decided (one {older = older} {entry = entry} right b) r d zero h = absurd (omega (arith, length-append older entry, right.room))
  decided (one {fits = fits} {older = older} {entry = entry} {entries = entries} right b) r d (suc fuel) h =
      back_right is_length fits older entry right fuel
      ∙ ap (newer entry) (decided b r d fuel (omega (arith, length-append older entry, right.room)))
      ∙ onto_one entry entries r

  -- ---- what is left in front: its lengths, and how long it is

  left_fits : {fits : ℕ → Bool} {journal : List ℕ} {entries : List (List ℕ)} {left : ℕ → Bool} {front : List ℕ} → Behind is_length fits journal entries left front
      → Proper is_length fits journal → Proper is_length left front
  left_fits none f = f
  left_fits (one {fits = fits} {older = older} {entry = entry} right b) f = left_fits b (next_proper is_length older entry right)

  front_within : {fits : ℕ → Bool} {journal : List ℕ} {entries : List (List ℕ)} {left : ℕ → Bool} {front : List ℕ} → Behind is_length fits journal entries left front
      → length front ≤ length journal
  front_within none = omega arith
  front_within (one {older = older} {entry = entry} right b) = omega (arith, front_within b, length-append older entry)

  -- where an entry has another in front of it, that one has room for a trailer
  older_room : (fits : ℕ → Bool) (older entry : List ℕ) → Right is_length fits older entry → 0 < length older → 12 ≤ length older
  older_room fits older entry r h =
      let p = points_parts is_length (length older) (pointer_of entry) r.points h in
      omega (arith, long _ p.1)

  front_room : {fits : ℕ → Bool} {journal : List ℕ} {entries : List (List ℕ)} {left : ℕ → Bool} {front : List ℕ} → Behind is_length fits journal entries left front
      → 12 ≤ length journal → 0 < length front → 12 ≤ length front
  front_room none h g = h
  front_room (one {fits = fits} {older = older} {entry = entry} right b) h g =
      front_room b (older_room fits older entry right (omega (arith, front_within b))) g

  -- ---- the test, whole

  module _ (least : ℕ) (room : 12 ≤ least) (shortest : (n : ℕ) → is_length n ≡ true → least ≤ n) where
    -- ---- what it comes to

    no_right : {fits : ℕ → Bool} {front : List ℕ} → is_right is_length fits front ≡ false
        → (older entry : List ℕ) → front ≡ older ++ entry → Right is_length fits older entry → ⊥
    no_right {fits} {front} w older entry e r = both_ways _ w (ap (is_right is_length fits) e ∙ right_test is_length fits older entry r)

    said : (journal : List ℕ) → Whole is_length least journal → (entries : List (List ℕ)) (left : ℕ → Bool) (front : List ℕ) → Behind is_length is_length journal entries left front
        → (r : Result (List (List ℕ)) ℕ) → Ends left entries front r → Tested is_length least journal r
    said journal w entries left front b r ends_whole = whole b
    said journal w entries left front b r (ends_broken h wrong f) =
        let size : least ≤ length journal = ⊎_elim (λ z. absurd (omega (arith, front_within b))) (λ g. g) w in
        broken size b h (no_right wrong) (omega (arith, front_room b (omega arith) h))

    cases_whole : (journal : List ℕ) → Whole is_length least journal ⊎ ((0 < length journal) × (length journal < least))
    cases_whole journal = ⊎_elim
        (λ h. ⊎_elim (λ g. inr (h, g)) (λ g. inl (inr g)) (cases_lt (length journal) least))
        (λ z. inl (inl (omega arith)))
        (cases_lt 0 (length journal))

    pub tested : (journal : List ℕ) → Tested is_length least journal (chain is_length least journal)
    tested journal = ⊎_elim
        (λ w.
        let p = passed (length journal) is_length journal (omega arith) (λ n e h. e) in
        rw (chain_back is_length least journal w) (said journal w p.entries p.left p.front p.behind _ p.ends))
        (λ s. rw (chain_short is_length least journal s.0 s.1) (short s.0 s.1))
        (cases_whole journal)

    -- ---- and it comes to nothing else

    nothing_right : {fits : ℕ → Bool} {front : List ℕ} → Proper is_length fits front → 0 < length front
        → ((older entry : List ℕ) → front ≡ older ++ entry → Right is_length fits older entry → ⊥) → is_right is_length fits front ≡ false
    nothing_right {fits} {front} f h n = ⊎_elim
        (λ t. let p = parts fits front f h t in absurd (n p.older p.entry p.joined p.right))
        (λ e. e)
        (cases_Bool (is_right is_length fits front))

    stays_wrong : (left : ℕ → Bool) (front : List ℕ) (place : ℕ) → place + 12 ≡ length front → 0 < length front → is_right is_length left front ≡ false
        → (fuel : ℕ) → length front ≤ fuel → back is_length fuel left front ≡ Err place
    stays_wrong left front place e h w zero g = absurd (omega arith)
    stays_wrong left front place e h w (suc fuel) g = back_wrong is_length fuel left front h w ∙ ap Err (omega (arith, e))

    behind_whole : {journal : List ℕ} {entries : List (List ℕ)} {left : ℕ → Bool} → Behind is_length is_length journal entries left [] → Whole is_length least journal
    behind_whole none = inl refl
    behind_whole (one {older = older} {entry = entry} r b) = inr (omega (arith, shortest (length entry) r.fit, length-append older entry))

    pub exactly : (journal : List ℕ) (r : Result (List (List ℕ)) ℕ) → Tested is_length least journal r → chain is_length least journal ≡ r
    unfolding onto
    exactly journal r (whole {entries = entries} {left = left} b) =
        chain_back is_length least journal (behind_whole b)
        ∙ decided b (Ok []) (λ fuel h. back_none is_length fuel left [] refl) (length journal) (omega arith)
        ∙ ap Ok (append-nil entries)
    exactly journal r (broken {left = left} {front = front} {place = place} size b h n e) =
        chain_back is_length least journal (inr size)
        ∙ decided b (Err place) (stays_wrong left front place e h (nothing_right (left_fits b (λ n e h. e)) h n)) (length journal) (omega arith)
    exactly journal r (short h g) = chain_short is_length least journal h g

    -- the entries of a journal that is taken are right, down to its first byte
    pub all_right : (journal : List ℕ) (entries : List (List ℕ)) → chain is_length least journal ≡ Ok entries
        → (left : ℕ → Bool) × Behind is_length is_length journal entries left []
    all_right journal entries e = go _ (tested journal) e
      where
        go : (r : Result (List (List ℕ)) ℕ) → Tested is_length least journal r → r ≡ Ok entries → (left : ℕ → Bool) × Behind is_length is_length journal entries left []
        go r (whole {entries = es} {left = left} b) e = let q : es ≡ entries = cc in (left, rw (sym q) b)
        go r (broken size b h n p) e = absurd (false≢true (ap is_ok e))
        go r (short h g) e = absurd (false≢true (ap is_ok e))

  -- ---- entries that are right are the journal's bytes

  pub right_bytes : {fits : ℕ → Bool} {journal : List ℕ} {entries : List (List ℕ)} {left : ℕ → Bool} {front : List ℕ} → Behind is_length fits journal entries left front
      → front ++ journal_bytes entries ≡ journal
  unfolding journal_bytes
  right_bytes {journal = journal} none = append-nil journal
  right_bytes {front = front} (one {older = older} {entry = entry} {entries = entries} r b) =
      sym (append_assoc front (journal_bytes entries) entry) ∙ ap (λ (l : List ℕ). l ++ entry) (right_bytes b)
