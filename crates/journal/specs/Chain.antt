-- The chain of a journal (docs/SCOPE.md, "The journal"): entries one behind the other, each with a trailer at its end that points back. Stated over the
-- lengths that an entry may have; `Journal` says which those are.
use Rattle.std.specs.Prelude.{ℕ, zero, suc, ◌+◌, ◌-◌, ◌^◌, ◌≡◌, ◌≤◌, ◌<◌, Bool, true, cond, ◌&&◌, List, [], ◌∷◌, ◌++◌, length, take, drop, eqb, leb, ltb, Result, Ok, Err}
use Rattle.fiber_bytes.specs.Bytes.{part, le, le_bytes}

-- ---- a trailer, the last 12 bytes of an entry: start of the entry before 8, all ones for none; own length 4

abbrev pub trailer_len : ℕ
trailer_len = 12

abbrev pub no_entry : ℕ
no_entry = 2 ^ 64 - 1

unfoldable pub trailer : ℕ → ℕ → List ℕ
trailer pointer len = le_bytes 8 pointer ++ le_bytes 4 len

-- what the trailer at the end of some bytes says
unfoldable pub pointer_of : List ℕ → ℕ
pointer_of bytes = le (part bytes (length bytes - 12) 8)

unfoldable pub own_length : List ℕ → ℕ
own_length bytes = le (part bytes (length bytes - 4) 4)

-- ---- entries, always the newest first

-- their bytes as they stand in a journal
unfoldable pub journal_bytes : List (List ℕ) → List ℕ
journal_bytes [] = []
journal_bytes (newest ∷ older) = journal_bytes older ++ newest

-- where the newest of them starts
unfoldable pub newest_start : List (List ℕ) → ℕ
newest_start [] = no_entry
newest_start (newest ∷ older) = length (journal_bytes older)

-- an entry behind older ones, from what stands in front of its trailer
unfoldable pub linked : List ℕ → List (List ℕ) → List ℕ
linked body older = body ++ trailer (newest_start older) (length body + trailer_len)

-- a chain, from what stands in front of each trailer
unfoldable pub chained : List (List ℕ) → List (List ℕ)
chained [] = []
chained (body ∷ older) = linked body (chained older) ∷ chained older

-- ---- the test

-- a newer entry in front of what came of the older ones
unfoldable pub newer : List ℕ → Result (List (List ℕ)) ℕ → Result (List (List ℕ)) ℕ
newer entry (Ok older) = Ok (entry ∷ older)
newer entry (Err place) = Err place

module _ (is_length : ℕ → Bool) where
  -- the pointer of an entry that starts at a place: all ones at 0, and elsewhere that start less the length of an entry
  unfoldable pub points_back : ℕ → ℕ → Bool
  points_back start pointer = cond (eqb start 0) (eqb pointer no_entry) (ltb pointer start && is_length (start - pointer))

  -- The trailer at the end of some bytes is right: it says a length that fits, which they have, and points back from where such an entry starts.
  unfoldable pub is_right : (ℕ → Bool) → List ℕ → Bool
  is_right fits journal =
      fits (own_length journal) && leb (own_length journal) (length journal) && points_back (length journal - own_length journal) (pointer_of journal)

  -- From the end back to the first byte: the entries, each whole, or the place of the first trailer that is wrong. `fits` tells which length the entry
  -- at the end may have; of an older one it is the length that is left between a newer one's pointer and its start. Each entry has bytes, so that as
  -- much fuel as there are bytes is enough.
  unfoldable pub back : ℕ → (ℕ → Bool) → List ℕ → Result (List (List ℕ)) ℕ
  back zero fits journal = Ok []
  back (suc fuel) fits journal =
      let start = length journal - own_length journal in
      cond (eqb (length journal) 0) (Ok [])
      (cond (is_right fits journal)
      (newer (drop start journal) (back fuel (λ n. eqb n (start - pointer_of journal)) (take start journal)))
      (Err (length journal - trailer_len)))

  -- A journal that is shorter than any entry is wrong at 0. Further down nothing is that short: an entry that starts there has no right pointer.
  unfoldable pub chain : ℕ → List ℕ → Result (List (List ℕ)) ℕ
  chain least journal = cond (ltb 0 (length journal) && ltb (length journal) least) (Err 0) (back (length journal) is_length journal)

  -- ---- the same without the test's recursion

  -- The newest entry of a journal is right: it has room for a trailer and a length that fits, the trailer says that length, and the pointer is right
  -- where the entry starts.
  pub record Right (fits : ℕ → Bool) (older entry : List ℕ) : Type 0 where
    pub room : trailer_len ≤ length entry
    pub fit : fits (length entry) ≡ true
    pub says : own_length entry ≡ length entry
    pub points : points_back (length older) (pointer_of entry) ≡ true

  -- entries that are right, what is left in front of them, and which length the newest entry there may have
  pub data Behind : (ℕ → Bool) → List ℕ → List (List ℕ) → (ℕ → Bool) → List ℕ → Type 0 where
    none : {fits : ℕ → Bool} {journal : List ℕ} → Behind fits journal [] fits journal
    one : {fits : ℕ → Bool} {older entry : List ℕ} {entries : List (List ℕ)} {left : ℕ → Bool} {front : List ℕ} → Right fits older entry
        → Behind (λ n. eqb n (length older - pointer_of entry)) older entries left front → Behind fits (older ++ entry) (entry ∷ entries) left front

  -- What a test comes to: all entries are right, or in front of those that are the next one is not, whatever its length.
  pub data Tested (least : ℕ) : List ℕ → Result (List (List ℕ)) ℕ → Type 0 where
    whole : {journal : List ℕ} {entries : List (List ℕ)} {left : ℕ → Bool} → Behind is_length journal entries left [] → Tested least journal (Ok entries)
    broken : {journal : List ℕ} {entries : List (List ℕ)} {left : ℕ → Bool} {front : List ℕ} {place : ℕ} → least ≤ length journal
        → Behind is_length journal entries left front → 0 < length front → ((older entry : List ℕ) → front ≡ older ++ entry → Right left older entry → ⊥)
        → place + trailer_len ≡ length front → Tested least journal (Err place)
    short : {journal : List ℕ} → 0 < length journal → length journal < least → Tested least journal (Err 0)

  -- what stands in front of trailers, each with the length of an entry
  pub data Bodies : List (List ℕ) → Type 0 where
    nothing : Bodies []
    another : {body : List ℕ} {older : List (List ℕ)} → is_length (length body + trailer_len) ≡ true → Bodies older → Bodies (body ∷ older)
