-- The book of a channel; docs/SCOPE.md, "The book". It says what each update of one channel answers and leaves, by the layout of a witness and by
-- document 01's words alone: no length and no reading of unlocks is the update's.
use Rattle.std.specs.Prelude.{ℕ, zero, suc, ◌+◌, ◌*◌, Bool, true, false, cond, length, get_or, replicate, ltb, leb, eqb}
use mathlib.Core.List.{List, [], ◌∷◌, map, flatten}
use Rattle.fiber_bytes.specs.Bytes.{part, le}
use Rattle.fiber_types.specs.HashLen.{valid_hash_len}
use Rattle.fiber_witness.specs.Unlocks.{unlocks_in}
use Rattle.fiber_witness.specs.Witness.{state_bytes, member}
use Rattle.fiber_choice.specs.declared.kinds.Side.{Side}
use Rattle.fiber_choice.specs.declared.kinds.Side.TheVariants.{Remote, Local}
use Rattle.book.specs.Trace.{Transition}

-- ---- the parts of a state

-- a TLC: type 1, amount 16, hash h, remote key hash 20, local key hash 20, expiry 8; amounts are numbers without bound
unfoldable pub tlc_len : ℕ → ℕ
tlc_len h = 1 + 16 + h + 20 + 20 + 8

unfoldable pub tlc_amount : List ℕ → ℕ
tlc_amount r = le (part r 1 16)

-- a share: key hash 20, amount 16
unfoldable pub share_amount : List ℕ → ℕ
share_amount s = le (part s 20 16)

-- n places from i on
unfoldable pub places_from : ℕ → ℕ → List ℕ
places_from i zero = []
places_from i (suc n) = i ∷ places_from (suc i) n

-- a state of a channel whose hashes have h bytes: the number of TLCs, the TLCs, remote share, local share
unfoldable pub tlcs_in : ℕ → List ℕ → List (List ℕ)
tlcs_in h s = map (λ (i : ℕ). part s (1 + i * tlc_len h) (tlc_len h)) (places_from 0 (get_or s 0 0))

unfoldable pub share_in : ℕ → List ℕ → Side → List ℕ
share_in h s Remote = part s (1 + get_or s 0 0 * tlc_len h) 36
share_in h s Local = part s (1 + get_or s 0 0 * tlc_len h + 36) 36

-- ---- what the book holds

-- the first state's TLCs, the places there of those that stand (the others are paid), both shares, and the sum paid
pub record Book : Type 0 where
  pub tlcs : List (List ℕ)
  pub standing : List ℕ
  pub shares : Side → List ℕ
  pub paid : ℕ

-- a first state's book
unfoldable pub opening : ℕ → List ℕ → Book
opening h s = record { tlcs = tlcs_in h s; standing = places_from 0 (get_or s 0 0); shares = share_in h s; paid = 0 }

-- the state left: the number standing, their records in first order, remote share, local share
unfoldable pub state_of : Book → List ℕ
state_of b = state_bytes (map (λ (i : ℕ). get_or b.tlcs i []) b.standing) (b.shares Remote) (b.shares Local)

-- ---- what an unlock pays

-- a share, or a TLC by its place
pub data Payee : Type 0 where
  share : Side → Payee
  tlc : ℕ → Payee

-- 0xFF is the local share, 0xFE the remote one, another byte a place
unfoldable pub payee_of : List ℕ → Payee
payee_of u = cond (eqb (get_or u 0 0) 255) (share Local) (cond (eqb (get_or u 0 0) 254) (share Remote) (tlc (get_or u 0 0)))

unfoldable pub same_side : Side → Side → Bool
same_side Remote Remote = true
same_side Remote Local = false
same_side Local Remote = false
same_side Local Local = true

-- another value for one side
unfoldable pub change : {A : Type 0} → Side → A → (Side → A) → Side → A
change side x f other = cond (same_side side other) x (f other)

unfoldable pub without : ℕ → List ℕ → List ℕ
without f [] = []
without f (g ∷ gs) =
    let next = without f gs in
    cond (eqb f g) next (g ∷ next)

-- A share is paid its amount at that moment, and its key hash and its amount become zeros. A TLC is paid its amount and stands no longer; its
-- place counts those that stood before the call.
unfoldable pub pay : Book → Payee → Book → Book
pay before (share side) b = record {
  tlcs = b.tlcs;
  standing = b.standing;
  shares = change side (replicate 36 0) b.shares;
  paid = b.paid + share_amount (b.shares side);
}
pay before (tlc i) b = record {
  tlcs = b.tlcs;
  standing = without (get_or before.standing i 0) b.standing;
  shares = b.shares;
  paid = b.paid + tlc_amount (get_or b.tlcs (get_or before.standing i 0) []);
}

-- a fault's number: 5 where a TLC is not there, 6 where it is paid already
unfoldable pub unless_faulty : {A : Type 0} → Book → Payee → Book → (ℕ → A) → A → A
unless_faulty before (share side) b fault next = next
unless_faulty before (tlc i) b fault next =
    cond (ltb i (length before.standing)) (cond (member (get_or before.standing i 0) b.standing) next (fault 6)) (fault 5)

-- ---- a call

-- its arguments, with the two buffers or with their lengths
pub record Call (Buffer : Type 0) : Type 0 where
  pub h : ℕ
  pub count : ℕ
  pub behind : List ℕ
  pub out : Buffer
  pub answer : Buffer

-- the length of the state left, or the row's number and place; with a short answer buffer the number alone
pub data BookAnswer : Type 0 where
  alone : ℕ → BookAnswer
  refused : ℕ → ℕ → BookAnswer
  wrote : ℕ → BookAnswer

-- a call that is turned down changes nothing
abbrev pub unmoved : BookAnswer → Book → Transition Book BookAnswer
unmoved a before = record { answer = a; next = before }

-- behind the last unlock, where the output has room for the state left
unfoldable pub close : ℕ → Book → Book → Transition Book BookAnswer
close room before b =
    let len = length (state_of b) in
    cond (leb len room) (record { answer = wrote len; next = b }) (unmoved (refused 13 len) before)

-- the unlocks in order, the first at a place
unfoldable pub run : ℕ → Book → ℕ → Book → List (List ℕ) → Transition Book BookAnswer
run room before at b [] = close room before b
run room before at b (u ∷ us) =
    let next = run room before (at + length u) (pay before (payee_of u) b) us in
    unless_faulty before (payee_of u) b (λ number. unmoved (refused number at) before) next

-- The answer has number 8, place 8, length 8. The first unlock stands behind a count byte and the state.
unfoldable pub enter : Book → Call ℕ → Transition Book BookAnswer
enter b c =
    let at = 1 + length (state_of b) in
    let u = unlocks_in c.behind in
    cond (ltb c.answer 24) (unmoved (alone 14) b)
    (cond (valid_hash_len c.h)
    (cond (eqb (length u.rest) 0) (run c.out b at b u.whole) (unmoved (refused 4 (at + length (flatten u.whole))) b))
    (unmoved (refused 14 0) b))
